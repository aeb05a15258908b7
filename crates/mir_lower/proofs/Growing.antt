-- Each step of the builder grows the graph, and keeps it sound.
use Rattle.std.proofs.Common.{◌≡◌, ℕ, ⊎_elim, List, [], ◌∷◌, ◌++◌, Option, Some, None, refl, sym, ap, ◌∙◌, subst}
use Rattle.source_meaning.specs.Source.{Cell, Result, Node, Binding, Never, IndexOf}
use Rattle.std.specs.Prelude.{slice_get, slice_set, option_and_then}
use Rattle.std.proofs.lemmas.Bool.{cases_eq}
use Rattle.std.proofs.lemmas.Option.{option_and_then_some}
use Rattle.mir.specs.Projections.{projection_of}
use Rattle.mir.specs.declared.body.BasicBlock.{BasicBlock}
use Rattle.mir.specs.declared.body.Local.{Local}
use Rattle.mir.specs.declared.body.Terminator.{Terminator}
use Rattle.mir.specs.declared.ids.LocalId.{LocalId}
use Rattle.mir.specs.declared.statement.Statement.{Statement}
use Rattle.mir_graph.specs.Graph.{Shape, no_statements, more_of, ended, with_current, with_statement, with_terminator, with_block, temp_at, temp_of, never_of, index_local, local_at, binding_local, local_of, with_scope}
use Rattle.mir_graph.specs.declared.graph.Temps.{Temps}
use Rattle.mir_lower.specs.Growth.{statement_at, terminator_at, Grows, IsOpen}
use Rattle.mir_graph.proofs.Lists.{slice_get-front, slice_get-set_same, slice_get-set_other, slice_get_in, slice_get_below}

-- the statements that a block had, the block has
pub record BlockGrows (old new : BasicBlock) : Type 0 where
  pub statements : (i : ℕ) (statement : Statement) → slice_get old.statements i ≡ Some statement → slice_get new.statements i ≡ Some statement

-- so have all blocks, and those that were ended stay
pub record BlocksGrow (old new : List BasicBlock) : Type 0 where
  pub each : (b : ℕ) (block : BasicBlock) → slice_get old b ≡ Some block → (later : BasicBlock) × (slice_get new b ≡ Some later) × BlockGrows block later
  pub ended : (b : ℕ) (block : BasicBlock) (t : Terminator) → slice_get old b ≡ Some block → block.terminator ≡ Some t → slice_get new b ≡ Some block

same_block : (block : BasicBlock) → BlockGrows block block
same_block block = record { statements = λ i s h. h }

pub same_blocks : (blocks : List BasicBlock) → BlocksGrow blocks blocks
same_blocks blocks = record { each = λ b block there. (block, there, same_block block); ended = λ b block t there is. there }

more_grows : (statement : Statement) (block : BasicBlock) → BlockGrows block (more_of statement block)
more_grows statement block = record { statements = λ i s h. slice_get-front block.statements (statement ∷ []) i s h }

ended_grows : (t : Terminator) (block : BasicBlock) → BlockGrows block (ended t block)
ended_grows t block = record { statements = λ i s h. h }

set_grows : (blocks : List BasicBlock) (at : ℕ) (old new : BasicBlock) → slice_get blocks at ≡ Some old → old.terminator ≡ None → BlockGrows old new → BlocksGrow blocks (slice_set blocks at new)
set_grows blocks at old new found unended grows =
    record {
      each = λ b block there. ⊎_elim
          (λ same. let is : old ≡ block = let there' : slice_get blocks at ≡ Some block = ap (slice_get blocks) (sym same) ∙ there in cc in
          (new, ap (slice_get (slice_set blocks at new)) same ∙ slice_get-set_same blocks at new (slice_get_below blocks at old found), subst (λ x. BlockGrows x new) is grows))
          (λ differ. (block, slice_get-set_other blocks at b new (λ e. differ (sym e)) ∙ there, same_block block))
          (cases_eq b at);
      ended = λ b block t there is. ⊎_elim
          (λ same. let there' : slice_get blocks at ≡ Some block = ap (slice_get blocks) (sym same) ∙ there in
          let one : old ≡ block = cc in
          let none : block.terminator ≡ None = ap (λ (x : BasicBlock). x.terminator) (sym one) ∙ unended in cc)
          (λ differ. slice_get-set_other blocks at b new (λ e. differ (sym e)) ∙ there)
          (cases_eq b at);
    }

pub append_grows : (blocks more : List BasicBlock) → BlocksGrow blocks (blocks ++ more)
append_grows blocks more =
    record {
      each = λ b block there. (block, slice_get-front blocks more b block there, same_block block);
      ended = λ b block t there is. slice_get-front blocks more b block there;
    }

-- a graph grows where its blocks do, and its locals and cells keep what they have
pub grows_by : (old new : Shape) → BlocksGrow old.blocks new.blocks → new.bindings ≡ old.bindings → new.projections ≡ old.projections → ((i : ℕ) (l : Local) → slice_get old.locals i ≡ Some l → slice_get new.locals i ≡ Some l) → ((c : Cell) (l : ℕ) → local_of old c ≡ Some l → local_of new c ≡ Some l) → Grows old new
unfolding statement_at
grows_by old new blocks bindings kept locals cells =
    record {
      statements = λ b i s there. option_and_then_some (λ block. slice_get block.statements i) (slice_get old.blocks b) s there (λ block found at.
          let later = blocks.each b block found in
          ap (option_and_then (λ block. slice_get block.statements i)) later.1 ∙ later.2.statements i s at);
      ended = λ b block t there is. blocks.ended b block t there is;
      locals = locals;
      bindings = bindings;
      temps = λ e l h. cells (Node e) l h;
      nevers = λ e l h. cells (Never e) l h;
      indices = λ e l h. cells (IndexOf e) l h;
      projections = λ id elements h. subst (λ ps. projection_of ps id ≡ Some elements) (sym kept) h;
    }

-- a cell's local, where the tables stay
pub same-local : (old new : Shape) → new.bindings ≡ old.bindings → new.temps ≡ old.temps → (c : Cell) → local_of new c ≡ local_of old c
unfolding temp_of never_of index_local binding_local
same-local old new bindings temps Result = refl
same-local old new bindings temps (Node e) = ap (λ (t : List Temps). temp_at (λ held. held.value) t e) temps
same-local old new bindings temps (Never e) = ap (λ (t : List Temps). temp_at (λ held. held.never) t e) temps
same-local old new bindings temps (IndexOf e) = ap (λ (t : List Temps). temp_at (λ held. held.index) t e) temps
same-local old new bindings temps (Binding b) = ap (λ (t : List (Option LocalId)). local_at t b) bindings

-- so does a graph where nothing but its blocks is another
pub grows_blocks : (old new : Shape) → BlocksGrow old.blocks new.blocks → new.bindings ≡ old.bindings → new.projections ≡ old.projections → new.locals ≡ old.locals → new.temps ≡ old.temps → Grows old new
grows_blocks old new blocks bindings kept locals temps =
    grows_by old new blocks bindings kept (λ i l h. ap (λ (ls : List Local). slice_get ls i) locals ∙ h) (λ c l h. same-local old new bindings temps c ∙ h)

pub grows-refl : (s : Shape) → Grows s s
grows-refl s = record { statements = λ b i x h. h; ended = λ b block t h is. h; locals = λ i l h. h; bindings = refl; temps = λ e l h. h; nevers = λ e l h. h; indices = λ e l h. h; projections = λ id elements h. h }

pub grows-trans : (a b c : Shape) → Grows a b → Grows b c → Grows a c
grows-trans a b c first second =
    record {
      statements = λ k i x h. second.statements k i x (first.statements k i x h);
      ended = λ k block t h is. second.ended k block t (first.ended k block t h is) is;
      locals = λ i l h. second.locals i l (first.locals i l h);
      bindings = second.bindings ∙ first.bindings;
      temps = λ e l h. second.temps e l (first.temps e l h);
      nevers = λ e l h. second.nevers e l (first.nevers e l h);
      indices = λ e l h. second.indices e l (first.indices e l h);
      projections = λ id elements h. second.projections id elements (first.projections id elements h);
    }

-- the current block of an open graph
pub current_of : (s : Shape) → IsOpen s → (block : BasicBlock) × (slice_get s.blocks s.current ≡ Some block) × (block.terminator ≡ None)
unfolding terminator_at
current_of s opened =
    let found = slice_get_in s.blocks s.current opened.there in
    (found.0, found.1, ap (option_and_then (λ block. block.terminator)) (sym found.1) ∙ opened.unended)

-- one more statement
pub with_statement-is : (statement : Statement) (s : Shape) (block : BasicBlock) → slice_get s.blocks s.current ≡ Some block → with_statement statement s ≡ record s { blocks = slice_set s.blocks s.current (more_of statement block) }
unfolding with_statement
with_statement-is statement s block found = ap (with_current (more_of statement) s) found

pub with_terminator-is : (t : Terminator) (s : Shape) (block : BasicBlock) → slice_get s.blocks s.current ≡ Some block → with_terminator t s ≡ record s { blocks = slice_set s.blocks s.current (ended t block) }
unfolding with_terminator
with_terminator-is t s block found = ap (with_current (ended t) s) found

pub with_statement-grows : (statement : Statement) (s : Shape) → IsOpen s → Grows s (with_statement statement s)
with_statement-grows statement s opened =
    let block = current_of s opened in
    subst (λ (n : Shape). Grows s n) (sym (with_statement-is statement s block.0 block.1))
    (grows_blocks s (record s { blocks = slice_set s.blocks s.current (more_of statement block.0) })
    (set_grows s.blocks s.current block.0 (more_of statement block.0) block.1 block.2 (more_grows statement block.0)) refl refl refl refl)

pub with_terminator-grows : (t : Terminator) (s : Shape) → IsOpen s → Grows s (with_terminator t s)
with_terminator-grows t s opened =
    let block = current_of s opened in
    subst (λ (n : Shape). Grows s n) (sym (with_terminator-is t s block.0 block.1))
    (grows_blocks s (record s { blocks = slice_set s.blocks s.current (ended t block.0) })
    (set_grows s.blocks s.current block.0 (ended t block.0) block.1 block.2 (ended_grows t block.0)) refl refl refl refl)

pub with_block-grows : (s : Shape) → Grows s (with_block s)
unfolding with_block
with_block-grows s = grows_blocks s (with_block s) (append_grows s.blocks (no_statements ∷ [])) refl refl refl refl

pub with_scope-grows : (scope : List Cell) (s : Shape) → Grows s (with_scope scope s)
with_scope-grows scope s = grows_blocks s (with_scope scope s) (same_blocks s.blocks) refl refl refl refl
