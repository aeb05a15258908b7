-- What each step of the builder leaves as it was: of the blocks that stood there, all but the current one.
use Rattle.std.proofs.Common.{◌≡◌, ◌≢◌, ℕ, ◌<◌, ◌≤◌, ⊎_elim, inl, inr, List, [], ◌∷◌, length, refl, sym, ap, ◌∙◌, subst, arith, length-append}
use Rattle.std.specs.Prelude.{slice_get, slice_set}
use Rattle.std.proofs.Math.ListN.{length-set}
use Rattle.mir.specs.declared.body.BasicBlock.{BasicBlock}
use Rattle.mir.specs.declared.body.Terminator.{Terminator}
use Rattle.mir.specs.declared.statement.Statement.{Statement}
use Rattle.source_meaning.specs.Source.{Cell}
use Rattle.mir_graph.specs.Graph.{Shape, no_statements, more_of, ended, with_statement, with_terminator, with_block, with_scope}
use Rattle.mir_lower.specs.Growth.{Spares, IsOpen}
use Rattle.mir_lower.proofs.Growing.{current_of, with_statement-is, with_terminator-is}
use Rattle.mir_graph.proofs.Lists.{slice_get-front, slice_get-set_other, slice_get_in}

-- no block is touched
pub spares-same : (old new : Shape) → new.blocks ≡ old.blocks → new.current ≡ old.current → new.targets ≡ old.targets → Spares old new
spares-same old new blocks current targets =
    record {
      others = λ at apart within. ap (λ (b : List BasicBlock). slice_get b at) blocks;
      moves = inl current;
      many = let long : length new.blocks ≡ length old.blocks = ap length blocks in omega arith;
      targets = targets;
    }

pub spares-refl : (s : Shape) → Spares s s
spares-refl s = spares-same s s refl refl refl

pub spares-trans : (a b c : Shape) → Spares a b → Spares b c → Spares a c
spares-trans a b c first second =
    record {
      others = λ at apart within.
          let apart' : at ≢ b.current = λ same. ⊎_elim (λ stays. apart (same ∙ stays)) (λ moved. absurd (omega arith)) first.moves in
          let within' : at < length b.blocks = (let long = first.many in omega arith) in
          second.others at apart' within' ∙ first.others at apart within;
      moves = ⊎_elim
          (λ stays. ⊎_elim (λ stays'. inl (stays ∙ stays')) (λ moved. inr (omega arith)) first.moves)
          (λ moved. inr (let long = first.many in omega arith))
          second.moves;
      many = let one = first.many in let two = second.many in omega arith;
      targets = second.targets ∙ first.targets;
    }

-- the current block alone is changed
spares-set : (s : Shape) (block : BasicBlock) → Spares s (record s { blocks = slice_set s.blocks s.current block })
spares-set s block =
    record {
      others = λ at apart within. slice_get-set_other s.blocks s.current at block (λ same. apart (sym same));
      moves = inl refl;
      many = let long = length-set s.blocks s.current block in omega arith;
      targets = refl;
    }

pub with_statement-spares : (statement : Statement) (s : Shape) → IsOpen s → Spares s (with_statement statement s)
with_statement-spares statement s opened =
    let block = current_of s opened in
    subst (λ (n : Shape). Spares s n) (sym (with_statement-is statement s block.0 block.1)) (spares-set s (more_of statement block.0))

pub with_terminator-spares : (t : Terminator) (s : Shape) → IsOpen s → Spares s (with_terminator t s)
with_terminator-spares t s opened =
    let block = current_of s opened in
    subst (λ (n : Shape). Spares s n) (sym (with_terminator-is t s block.0 block.1)) (spares-set s (ended t block.0))

-- a new block is none of those that stood there
pub with_block-spares : (s : Shape) → Spares s (with_block s)
unfolding with_block
with_block-spares s =
    record {
      others = λ at apart within. let found = slice_get_in s.blocks at within in slice_get-front s.blocks (no_statements ∷ []) at found.0 found.1 ∙ sym found.1;
      moves = inr (omega arith);
      many = let long = length-append s.blocks (no_statements ∷ []) in omega arith;
      targets = refl;
    }

pub with_scope-spares : (scope : List Cell) (s : Shape) → Spares s (with_scope scope s)
with_scope-spares scope s = spares-same s (with_scope scope s) refl refl refl

-- a scope that was left
pub scoped-spares : (s0 s1 s2 : Shape) → Spares s0 s1 → (outer : List Cell) → Spares (with_scope outer s1) s2 → Spares s0 s2
scoped-spares s0 s1 s2 first outer second = spares-trans s0 s1 s2 first (spares-trans s1 (with_scope outer s1) s2 (with_scope-spares outer s1) second)

-- where a block becomes the current one that a graph did not have, what that graph had is left as it was
pub spares-entered : (first old new : Shape) → Spares first old → ((at : ℕ) → at ≢ old.current → slice_get new.blocks at ≡ slice_get old.blocks at) → length new.blocks ≡ length old.blocks → new.targets ≡ old.targets → length first.blocks ≤ new.current → Spares first new
spares-entered first old new spares others same targets behind =
    record {
      others = λ at apart within.
          let apart' : at ≢ old.current = λ here. ⊎_elim (λ stays. apart (here ∙ stays)) (λ moved. absurd (omega arith)) spares.moves in
          others at apart' ∙ spares.others at apart within;
      moves = inr behind;
      many = let long = spares.many in omega arith;
      targets = targets ∙ spares.targets;
    }
