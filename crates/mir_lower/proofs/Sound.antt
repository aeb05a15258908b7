-- Each step of the builder keeps a graph sound and open.
use Rattle.std.proofs.Common.{◌≡◌, ℕ, ◌+◌, ◌⊎◌, ⊎_elim, List, [], ◌∷◌, ◌++◌, length, Option, Some, refl, sym, ap, ◌∙◌, subst, arith, length-append}
use Rattle.std.specs.Prelude.{slice_get, option_and_then}
use Rattle.std.proofs.Math.ListN.{length-set}
use Rattle.std.proofs.lemmas.Bool.{cases_lt}
use Rattle.types.specs.declared.ty.Ty.{Ty}
use Rattle.mir.specs.declared.body.Local.{Local}
use Rattle.mir.specs.declared.body.Terminator.{Terminator}
use Rattle.mir.specs.declared.ids.LocalId.{LocalId}
use Rattle.mir.specs.declared.statement.Statement.{Statement}
use Rattle.source_meaning.specs.Source.{Source, Cell, Result, Node, Binding, IndexOf, Never, binding_type, cell_type, node_type, root}
use Rattle.mir_graph.specs.Graph.{Shape, no_statements, more_of, with_statement, with_terminator, with_block, binding_local, local_at, local_of, local_of_type, with_scope}
use Rattle.mir_lower.specs.Growth.{terminator_at, IsUsed, IsStored, IsAllotted, IsSound, IsOpen}
use Rattle.mir_graph.proofs.Lists.{slice_get-front, slice_get-last, slice_get-set_same, slice_get_in, slice_get_below}
use Rattle.mir_lower.proofs.Growing.{current_of, same-local, with_statement-is, with_terminator-is}

-- a cell that is given a local is used
pub stored-is-used : (source : Source) (c : Cell) → IsStored source c → IsUsed source c
stored-is-used source Result stored = tt
stored-is-used source (Node e) stored = stored.0
stored-is-used source (Binding b) stored = tt
stored-is-used source (Never e) stored = stored.0
stored-is-used source (IndexOf e) stored = stored

-- no new local, and no cell with another local
pub no-more-allotted : (source : Source) (old new : Shape) → new.locals ≡ old.locals → ((c : Cell) (l : ℕ) → local_of new c ≡ Some l → local_of old c ≡ Some l) → ((c : Cell) (l : ℕ) → local_of old c ≡ Some l → local_of new c ≡ Some l) →
    IsAllotted source old → IsAllotted source new
no-more-allotted source old new locals before kept allotted =
    let local : (i : ℕ) → slice_get new.locals i ≡ slice_get old.locals i = λ i. ap (λ (l : List Local). slice_get l i) locals in
    record {
      typed = λ c l h. let at = allotted.typed c l (before c l h) in (at.0, local l ∙ at.1, at.2);
      own = λ c d l h k. allotted.own c d l (before c l h) (before d l k);
      cells = λ l x h. let at = allotted.cells l x (sym (local l) ∙ h) in (at.0, at.1, kept at.0 l at.2, at.3);
    }

-- one new local, which a cell is given, while the others keep theirs
pub one-more-allotted : (source : Source) (old new : Shape) (cell : Cell) (ty : Ty) → new.locals ≡ old.locals ++ local_of_type ty ∷ [] → IsStored source cell → local_of new cell ≡ Some (length old.locals) → cell_type source cell ≡ Some ty →
    ((c : Cell) (l : ℕ) → local_of new c ≡ Some l → ((c ≡ cell) × (l ≡ length old.locals)) ⊎ (local_of old c ≡ Some l)) → ((c : Cell) (l : ℕ) → local_of old c ≡ Some l → local_of new c ≡ Some l) → IsAllotted source old → IsAllotted source new
one-more-allotted source old new cell ty locals stored given has cases kept allotted =
    let grown : (i : ℕ) (l : Local) → slice_get old.locals i ≡ Some l → slice_get new.locals i ≡ Some l =
    λ i l h. ap (λ (ls : List Local). slice_get ls i) locals ∙ slice_get-front old.locals (local_of_type ty ∷ []) i l h in
    let long : length new.locals ≡ length old.locals + 1 = ap length locals ∙ length-append old.locals (local_of_type ty ∷ []) in
    let last : slice_get new.locals (length old.locals) ≡ Some (local_of_type ty) =
    ap (λ (ls : List Local). slice_get ls (length old.locals)) locals ∙ slice_get-last old.locals (local_of_type ty) in
    record {
      typed = λ c l h. ⊎_elim
          (λ new-one. (local_of_type ty, ap (slice_get new.locals) new-one.1 ∙ last, ap (cell_type source) new-one.0 ∙ has))
          (λ old-one. let at = allotted.typed c l old-one in (at.0, grown l at.0 at.1, at.2))
          (cases c l h);
      own = λ c d l h k. ⊎_elim
          (λ new-one. ⊎_elim (λ new-other. new-one.0 ∙ sym new-other.0) (λ old-other. absurd (past d l new-one.1 old-other)) (cases d l k))
          (λ old-one. ⊎_elim (λ new-other. absurd (past c l new-other.1 old-one)) (λ old-other. allotted.own c d l old-one old-other) (cases d l k))
          (cases c l h);
      cells = λ l x h. ⊎_elim
          (λ before. let found = slice_get_in old.locals l before in
          let there = grown l found.0 found.1 in
          let same : found.0 ≡ x = cc in
          let at = allotted.cells l x (found.1 ∙ ap Some same) in (at.0, at.1, kept at.0 l at.2, at.3))
          (λ behind. let below = slice_get_below new.locals l x h in
          let new-one : l ≡ length old.locals = omega arith in
          let h' : slice_get new.locals (length old.locals) ≡ Some x = ap (slice_get new.locals) (sym new-one) ∙ h in
          let same : local_of_type ty ≡ x = cc in (cell, stored, given ∙ ap Some (sym new-one), has ∙ ap (λ (y : Local). Some y.ty) same))
          (cases_lt l (length old.locals));
    } where
      past : (c : Cell) (l : ℕ) → l ≡ length old.locals → local_of old c ≡ Some l → ⊥
      past c l is h = let at = allotted.typed c l h in let below = slice_get_below old.locals l at.0 at.1 in omega arith

-- only locals, and which of them hold bindings and expressions, count
pub sound_by : (source : Source) (old new : Shape) → new.locals ≡ old.locals → new.bindings ≡ old.bindings → new.temps ≡ old.temps → IsSound source old → IsSound source new
sound_by source old new locals bindings temps sound =
    let same : (c : Cell) → local_of new c ≡ local_of old c = same-local old new bindings temps in
    record {
      nodes = ap length temps ∙ sound.nodes;
      bound = λ b ty h. let at = sound.bound b ty h in (at.0, same (Binding b) ∙ at.1);
      allotted = no-more-allotted source old new locals (λ c l h. sym (same c) ∙ h) (λ c l h. same c ∙ h) sound.allotted;
    }

pub with_statement-locals : (statement : Statement) (s : Shape) → IsOpen s → (with_statement statement s).locals ≡ s.locals
with_statement-locals statement s opened = let b = current_of s opened in ap (λ (n : Shape). n.locals) (with_statement-is statement s b.0 b.1)

pub with_statement-temps : (statement : Statement) (s : Shape) → IsOpen s → (with_statement statement s).temps ≡ s.temps
with_statement-temps statement s opened = let b = current_of s opened in ap (λ (n : Shape). n.temps) (with_statement-is statement s b.0 b.1)

pub with_statement-scope : (statement : Statement) (s : Shape) → IsOpen s → (with_statement statement s).scope ≡ s.scope
with_statement-scope statement s opened = let b = current_of s opened in ap (λ (n : Shape). n.scope) (with_statement-is statement s b.0 b.1)

pub with_statement-bindings : (statement : Statement) (s : Shape) → IsOpen s → (with_statement statement s).bindings ≡ s.bindings
with_statement-bindings statement s opened = let b = current_of s opened in ap (λ (n : Shape). n.bindings) (with_statement-is statement s b.0 b.1)

pub with_statement-sound : (source : Source) (statement : Statement) (s : Shape) → IsOpen s → IsSound source s → IsSound source (with_statement statement s)
with_statement-sound source statement s opened sound =
    sound_by source s (with_statement statement s) (with_statement-locals statement s opened) (with_statement-bindings statement s opened) (with_statement-temps statement s opened) sound

pub with_statement-open : (statement : Statement) (s : Shape) → IsOpen s → IsOpen (with_statement statement s)
unfolding terminator_at
with_statement-open statement s opened =
    let b = current_of s opened in
    subst IsOpen (sym (with_statement-is statement s b.0 b.1)) (record {
      there = let n = length-set s.blocks s.current (more_of statement b.0) in let h = opened.there in omega arith;
      unended = ap (option_and_then (λ block. block.terminator)) (slice_get-set_same s.blocks s.current (more_of statement b.0) opened.there) ∙ b.2;
    })

pub with_terminator-sound : (source : Source) (t : Terminator) (s : Shape) → IsOpen s → IsSound source s → IsSound source (with_terminator t s)
with_terminator-sound source t s opened sound =
    let b = current_of s opened in
    sound_by source s (with_terminator t s) (ap (λ (n : Shape). n.locals) (with_terminator-is t s b.0 b.1)) (ap (λ (n : Shape). n.bindings) (with_terminator-is t s b.0 b.1)) (ap (λ (n : Shape). n.temps) (with_terminator-is t s b.0 b.1)) sound

pub with_block-sound : (source : Source) (s : Shape) → IsSound source s → IsSound source (with_block s)
unfolding with_block
with_block-sound source s sound = sound_by source s (with_block s) refl refl refl sound

pub with_block-open : (s : Shape) → IsOpen (with_block s)
unfolding with_block terminator_at
with_block-open s =
    record {
      there = let n = length-append s.blocks (no_statements ∷ []) in omega arith;
      unended = ap (option_and_then (λ block. block.terminator)) (slice_get-last s.blocks no_statements);
    }

pub with_terminator-scope : (t : Terminator) (s : Shape) → IsOpen s → (with_terminator t s).scope ≡ s.scope
with_terminator-scope t s opened = let b = current_of s opened in ap (λ (n : Shape). n.scope) (with_terminator-is t s b.0 b.1)

pub with_terminator-targets : (t : Terminator) (s : Shape) → IsOpen s → (with_terminator t s).targets ≡ s.targets
with_terminator-targets t s opened = let b = current_of s opened in ap (λ (n : Shape). n.targets) (with_terminator-is t s b.0 b.1)

pub with_block-scope : (s : Shape) → (with_block s).scope ≡ s.scope
unfolding with_block
with_block-scope s = refl

-- the scope itself counts for nothing
pub with_scope-sound : (source : Source) (scope : List Cell) (s : Shape) → IsSound source s → IsSound source (with_scope scope s)
with_scope-sound source scope s sound = sound_by source s (with_scope scope s) refl refl refl sound

pub with_scope-open : (scope : List Cell) (s : Shape) → IsOpen s → IsOpen (with_scope scope s)
unfolding terminator_at
with_scope-open scope s opened = record { there = opened.there; unended = opened.unended }

pub binding_local-grows : (old new : Shape) (b l : ℕ) → new.bindings ≡ old.bindings → binding_local old b ≡ Some l → binding_local new b ≡ Some l
unfolding binding_local
binding_local-grows old new b l same h = ap (λ (t : List (Option LocalId)). local_at t b) same ∙ h

-- the return slot has the type of the body's root
pub slot-there : (source : Source) (s : Shape) → IsSound source s → (local : Local) × (slice_get s.locals 0 ≡ Some local) × (node_type source (root source) ≡ Some local.ty)
slot-there source s sound = sound.allotted.typed Result 0 refl

-- each binding that no closure owns has a local of its type
pub binding-there : (source : Source) (s : Shape) → IsSound source s → (b : ℕ) (ty : Ty) → binding_type source b ≡ Some ty → (l : ℕ) × (slice_get s.locals l ≡ Some (local_of_type ty))
binding-there source s sound b ty typed =
    let at = sound.bound b ty typed in
    let there = sound.allotted.typed (Binding b) at.0 at.1 in
    let same : ty ≡ there.0.ty = (let is = there.2 in cc) in
    (at.0, there.1 ∙ ap (λ (t : Ty). Some (local_of_type t)) (sym same))
