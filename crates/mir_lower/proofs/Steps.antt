-- One assignment: what the source writes is written to the local of its cell.
use Rattle.std.proofs.Common.{◌≡◌, ℕ, zero, suc, ◌⊎◌, ⊎_elim, inl, inr, Bool, true, false, cond, List, length, Option, Some, None, Ok, Err, refl, sym, ◌∙◌, subst, eqb}
use borrow.Author.Tests.{eqb-true}
use Rattle.source_meaning.specs.Core.{CoreExpr, Operation}
use Rattle.types.specs.declared.ty.Ty.{Ty}
use Rattle.numbers.specs.Operators.{Answer, Computes, Panics, Undefined}
use Rattle.mir.specs.declared.errors.MirEvalError as error
use Rattle.mir.specs.declared.ids.LocalId.{LocalId}
use Rattle.mir.specs.declared.operand.Rvalue.{Rvalue}
use Rattle.mir.specs.declared.span.MirSpan.{MirSpan}
use Rattle.mir.specs.declared.statement.Statement.{Statement}
use Rattle.mir.specs.declared.statement.StatementKind.TheVariants.{Assign}
use Rattle.mir.specs.Memory.{Memory, number_held}
use Rattle.mir.specs.Run.{Frame, after_statement, out_of_bounds as mir_out_of_bounds, read, reads_out, rvalue_bytes}
use Rattle.source_meaning.specs.Around.{Around}
use Rattle.source_meaning.specs.Ends.{no_cost, End, Go, Faults, Stuck}
use Rattle.source_meaning.specs.Meaning.{Value, answered as answered_to, answered_for, copy_to, level_at, callees_at, out_of_bounds, put, put_answer, within_bounds, into_of}
use Rattle.source_meaning.specs.Source.{Source, node, Cell, Result as Slot, Node, Binding, IndexOf, Never, Path, Store, with_cell_bytes}
use Rattle.source_meaning.proofs.Costs.{after-none}
use Rattle.mir_lower.specs.Does.{Stands, here, IsFrameOf, Holds, Landings, Reaches, Performs, Nothing, DoesOwn}
use Rattle.mir.specs.WholePlaces.{whole_place}
use Rattle.mir.proofs.WholePlaces.{whole-cell}
use Rattle.mir_graph.specs.Graph.{Shape, with_statement, local_of}
use Rattle.mir_lower.specs.Growth.{Grows, IsSound, IsOpen, IsPlaced}
use Rattle.mir_lower.specs.Runs.{Point, run_from, Comes}
use Rattle.mir_lower.proofs.Holding.{assigns, interval-of}
use Rattle.mir_lower.proofs.Reaching.{none-entered, reaches-after}
use Rattle.mir_lower.proofs.Rvalues.{Agrees}
use Rattle.mir_lower.proofs.Running.{comes-statement, ends-statement}
use Rattle.mir_lower.proofs.Sound.{binding_local-grows}
use Rattle.mir_lower.proofs.Within.{assigns-out, assigns-panic}
use Rattle.mir_lower.specs.Callees.{Serves}
use Rattle.mir_lower.proofs.Serving.{serves-less}

by_test : {A : Type 0} (m n : ℕ) (fits not : A) (b : Bool) → eqb m n ≡ b → ((m ≡ n) × (cond b fits not ≡ fits)) ⊎ (cond b fits not ≡ not)
by_test m n fits not true is = inl (eqb-true m n is, refl)
by_test m n fits not false is = inr refl

-- the test that a write's bytes fit their cell
put-cases : (store : Store) (path : Path) (bytes : List ℕ) → ((length bytes ≡ length (store path.cell)) × (put store path bytes ≡ Go tt (with_cell_bytes store path.cell bytes) no_cost)) ⊎ (put store path bytes ≡ Stuck)
unfolding put
put-cases store path bytes = by_test (length bytes) (length (store path.cell)) (Go tt (with_cell_bytes store path.cell bytes) no_cost) Stuck (eqb (length bytes) (length (store path.cell))) refl

pub local_of-grows : (old new : Shape) → Grows old new → (c : Cell) (l : ℕ) → local_of old c ≡ Some l → local_of new c ≡ Some l
local_of-grows old new grows Slot l h = h
local_of-grows old new grows (Node e) l h = grows.temps e l h
local_of-grows old new grows (Binding b) l h = binding_local-grows old new b l grows.bindings h
local_of-grows old new grows (Never e) l h = grows.nevers e l h
local_of-grows old new grows (IndexOf e) l h = grows.indices e l h

pub placed-later : (old new : Shape) → Grows old new → (local : ℕ) → IsPlaced old local → IsPlaced new local
placed-later old new grows local placed = record { cell = placed.cell; found = local_of-grows old new grows placed.cell local placed.found }

-- an assignment of bytes, or of what an operator answers
module _ (source : Source) (s whole : Shape) (frame : Frame) (to : LocalId) (rvalue : Rvalue) (span : MirSpan) (opened : IsOpen s) (sound : IsSound source whole) (is : IsFrameOf whole frame) (lands : Landings) (grows : Grows (with_statement (record { kind = Assign (whole_place to) rvalue; span = span }) s) whole) (c : Cell) (local : local_of whole c ≡ Some to.0) (store : Store) (memory : Memory) (holds : Holds whole frame store memory) where
  abbrev added : Statement
  added = record { kind = Assign (whole_place to) rvalue; span = span }

  pub assigned-bytes : (bytes : List ℕ) → rvalue_bytes frame memory rvalue ≡ Ok bytes → Reaches source whole lands frame (here s) (here (with_statement added s)) memory (Nothing whole frame) (put store (record { cell = c }) bytes)
  assigned-bytes bytes computes =
      ⊎_elim
      (λ fits.
      let done = assigns source whole frame sound is store memory holds c to rvalue bytes local computes fits.0 in
      subst (Reaches source whole lands frame (here s) (here (with_statement added s)) memory (Nothing whole frame)) (sym fits.1)
      (inr (done.0, comes-statement added s whole frame memory opened grows is done.0 done.1 done.3, done.2, tt)))
      (λ stuck. subst (Reaches source whole lands frame (here s) (here (with_statement added s)) memory (Nothing whole frame)) (sym stuck) (inr tt))
      (put-cases store (record { cell = c }) bytes)

  faults : (word : List ℕ) → rvalue_bytes frame memory rvalue ≡ Err (error.Panic word) → after_statement frame memory (Assign (whole_place to) rvalue) ≡ Err (error.Panic word)
  faults word err =
      let at = interval-of frame memory to.0 (store c) (holds.shows c to.0 local) in
      assigns-panic frame memory (whole_place to) rvalue at.0 word (whole-cell frame.program.world frame.body (number_held memory frame.cells) frame.cells (whole_place to) refl ∙ at.1) err

  pub assigned-agreeing : (answer : Answer) → Agrees answer (rvalue_bytes frame memory rvalue) → Reaches source whole lands frame (here s) (here (with_statement added s)) memory (Nothing whole frame) (put_answer store (record { cell = c }) answer)
  assigned-agreeing (Computes bytes) computes = assigned-bytes bytes computes
  assigned-agreeing (Panics word) computes = inr (ends-statement added s whole frame memory opened grows is (error.Panic word) (faults word computes))
  assigned-agreeing Undefined computes = inr tt

  -- or of what an operation answers for values, where there are some
  pub assigned-values : (ty : Option Ty) (operation : Operation) (values : Option (List Value)) → ((given : List Value) → values ≡ Some given → Agrees (answered_to source.world ty operation given) (rvalue_bytes frame memory rvalue)) → Reaches source whole lands frame (here s) (here (with_statement added s)) memory (Nothing whole frame) (put_answer store (record { cell = c }) (answered_for source.world ty operation values))
  assigned-values ty operation (Some given) agrees = assigned-agreeing (answered_to source.world ty operation given) (agrees given refl)
  assigned-values ty operation None agrees = inr tt

  -- or of bytes that were read, where there are some
  pub assigned-copy : (given : Option (List ℕ)) → rvalue_bytes frame memory rvalue ≡ read given → Reaches source whole lands frame (here s) (here (with_statement added s)) memory (Nothing whole frame) (copy_to store (record { cell = c }) given)
  assigned-copy (Some bytes) computes = assigned-bytes bytes computes
  assigned-copy None computes = inr tt

  -- or a panic, where something that is read is out of bounds
  pub assigned-out : reads_out frame.program.world frame.body (number_held memory frame.cells) rvalue ≡ true → Reaches source whole lands frame (here s) (here (with_statement added s)) memory (Nothing whole frame) (Faults out_of_bounds no_cost)
  assigned-out reads = inr (ends-statement added s whole frame memory opened grows is mir_out_of_bounds (assigns-out frame memory (whole_place to) rvalue reads))

  -- by whether something that is read is out of bounds
  pub assigned-within : (out : Bool) → reads_out frame.program.world frame.body (number_held memory frame.cells) rvalue ≡ out → (end : End (Unit {0})) → (out ≡ false → Reaches source whole lands frame (here s) (here (with_statement added s)) memory (Nothing whole frame) end) → Reaches source whole lands frame (here s) (here (with_statement added s)) memory (Nothing whole frame) (within_bounds out end)
  assigned-within true reads end within = assigned-out reads
  assigned-within false reads end within = within refl

-- what an end does from a point on, it does from one that leads there over no block
pub reaches-from : {A : Type 0} (source : Source) (whole : Shape) (lands : Landings) (frame : Frame) (p q to : Point) (memory : Memory) (claim : A → Type 0) → Comes frame 0 0 p memory q memory → (end : End A) → Reaches source whole lands frame q to memory claim end → Reaches source whole lands frame p to memory claim end
reaches-from source whole lands frame p q to memory claim comes end reaches =
    subst (Reaches source whole lands frame p to memory claim) (after-none end)
    (reaches-after source whole lands frame p q to memory memory claim no_cost comes end reaches)

-- an expression itself does what its form does with one unit of fuel less, and so do the bodies that calls enter
pub does-with-callees : (source : Source) (old new : Shape) (e : ℕ) (c : Cell) (form : Option CoreExpr) → node source e ≡ form →
    ((whole : Shape) (frame : Frame) → Grows new whole → IsSound source whole → IsFrameOf whole frame → (lands : Landings) (around : Around) → Stands whole old lands around → (fuel : ℕ) → Serves (suc fuel) source frame.program → (store : Store) (memory : Memory) → Holds whole frame store memory →
    Reaches source whole lands frame (here old) (here new) memory (Nothing whole frame) (into_of source (level_at source fuel) (callees_at fuel) around e form (record { cell = c }) store)) → DoesOwn source old new e c
unfolding level_at
does-with-callees source old new e c form is performs =
    record { reaches = λ whole frame grows sound frame-is lands around stands fuel serves store memory holds. by-fuel whole frame grows sound frame-is lands around stands fuel serves store memory holds } where
      by-fuel : (whole : Shape) (frame : Frame) → Grows new whole → IsSound source whole → IsFrameOf whole frame → (lands : Landings) (around : Around) → Stands whole old lands around → (fuel : ℕ) → Serves fuel source frame.program → (store : Store) (memory : Memory) → Holds whole frame store memory → Reaches source whole lands frame (here old) (here new) memory (Nothing whole frame) ((level_at source fuel around).own e (record { cell = c }) store)
      by-fuel whole frame grows sound frame-is lands around stands zero serves store memory holds = inr (none-entered (run_from frame memory (here old)))
      by-fuel whole frame grows sound frame-is lands around stands (suc fuel) serves store memory holds =
          subst (λ f. Reaches source whole lands frame (here old) (here new) memory (Nothing whole frame) (into_of source (level_at source fuel) (callees_at fuel) around e f (record { cell = c }) store)) (sym is)
          (performs whole frame grows sound frame-is lands around stands fuel serves store memory holds)

pub does-form : (source : Source) (old new : Shape) (e : ℕ) (c : Cell) (form : Option CoreExpr) → node source e ≡ form → Performs source old new Nothing (λ around fuel store. into_of source (level_at source fuel) (callees_at fuel) around e form (record { cell = c }) store) → DoesOwn source old new e c
does-form source old new e c form is performs =
    does-with-callees source old new e c form is
    (λ whole frame grows sound frame-is lands around stands fuel serves store memory holds.
    performs.reaches whole frame grows sound frame-is lands around stands fuel (serves-less fuel source frame.program serves) store memory holds)
