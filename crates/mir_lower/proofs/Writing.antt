-- What an assignment to a place of the graph writes: what the source writes to its place.
use Rattle.std.proofs.Common.{◌≡◌, ℕ, Bool, true, false, ⊎_elim, inr, cond, List, [], ◌∷◌, Option, Some, None, Ok, Err, option_and_then, option_map, refl, sym, ap, ◌∙◌}
use Rattle.std.specs.Prelude.{codes, slice_get}
use Rattle.std.proofs.lemmas.Option.{option_and_then_some}
use Rattle.types.specs.declared.ty.Ty.{Ty}
use Rattle.world.specs.declared.database.HirDatabase.{HirDatabase}
use Rattle.numbers.specs.Operators.{Answer, Computes, Panics, Undefined}
use Rattle.mir.specs.Areas.{with_bytes}
use Rattle.mir.specs.declared.address.Interval.{Interval}
use Rattle.mir.specs.declared.errors.MirEvalError as error
use Rattle.mir.specs.declared.ids.LocalId.{LocalId}
use Rattle.mir.specs.declared.operand.Place.{Place as GraphPlace}
use Rattle.mir.specs.declared.operand.Rvalue.{Rvalue}
use Rattle.mir.specs.declared.span.MirSpan.{MirSpan}
use Rattle.mir.specs.declared.statement.Statement.{Statement}
use Rattle.mir.specs.declared.statement.StatementKind.TheVariants.{Assign}
use Rattle.mir.specs.Memory.{Memory, cell_bytes, number_held}
use Rattle.mir.specs.Places as graph
use Rattle.mir.specs.Places.{part_of_cell, cell_at, cell_behind, place_cell}
use Rattle.mir.specs.Elements.{PlaceElem as GraphElem}
use Rattle.mir.specs.Projections.{Projection}
use Rattle.mir.specs.Run.{Frame, after_statement, assigned, assigns_out, bad_write, cell_now, copied, operand_bytes as mir_bytes, read, rvalue_bytes}
use Rattle.source_meaning.specs.Ends.{End, Faults, no_cost}
use Rattle.source_meaning.specs.Core.{Operation}
use Rattle.source_meaning.specs.Meaning.{Value, answer_at, answered, answered_for, copy_at, operand_kind, out_of_bounds, put_all, put_at, values_of, within_bounds}
use Rattle.source_meaning.specs.Places as source_place
use Rattle.source_meaning.specs.Places.{bytes_with, cell_with, place_bytes}
use Rattle.source_meaning.specs.Core.{PlaceElem}
use Rattle.source_meaning.specs.Source.{Source, Store, IndexOf, cell_type, number_held as held_number, Place, Operand, At, with_cell_bytes}
use Rattle.mir_lower.specs.Does.{here, AreElements, Holds, IsAt, IsFrameOf, Landings, Nothing, Reaches}
use Rattle.mir_graph.specs.Graph.{Shape, local_of, with_statement}
use Rattle.mir_lower.specs.Growth.{Grows, IsOpen, IsSound}
use Rattle.mir_lower.specs.Runs.{KeepsOthers, local_bytes}
use Rattle.mir_lower.proofs.Holding.{cells, interval-of, local_bytes-at}
use Rattle.mir_lower.proofs.Patching.{IsPatched, part-patched, whole-patched}
use Rattle.mir_lower.proofs.Reading.{found-elements, held-number, local-type, place-fits, same-offset, same-type, size_at}
use Rattle.mir_lower.proofs.Running.{comes-statement, ends-statement}
use Rattle.mir_lower.proofs.Rvalues.{Agrees}
use Rattle.mir_lower.proofs.Stack.{read-apart}
use Rattle.mir_lower.proofs.Within.{assigns-bytes, assigns-panic}

-- where elements lead to in a cell: as far as those of the source do, and over as many bytes
behind-is : (s : Shape) (world : HirDatabase) (numbers : LocalId → Option ℕ) (held : ℕ → Option ℕ) → ((e local : ℕ) → local_of s (IndexOf e) ≡ Some local → numbers (record { 0 = local }) ≡ held e) → (cell : Interval) (elem : PlaceElem) (rest : List PlaceElem) (one : GraphElem) (others : Projection) → AreElements s (elem ∷ rest) (one ∷ others) → (ty : Option Ty) →
    cell_behind world numbers (one ∷ others) ty cell
    ≡ option_and_then (λ at. option_and_then (part_of_cell cell at) (size_at world (source_place.type_behind world (elem ∷ rest) ty))) (source_place.offset_behind world held (elem ∷ rest) ty)
unfolding cell_behind
behind-is s world numbers held agree cell elem rest one others are ty =
    ap (λ t. option_and_then (λ at. option_and_then (part_of_cell cell at) (size_at world t)) (graph.offset_behind world numbers (one ∷ others) ty)) (same-type s world (elem ∷ rest) (one ∷ others) are ty)
    ∙ ap (option_and_then (λ at. option_and_then (part_of_cell cell at) (size_at world (source_place.type_behind world (elem ∷ rest) ty)))) (same-offset s world numbers held agree (elem ∷ rest) (one ∷ others) are ty)

-- A place of the graph that is one of the source is written as that is, whenever store and memory agree; afterwards they agree again.
module _ (source : Source) (whole : Shape) (frame : Frame) (place : GraphPlace) (at : Place) (sound : IsSound source whole) (is : IsFrameOf whole frame) (world : frame.program.world ≡ source.world) (same : IsAt whole place at) where
  cell-written : (store : Store) (memory : Memory) → Holds whole frame store memory → (old bytes all : List ℕ) (cell : Interval) → slice_get frame.cells place.local.0 ≡ Some cell → cell_bytes memory cell ≡ Some old → (elems : List PlaceElem) (ones : Projection) → AreElements whole elems ones → bytes_with source.world (held_number store) elems (cell_type source at.cell) bytes old ≡ Some all →
      (part : Interval) × (cell_at frame.program.world frame.body (number_held memory frame.cells) frame.cells place (Some ones) ≡ Some part) × IsPatched memory cell bytes all part
  unfolding bytes_with
  cell-written store memory holds old bytes all cell there found [] [] are made = (cell, there, whole-patched memory cell old bytes all found made)
  cell-written store memory holds old bytes all cell there found [] (one ∷ others) are made = absurd are
  cell-written store memory holds old bytes all cell there found (elem ∷ rest) [] are made = absurd are
  cell-written store memory holds old bytes all cell there found (elem ∷ rest) (one ∷ others) are made =
      let ty = cell_type source at.cell in
      let part = part-patched memory cell old bytes all found (size_at source.world (source_place.type_behind source.world (elem ∷ rest) ty)) (source_place.offset_behind source.world (held_number store) (elem ∷ rest) ty) made in (
        part.0,
        ap (option_and_then (cell_behind frame.program.world (number_held memory frame.cells) (one ∷ others) (graph.local_type frame.body place.local))) there
            ∙ ap (λ w. cell_behind w (number_held memory frame.cells) (one ∷ others) (graph.local_type frame.body place.local) cell) world
            ∙ ap (λ t. cell_behind source.world (number_held memory frame.cells) (one ∷ others) t cell) (local-type source whole frame place at sound is world same)
            ∙ behind-is whole source.world (number_held memory frame.cells) (held_number store) (held-number whole frame store memory holds) cell elem rest one others are ty
            ∙ part.1,
        part.2,
      )

  -- what is read of another cell's local after a write to a part of the place's
  others-stay : (store : Store) (memory : Memory) → Holds whole frame store memory → (bytes all : List ℕ) (cell part : Interval) → slice_get frame.cells place.local.0 ≡ Some cell → (patched : IsPatched memory cell bytes all part) → Holds whole frame (with_cell_bytes store at.cell all) patched.later
  others-stay store memory holds bytes all cell part there patched =
      let local = place.local.0 in
      let later = patched.later in
      record {
        shows = λ d k h. ⊎_elim
            (λ one. let both : Some local ≡ Some k = sym same.found ∙ ap (local_of whole) one.0 ∙ h in
            let equal : local ≡ k = cc in
            ap (local_bytes frame later) (sym equal)
            ∙ local_bytes-at frame later local cell there
            ∙ patched.read
            ∙ ap (λ b. Some (cond b all (store d))) (sym one.1))
            (λ two. let other = interval-of frame memory k (store d) (holds.shows d k h) in
            let differ = λ (equal : local ≡ k). two.0 (sound.allotted.own at.cell d local same.found (h ∙ ap Some (sym equal))) in
            local_bytes-at frame later k other.0 other.1
            ∙ read-apart memory later part other.0 bytes (store d) patched.written patched.long (patched.apart other.0 (is.apart local k cell other.0 differ there other.1)) other.2
            ∙ ap (λ b. Some (cond b all (store d))) (sym two.1))
            (cells at.cell d);
      }

  -- the bytes can be written where the place lies; memory then holds the store with them, and else is as it was
  pub place-written : (store : Store) (memory : Memory) → Holds whole frame store memory → (bytes all : List ℕ) → cell_with source store at bytes ≡ Some all →
      (cell : Interval) × (later : Memory) × (cell_now frame memory place ≡ Some cell) × (with_bytes memory cell.addr bytes ≡ Some later) × Holds whole frame (with_cell_bytes store at.cell all) later × KeepsOthers frame memory later
  unfolding place_cell cell_with
  place-written store memory holds bytes all made =
      let cell = interval-of frame memory place.local.0 (store at.cell) (holds.shows at.cell place.local.0 same.found) in
      let part = cell-written store memory holds (store at.cell) bytes all cell.0 cell.1 cell.2 at.projection same.projection same.same made in
      let patched = part.2 in (
        part.0,
        patched.later,
        ap (cell_at frame.program.world frame.body (number_held memory frame.cells) frame.cells place) (found-elements source whole frame place at sound is world same) ∙ part.1,
        patched.written,
        others-stay store memory holds bytes all cell.0 part.0 cell.1 patched,
        λ interval old apart found. read-apart memory patched.later part.0 interval bytes old patched.written patched.long (patched.apart interval (apart place.local.0 cell.0 cell.1)) found,
      )

  -- a place that has bytes lies somewhere
  pub place-there : (store : Store) (memory : Memory) → Holds whole frame store memory → (bytes : List ℕ) → place_bytes source store at ≡ Some bytes → (cell : Interval) × (cell_now frame memory place ≡ Some cell)
  unfolding mir_bytes
  place-there store memory holds bytes found =
      option_and_then_some (cell_bytes memory) (cell_now frame memory place) bytes
      ((place-fits source whole frame place at sound is world same).bytes store memory holds ∙ found)
      (λ cell there found. (cell, there))

-- the statement that assigns to a place
abbrev pub writing : GraphPlace → Rvalue → MirSpan → Statement
writing place rvalue span = record { kind = Assign place rvalue; span = span }

-- where operands have values, a place that is the first of them has bytes
pub first-bytes : (source : Source) (store : Store) (at : Place) (rest : List Operand) (given : List Value) → values_of source store (At at ∷ rest) ≡ Some given → (bytes : List ℕ) × (place_bytes source store at ≡ Some bytes)
unfolding values_of
first-bytes source store at rest given have = by_bytes (place_bytes source store at) refl have
  where
    made : List ℕ → Value
    made bytes = record { kind = operand_kind source (At at); bytes = bytes }

    by_bytes : (found : Option (List ℕ)) → place_bytes source store at ≡ found → option_and_then (λ (value : Value). option_map (λ (others : List Value). value ∷ others) (values_of source store rest)) (option_map (λ (bytes : List ℕ). made bytes) found) ≡ Some given → (bytes : List ℕ) × (place_bytes source store at ≡ Some bytes)
    by_bytes (Some bytes) found same = (bytes, found)
    by_bytes None found same = absurd cc

-- an assignment to a place, of bytes or of what an operation answers
module _ (source : Source) (s whole : Shape) (frame : Frame) (place : GraphPlace) (rvalue : Rvalue) (span : MirSpan) (opened : IsOpen s) (sound : IsSound source whole) (is : IsFrameOf whole frame) (world : frame.program.world ≡ source.world) (lands : Landings) (grows : Grows (with_statement (writing place rvalue span) s) whole) (at : Place) (same : IsAt whole place at) (store : Store) (memory : Memory) (holds : Holds whole frame store memory) where
  abbrev added : Statement
  added = writing place rvalue span

  -- one that uses a place which is out of bounds is a panic
  pub written-out : assigns_out frame.program.world frame.body (number_held memory frame.cells) place rvalue ≡ true → Reaches source whole lands frame (here s) (here (with_statement added s)) memory (Nothing whole frame) (Faults out_of_bounds no_cost)
  unfolding after_statement
  written-out out =
      inr (ends-statement added s whole frame memory opened grows is (error.Panic (codes "Index out of bounds")) (ap (λ test. assigned test memory (cell_now frame memory place) (rvalue_bytes frame memory rvalue)) out))

  pub written-within : (out : Bool) → assigns_out frame.program.world frame.body (number_held memory frame.cells) place rvalue ≡ out → (end : End (Unit {0})) → Reaches source whole lands frame (here s) (here (with_statement added s)) memory (Nothing whole frame) end → Reaches source whole lands frame (here s) (here (with_statement added s)) memory (Nothing whole frame) (within_bounds out end)
  written-within true out end reaches = written-out out
  written-within false out end reaches = reaches

  after-write : (bytes : List ℕ) (cell : Interval) (later : Memory) → rvalue_bytes frame memory rvalue ≡ Ok bytes → cell_now frame memory place ≡ Some cell → with_bytes memory cell.addr bytes ≡ Some later → after_statement frame memory (Assign place rvalue) ≡ Ok later
  unfolding copied
  after-write bytes cell later computes there written =
      assigns-bytes frame memory place rvalue cell bytes there computes
      ∙ ap (λ (o : Option Memory). elim o [ Some after ↦ Ok after | None ↦ Err bad_write ]) written

  pub written-bytes : (bytes : List ℕ) → rvalue_bytes frame memory rvalue ≡ Ok bytes → Reaches source whole lands frame (here s) (here (with_statement added s)) memory (Nothing whole frame) (put_at source store at bytes)
  written-bytes bytes computes = by_cell (cell_with source store at bytes) refl
    where
      by_cell : (all : Option (List ℕ)) → cell_with source store at bytes ≡ all → Reaches source whole lands frame (here s) (here (with_statement added s)) memory (Nothing whole frame) (put_all store at.cell all)
      by_cell (Some all) made =
          let done = place-written source whole frame place at sound is world same store memory holds bytes all made in
          inr (done.1, comes-statement added s whole frame memory opened grows is done.1 (after-write bytes done.0 done.1 computes done.2 done.3) done.5, done.4, tt)
      by_cell None made = inr tt

  -- where the place has bytes, a fault of what is assigned is one of the assignment
  faults : (bytes : List ℕ) → place_bytes source store at ≡ Some bytes → (word : List ℕ) → rvalue_bytes frame memory rvalue ≡ Err (error.Panic word) → after_statement frame memory (Assign place rvalue) ≡ Err (error.Panic word)
  faults bytes found word err =
      let there = place-there source whole frame place at sound is world same store memory holds bytes found in
      assigns-panic frame memory place rvalue there.0 word there.1 err

  pub written-agreeing : (bytes : List ℕ) → place_bytes source store at ≡ Some bytes → (answer : Answer) → Agrees answer (rvalue_bytes frame memory rvalue) → Reaches source whole lands frame (here s) (here (with_statement added s)) memory (Nothing whole frame) (answer_at source store at answer)
  written-agreeing old found (Computes bytes) computes = written-bytes bytes computes
  written-agreeing old found (Panics word) computes = inr (ends-statement added s whole frame memory opened grows is (error.Panic word) (faults old found word computes))
  written-agreeing old found Undefined computes = inr tt

  -- Or of what an operation answers for values, where there are some. The place has bytes then: it is looked at before the operation is.
  pub written-values : (ty : Option Ty) (operation : Operation) (values : Option (List Value)) → ((given : List Value) → values ≡ Some given → Agrees (answered source.world ty operation given) (rvalue_bytes frame memory rvalue)) → ((given : List Value) → values ≡ Some given → (bytes : List ℕ) × (place_bytes source store at ≡ Some bytes)) → Reaches source whole lands frame (here s) (here (with_statement added s)) memory (Nothing whole frame) (answer_at source store at (answered_for source.world ty operation values))
  written-values ty operation (Some given) agrees has =
      let there = has given refl in
      written-agreeing there.0 there.1 (answered source.world ty operation given) (agrees given refl)
  written-values ty operation None agrees has = inr tt

  -- or of bytes that were read, where there are some
  pub written-copy : (given : Option (List ℕ)) → rvalue_bytes frame memory rvalue ≡ read given → Reaches source whole lands frame (here s) (here (with_statement added s)) memory (Nothing whole frame) (copy_at source store at given)
  written-copy (Some bytes) computes = written-bytes bytes computes
  written-copy None computes = inr tt
