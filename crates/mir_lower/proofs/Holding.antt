-- Assigning to the local of a cell: afterwards memory and store agree again.
use Rattle.std.proofs.Common.{◌≡◌, ◌≢◌, ℕ, ◌⊎◌, ⊎_elim, inl, inr, Bool, true, false, cond, List, length, Option, Some, None, Ok, Err, refl, sym, ap, ◌∙◌, arith}
use Rattle.std.specs.Prelude.{slice_get, option_and_then}
use Rattle.std.proofs.lemmas.Bool.Decides.{nat_tests}
use Rattle.std.proofs.lemmas.Option.{option_and_then_some}
use Rattle.mir.specs.declared.ids.LocalId.{LocalId}
use Rattle.mir.specs.declared.operand.Rvalue.{Rvalue}
use Rattle.mir.specs.declared.statement.StatementKind.TheVariants.{Assign}
use Rattle.mir.specs.declared.address.Interval.{Interval}
use Rattle.mir.specs.Areas.{with_bytes}
use Rattle.mir.specs.Memory.{Memory, cell_bytes, number_held}
use Rattle.mir.specs.Run.{Frame, after_statement, copied, rvalue_bytes, bad_write}
use Rattle.source_meaning.specs.Source.{Source, Cell, Result as Slot, Node, Binding, IndexOf, Never, Store, same_cell, with_cell_bytes}
use Rattle.source_meaning.proofs.Stores.{same_cell_from_test}
use Rattle.mir_lower.specs.Does.{IsFrameOf, Holds}
use Rattle.mir.specs.WholePlaces.{whole_place}
use Rattle.mir.proofs.WholePlaces.{whole-cell}
use Rattle.mir_graph.specs.Graph.{Shape, local_of}
use Rattle.mir_lower.specs.Growth.{IsSound}
use Rattle.mir_lower.specs.Runs.{local_bytes, KeepsOthers}
use Rattle.mir_lower.proofs.Stack.{length-cell_bytes, can_write, read-written, read-apart}
use Rattle.mir_lower.proofs.Within.{assigns-bytes}

-- one cell or two, and where it is one, `same_cell` says so
same_cell-refl : (c : Cell) → same_cell c c ≡ true
same_cell-refl Slot = refl
same_cell-refl (Node e) = grind (arith, nat_tests)
same_cell-refl (Binding b) = grind (arith, nat_tests)
same_cell-refl (Never e) = grind (arith, nat_tests)
same_cell-refl (IndexOf e) = grind (arith, nat_tests)

pub cells : (c d : Cell) → ((c ≡ d) × (same_cell c d ≡ true)) ⊎ ((c ≢ d) × (same_cell c d ≡ false))
cells c d = by-test (same_cell c d) refl where
  by-test : (test : Bool) → same_cell c d ≡ test → ((c ≡ d) × (same_cell c d ≡ true)) ⊎ ((c ≢ d) × (same_cell c d ≡ false))
  by-test true is = inl (same_cell_from_test c d is, is)
  by-test false is = inr ((λ same. let one : same_cell c d ≡ true = ap (same_cell c) (sym same) ∙ same_cell-refl c in cc), is)

-- the interval of a local whose bytes are known
pub interval-of : (frame : Frame) (memory : Memory) (l : ℕ) (bytes : List ℕ) → local_bytes frame memory l ≡ Some bytes → (cell : Interval) × (slice_get frame.cells l ≡ Some cell) × (cell_bytes memory cell ≡ Some bytes)
unfolding local_bytes
interval-of frame memory l bytes h = option_and_then_some (cell_bytes memory) (slice_get frame.cells l) bytes h (λ cell found at. (cell, found, at))

pub local_bytes-at : (frame : Frame) (memory : Memory) (l : ℕ) (cell : Interval) → slice_get frame.cells l ≡ Some cell → local_bytes frame memory l ≡ cell_bytes memory cell
unfolding local_bytes
local_bytes-at frame memory l cell found = ap (option_and_then (cell_bytes memory)) found

-- what reading another local gives after a write to one
others-stay : (s : Shape) (frame : Frame) → IsFrameOf s frame → (memory later : Memory) (l k : ℕ) (cell : Interval) (bytes old : List ℕ) → l ≢ k → slice_get frame.cells l ≡ Some cell → with_bytes memory cell.addr bytes ≡ Some later → length bytes ≡ cell.size → local_bytes frame memory k ≡ Some old → local_bytes frame later k ≡ Some old
others-stay s frame is memory later l k cell bytes old differ found written size h =
    let other = interval-of frame memory k old h in
    local_bytes-at frame later k other.0 other.1
    ∙ read-apart memory later cell other.0 bytes old written size (is.apart l k cell other.0 differ found other.1) other.2

-- as many bytes as a cell holds can be assigned to its local; memory then holds the store with them, and else is as it was
pub assigns : (source : Source) (s : Shape) (frame : Frame) → IsSound source s → IsFrameOf s frame → (store : Store) (memory : Memory) → Holds s frame store memory → (c : Cell) (to : LocalId) (rvalue : Rvalue) (bytes : List ℕ) → local_of s c ≡ Some to.0 → rvalue_bytes frame memory rvalue ≡ Ok bytes → length bytes ≡ length (store c) →
    (later : Memory) × (after_statement frame memory (Assign (whole_place to) rvalue) ≡ Ok later) × Holds s frame (with_cell_bytes store c bytes) later × KeepsOthers frame memory later
unfolding copied
assigns source s frame sound is store memory holds c to rvalue bytes local computed long =
    let at = interval-of frame memory to.0 (store c) (holds.shows c to.0 local) in
    let can = can_write memory at.0 (store c) bytes at.2 long in
    let size : length bytes ≡ at.0.size = long ∙ length-cell_bytes memory at.0 (store c) at.2 in (
      can.0,
      assigns-bytes frame memory (whole_place to) rvalue at.0 bytes (whole-cell frame.program.world frame.body (number_held memory frame.cells) frame.cells (whole_place to) refl ∙ at.1) computed
          ∙ ap (λ (o : Option Memory). elim o [ Some after ↦ Ok after | None ↦ Err bad_write ]) can.1,
      record {
        shows = λ d k h. ⊎_elim
            (λ one. let same : to.0 ≡ k = (let h' : local_of s c ≡ Some k = ap (local_of s) one.0 ∙ h in cc) in
            ap (local_bytes frame can.0) (sym same)
            ∙ local_bytes-at frame can.0 to.0 at.0 at.1
            ∙ read-written memory can.0 at.0 bytes can.1 size
            ∙ ap (λ b. Some (cond b bytes (store d))) (sym one.1))
            (λ two. others-stay s frame is memory can.0 to.0 k at.0 bytes (store d) (λ same. two.0 (sound.allotted.own c d to.0 local (h ∙ ap Some (sym same)))) at.1 can.1 size (holds.shows d k h)
            ∙ ap (λ b. Some (cond b bytes (store d))) (sym two.1))
            (cells c d);
      },
      λ interval old apart found. read-apart memory can.0 at.0 interval bytes old can.1 size (apart to.0 at.0 at.1) found,
    )
