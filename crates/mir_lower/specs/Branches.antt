-- Where the code of a graph parts into two branches, and where these join. The blocks of all three are reserved before the
-- first branch is lowered.
use Rattle.std.specs.Prelude.{◌≡◌, ◌≢◌, ℕ, ◌≤◌, true, List, length, Some, slice_get}
use Rattle.mir.specs.declared.operand.OperandKind.{OperandKind}
use Rattle.mir.specs.Memory.{Memory, number_held}
use Rattle.mir.specs.Run.{Frame, operand_bytes, operand_out, out_of_bounds}
use Rattle.numbers.specs.Bytes.{value_of}
use Rattle.source_meaning.specs.Source.{Source}
use Rattle.mir_lower.specs.Does.{here, IsFrameOf}
use Rattle.mir_graph.specs.Graph.{Shape, no_statements}
use Rattle.mir_lower.specs.Growth.{Grows, Spares, IsSound, IsOpen}
use Rattle.mir_lower.specs.Runs.{Entry, start_of, run_from, Comes, EndsAfter, IsFault}

-- a block is there, is empty, and isn't the current one
pub record IsReserved (s : Shape) (block : ℕ) : Type 0 where
  pub empty : slice_get s.blocks block ≡ Some no_statements
  pub apart : block ≢ s.current

-- The current block was ended by a test of an operand. Where the operand's bytes are a number, the run goes on in the block
-- that is the current one now, else in a second one. That one, and a third where both branches will join, are reserved. Where the operand is out of
-- bounds, the run ends in a panic.
pub record IsForked (source : Source) (old new : Shape) (operand : OperandKind) (number other join : ℕ) : Type 0 where
  pub grows : Grows old new
  pub spares : Spares old new
  pub sound : IsSound source new
  pub «open» : IsOpen new
  pub scope : new.scope ≡ old.scope
  pub other_reserved : IsReserved new other
  pub join_reserved : IsReserved new join
  pub distinct : other ≢ join
  pub other_new : length old.blocks ≤ other
  pub join_new : length old.blocks ≤ join
  pub taken : (whole : Shape) (frame : Frame) → Grows new whole → IsFrameOf whole frame → (memory : Memory) (bytes : List ℕ) →
      operand_bytes frame memory operand ≡ Some bytes → length bytes ≤ 16 → value_of bytes ≡ number → Comes frame 1 0 (here old) memory (here new) memory
  pub left : (whole : Shape) (frame : Frame) → Grows new whole → IsFrameOf whole frame → (memory : Memory) (bytes : List ℕ) →
      operand_bytes frame memory operand ≡ Some bytes → length bytes ≤ 16 → value_of bytes ≢ number → Comes frame 1 0 (here old) memory (start_of other) memory
  pub out : (whole : Shape) (frame : Frame) → Grows new whole → IsFrameOf whole frame → (memory : Memory) →
      operand_out frame.program.world frame.body (number_held memory frame.cells) operand ≡ true → EndsAfter 0 (IsFault out_of_bounds) (run_from frame memory (here old))

-- The current block was ended and leads to a block without a test, and a block that was reserved is the current one now.
pub record HasGoneOn (source : Source) (old new : Shape) (to next : ℕ) : Type 0 where
  pub grows : Grows old new
  pub others : (at : ℕ) → at ≢ old.current → slice_get new.blocks at ≡ slice_get old.blocks at
  pub many : length new.blocks ≡ length old.blocks
  pub sound : IsSound source new
  pub «open» : IsOpen new
  pub scope : new.scope ≡ old.scope
  pub targets : new.targets ≡ old.targets
  pub current : new.current ≡ next
  pub begins : here new ≡ start_of next
  pub heads : (whole : Shape) (frame : Frame) → Grows new whole → IsFrameOf whole frame → (memory : Memory) → Comes frame 0 0 (here old) memory (Entry to) memory
  pub comes : (whole : Shape) (frame : Frame) → Grows new whole → IsFrameOf whole frame → (memory : Memory) → Comes frame 1 0 (here old) memory (start_of to) memory
