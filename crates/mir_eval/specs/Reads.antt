-- What rows read of a frame and its memory: values that lie at spots, and operands within bounds.
use Rattle.std.specs.Prelude.{◌≡◌, ℕ, ◌||◌, false, List, Some, Ok}
use Rattle.numbers.specs.declared.operator.Operator.{Operator}
use Rattle.types.specs.declared.ty.Ty.{Ty}
use Rattle.mir.specs.declared.address.Interval.{Interval}
use Rattle.mir.specs.declared.operand.OperandKind.{OperandKind}
use Rattle.mir.specs.Memory.{Memory, cell_bytes, number_held}
use Rattle.mir.specs.Run.{Frame, cast_to, operand_bytes, operand_out, operand_type, operated}
use Rattle.mir_rows.specs.declared.spots.Spot.{Spot}
use Rattle.mir_rows.specs.Spots.{LiesNow}

-- a spot is within bounds now, and lies in this cell
abbrev pub LiesIn : Frame → Memory → Spot → Interval → Type 0
LiesIn frame memory spot cell = LiesNow (number_held memory frame.cells) frame.cells spot cell

-- a spot is within bounds now, and these bytes lie there
pub record HoldsAt (frame : Frame) (memory : Memory) (spot : Spot) (bytes : List ℕ) : Type 0 where
  pub cell : Interval
  pub lies : LiesIn frame memory spot cell
  pub holds : cell_bytes memory cell ≡ Some bytes

-- an operand is within bounds now, and has these bytes
pub record HasBytes (frame : Frame) (memory : Memory) (operand : OperandKind) (bytes : List ℕ) : Type 0 where
  pub has : operand_bytes frame memory operand ≡ Some bytes
  pub within : operand_out frame.program.world frame.body (number_held memory frame.cells) operand ≡ false

-- two operands are within bounds now, and an operator makes these bytes of theirs
pub record Makes (frame : Frame) (memory : Memory) (op : Operator) (one other : OperandKind) (bytes : List ℕ) : Type 0 where
  pub makes : operated op (operand_type frame.program.world frame.body one) (operand_type frame.program.world frame.body other) (operand_bytes frame memory one) (operand_bytes frame memory other) ≡ Ok bytes
  pub within : (operand_out frame.program.world frame.body (number_held memory frame.cells) one || operand_out frame.program.world frame.body (number_held memory frame.cells) other) ≡ false

-- an operand is within bounds now, and a cast to a type makes these bytes of it
pub record Converts (frame : Frame) (memory : Memory) (one : OperandKind) (ty : Ty) (bytes : List ℕ) : Type 0 where
  pub makes : cast_to ty (operand_type frame.program.world frame.body one) (operand_bytes frame memory one) ≡ Ok bytes
  pub within : operand_out frame.program.world frame.body (number_held memory frame.cells) one ≡ false
