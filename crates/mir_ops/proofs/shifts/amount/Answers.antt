use Rattle.std.proofs.Common.{pos, sym, ap}
use Rattle.numbers.specs.Bytes.{number_of}
use Rattle.mir_ops.proofs.shifts.amount.Goals as goal

pub returns-then-number-bits-2 : goal.returns-then-number-bits-2
unfolding number_of
returns-then-number-bits-2 c = (rw c.if-is_signed.false (ap pos (sym c.unsigned-number.ensures.value)), c.if-number-bits-2.true)
