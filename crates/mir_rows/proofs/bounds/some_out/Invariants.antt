use Rattle.std.proofs.Common.{◌≡◌, drop}
use Rattle.mir.specs.Run.{some_out}
use Rattle.mir_rows.proofs.bounds.some_out.Given as goal

-- whether one of the operands from here on is out of bounds is whether one of all is
abbrev pub invariant-loop-operand : goal.invariant-loop-operand
invariant-loop-operand g l = some_out l.db l.body (g.N.Numbers.held l.numbers) (drop l.operand-index l.operands) ≡ some_out l.db l.body (g.N.Numbers.held l.numbers) l.operands
