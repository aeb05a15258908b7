use Rattle.std.proofs.Common.{take}
use Rattle.std.specs.List.{All}
use Rattle.mir.specs.Closed.{IsClosedOperand}
use Rattle.mir.proofs.body.MirBody.are_operands_closed.Given as goal

abbrev pub invariant-loop-operand : goal.invariant-loop-operand
invariant-loop-operand l = All (λ operand. IsClosedOperand l.self operand.kind) (take l.operand-index l.operands)
