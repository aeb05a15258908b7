use Rattle.std.proofs.Common.{take}
use Rattle.std.specs.List.{All}
use Rattle.mir.specs.Closed.{IsClosedStatement}
use Rattle.mir.proofs.body.MirBody.are_statements_closed.Given as goal

abbrev pub invariant-loop-statement : goal.invariant-loop-statement
invariant-loop-statement l = All (λ statement. IsClosedStatement l.self statement.kind) (take l.statement-index l.statements)
