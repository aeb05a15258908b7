use Rattle.std.proofs.Common.{take}
use Rattle.std.specs.List.{All}
use Rattle.mir.specs.Closed.{HasLocal}
use Rattle.mir.proofs.body.MirBody.has_locals.Given as goal

abbrev pub invariant-loop-local : goal.invariant-loop-local
invariant-loop-local l = All (HasLocal l.self) (take l.local-index l.locals)
