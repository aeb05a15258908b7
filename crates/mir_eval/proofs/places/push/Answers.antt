use Rattle.std.proofs.Common.{ap}
use Rattle.mir.specs.Memory.{pushed}
use Rattle.mir_eval.proofs.Ends.{pushed_ends}
use Rattle.mir_eval.proofs.places.push.Goals as goal

pub returns-in-Ok-clause-ends : goal.returns-in-Ok-clause-ends
returns-in-Ok-clause-ends g c = pushed_ends (g.M.Memory.areas c.args.memory.now) _ c.args.sizes.now c.in-Ok.cells (g.met.M.Memory.bounded c.args.memory.now) (ap pushed c.in-Ok.ensures.ok)
