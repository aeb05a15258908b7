use Rattle.world_check.proofs.Laid.{laid_out}
use Rattle.world_check.proofs.callers.accepted.Goals as goal

pub returns-in-Ok-clause-laid_out : goal.returns-in-Ok-clause-laid_out
returns-in-Ok-clause-laid_out c = laid_out c.args.db c.in-Ok.ensures.holds
