-- What a run that is over handed out is its answer.
use Rattle.std.proofs.Common.{sym}
use Rattle.consteval.proofs.running.ended.Goals as goal

pub returns-clause-carries : goal.returns-clause-carries
returns-clause-carries c = (c.finish-outcome.result.0, sym c.finish-outcome.ensures.ended, c.carried.ensures)
