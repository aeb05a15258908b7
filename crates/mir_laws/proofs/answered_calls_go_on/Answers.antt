use Rattle.mir_laws.proofs.Answered.{answered_calls}
use Rattle.mir_laws.proofs.answered_calls_go_on.Goals as goal

pub returns : goal.returns
returns c = answered_calls
