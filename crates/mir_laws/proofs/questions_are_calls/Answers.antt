use Rattle.mir_laws.proofs.Asking.{questions}
use Rattle.mir_laws.proofs.questions_are_calls.Goals as goal

pub returns : goal.returns
returns c = questions
