use Rattle.mir_laws.proofs.Resumes.{more_answers}
use Rattle.mir_laws.proofs.more_answers_go_on.Goals as goal

pub returns : goal.returns
returns c = more_answers
