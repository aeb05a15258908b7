use Rattle.mir_laws.proofs.Resumes.{ends_stay}
use Rattle.mir_laws.proofs.answers_change_no_end.Goals as goal

pub returns : goal.returns
returns c = ends_stay
