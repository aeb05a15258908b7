use Rattle.mir_laws.proofs.Extending.{new_answers}
use Rattle.mir_laws.proofs.new_answers_extend.Goals as goal

pub returns : goal.returns
returns c = new_answers
