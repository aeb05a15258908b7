use Rattle.source_meaning.proofs.Lasting as lasting
use Rattle.source_meaning.proofs.bodies_go_on.Goals as goal

pub returns : goal.returns
returns c = lasting.bodies_go_on
