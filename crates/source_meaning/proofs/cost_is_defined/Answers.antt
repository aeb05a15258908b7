use Rattle.source_meaning.proofs.Defined.{cost_is_defined}
use Rattle.source_meaning.proofs.cost_is_defined.Goals as goal

pub returns : goal.returns
returns c = cost_is_defined
