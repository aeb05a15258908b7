use Rattle.source_meaning.proofs.Costs.{costs_add}
use Rattle.source_meaning.proofs.costs_add.Goals as goal

pub returns : goal.returns
returns c = costs_add
