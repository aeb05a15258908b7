use Rattle.source_meaning.proofs.Fuel.{more_fuel}
use Rattle.source_meaning.proofs.more_fuel_changes_nothing.Goals as goal

pub returns : goal.returns
returns c = more_fuel
