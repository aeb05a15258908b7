use Rattle.place_laws.proofs.UsedUpdates.{each-given}
use Rattle.place_laws.proofs.updates_use_each_field.Goals as goal

pub returns : goal.returns
returns c = each-given
