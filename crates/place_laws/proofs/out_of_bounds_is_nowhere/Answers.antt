use Rattle.place_laws.proofs.Bounds.{nowhere}
use Rattle.place_laws.proofs.out_of_bounds_is_nowhere.Goals as goal

pub returns : goal.returns
returns c = nowhere
