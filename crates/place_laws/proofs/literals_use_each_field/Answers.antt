use Rattle.place_laws.proofs.Literals.{each-used}
use Rattle.place_laws.proofs.literals_use_each_field.Goals as goal

pub returns : goal.returns
returns c = each-used
