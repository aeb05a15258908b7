use Rattle.place_laws.proofs.Literals.{literals}
use Rattle.place_laws.proofs.literals_give_their_fields.Goals as goal

pub returns : goal.returns
returns c = literals
