use Rattle.place_laws.proofs.Parts.{tuples}
use Rattle.place_laws.proofs.tuples_have_their_parts.Goals as goal

pub returns : goal.returns
returns c = tuples
