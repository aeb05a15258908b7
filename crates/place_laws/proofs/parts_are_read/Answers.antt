use Rattle.place_laws.proofs.Parts.{parts}
use Rattle.place_laws.proofs.parts_are_read.Goals as goal

pub returns : goal.returns
returns c = parts
