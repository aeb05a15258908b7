use Rattle.place_laws.proofs.Parts.{structs}
use Rattle.place_laws.proofs.structs_have_their_fields.Goals as goal

pub returns : goal.returns
returns c = structs
