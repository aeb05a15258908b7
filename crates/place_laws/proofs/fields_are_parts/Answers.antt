use Rattle.place_laws.proofs.Parts.{fields}
use Rattle.place_laws.proofs.fields_are_parts.Goals as goal

pub returns : goal.returns
returns c = fields
