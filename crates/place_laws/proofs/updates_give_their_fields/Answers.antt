use Rattle.place_laws.proofs.Updates.{updates}
use Rattle.place_laws.proofs.updates_give_their_fields.Goals as goal

pub returns : goal.returns
returns c = updates
