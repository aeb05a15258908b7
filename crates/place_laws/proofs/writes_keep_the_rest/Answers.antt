use Rattle.place_laws.proofs.Writes.{kept}
use Rattle.place_laws.proofs.writes_keep_the_rest.Goals as goal

pub returns : goal.returns
returns c = kept
