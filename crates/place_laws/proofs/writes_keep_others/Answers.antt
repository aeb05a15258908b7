use Rattle.place_laws.proofs.Writes.{others}
use Rattle.place_laws.proofs.writes_keep_others.Goals as goal

pub returns : goal.returns
returns c = others
