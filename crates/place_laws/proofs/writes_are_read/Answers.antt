use Rattle.place_laws.proofs.Writes.{written}
use Rattle.place_laws.proofs.writes_are_read.Goals as goal

pub returns : goal.returns
returns c = written
