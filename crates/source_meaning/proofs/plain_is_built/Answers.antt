use Rattle.source_meaning.proofs.Built.{plain_is_built}
use Rattle.source_meaning.proofs.plain_is_built.Goals as goal

pub returns : goal.returns
returns c = plain_is_built
