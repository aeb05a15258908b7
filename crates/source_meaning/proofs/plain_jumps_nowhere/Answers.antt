use Rattle.source_meaning.proofs.Sizes as sizes
use Rattle.source_meaning.proofs.plain_jumps_nowhere.Goals as goal

pub returns : goal.returns
returns c = sizes.plain_jumps_nowhere
