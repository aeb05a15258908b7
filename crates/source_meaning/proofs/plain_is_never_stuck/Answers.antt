use Rattle.source_meaning.proofs.Sizes as sizes
use Rattle.source_meaning.proofs.plain_is_never_stuck.Goals as goal

pub returns : goal.returns
returns c = sizes.plain_is_never_stuck
