use Rattle.source_meaning.proofs.Laid.{layouts_are_tested}
use Rattle.source_meaning.proofs.layouts_are_tested.Goals as goal

pub returns : goal.returns
returns c = layouts_are_tested
