use Rattle.numbers.proofs.Lengths.{length-computed}
use Rattle.numbers.proofs.laws.results_keep_the_width.Goals as goal

pub returns : goal.returns
returns c = length-computed
