use Rattle.numbers.proofs.Lengths.{length-compared}
use Rattle.numbers.proofs.laws.comparisons_take_one_byte.Goals as goal

pub returns : goal.returns
returns c = length-compared
