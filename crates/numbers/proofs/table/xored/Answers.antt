use Rattle.numbers.specs.Operators.{by_bits}
use Rattle.numbers.proofs.table.xored.Goals as goal

pub returns-clause-answer : goal.returns-clause-answer
unfolding by_bits
returns-clause-answer c = rw (c.unsigned-x.ensures, c.unsigned-y.ensures) at c.low_digits.ensures.answer
