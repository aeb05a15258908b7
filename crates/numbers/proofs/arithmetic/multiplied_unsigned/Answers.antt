use Rattle.numbers.proofs.Keeping.{kept_unsigned_overflow}
use Rattle.numbers.proofs.arithmetic.multiplied_unsigned.Goals as goal

pub returns-in-None-clause-answer : goal.returns-in-None-clause-answer
returns-in-None-clause-answer c = kept_unsigned_overflow _ c.args.size _ c.requires (rw c.in-None.is at c.checked_mul.ensures)
