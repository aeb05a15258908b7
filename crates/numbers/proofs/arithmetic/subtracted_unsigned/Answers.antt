use Rattle.numbers.proofs.Keeping.{difference, kept_negative}
use Rattle.numbers.proofs.arithmetic.subtracted_unsigned.Goals as goal

pub returns-in-Some-clause-answer : goal.returns-in-Some-clause-answer
returns-in-Some-clause-answer c =
    let d = rw c.in-Some.is at c.checked_sub.ensures in
    rw (difference c.args.left c.args.right d.0) (rw d.1 at c.kept_unsigned.ensures.answer)

pub returns-in-None-clause-answer : goal.returns-in-None-clause-answer
returns-in-None-clause-answer c = kept_negative _ c.args.size c.args.left c.args.right (rw c.in-None.is at c.checked_sub.ensures)
