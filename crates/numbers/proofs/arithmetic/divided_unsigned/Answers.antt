use Rattle.std.proofs.Common.{false, pos}
use Rattle.numbers.proofs.Keeping.{divided-kept, divided_by_none, nonzero_test}
use Rattle.numbers.proofs.arithmetic.divided_unsigned.Goals as goal

pub returns-in-Some-clause-answer : goal.returns-in-Some-clause-answer
returns-in-Some-clause-answer c =
    let d = rw c.in-Some.is at c.checked_div.ensures in
    divided-kept _ false c.args.size (pos c.args.left) (pos c.args.right) _ (nonzero_test (pos c.args.right) d.0) (rw d.1 at c.kept_unsigned.ensures.answer)

pub returns-in-None-clause-answer : goal.returns-in-None-clause-answer
returns-in-None-clause-answer c = divided_by_none _ c.args.size c.args.left c.args.right _ (rw c.in-None.is at c.checked_div.ensures)
