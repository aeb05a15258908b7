use Rattle.std.proofs.Common.{◌∙◌, ap, sym, false, pos}
use Rattle.numbers.specs.Operators.{Computes}
use Rattle.numbers.proofs.Keeping.{divided-held, divided-refused, divided_by_none, nonzero_test, low_bytes-pos}
use Rattle.numbers.proofs.arithmetic.remainder_unsigned.Goals as goal

pub returns-then-holds_unsigned-clause-answer : goal.returns-then-holds_unsigned-clause-answer
returns-then-holds_unsigned-clause-answer c =
    let d = rw c.in-Some.is at c.checked_div.ensures in
    let held = rw d.1 at c.holds_unsigned.ensures in
    divided-held _ false c.args.size (pos c.args.left) (pos c.args.right) _ _ (nonzero_test (pos c.args.right) d.0) (sym held ∙ c.if-holds_unsigned.true) (c.low_digits.ensures.answer ∙ ap Computes (sym (low_bytes-pos c.args.size _)))

pub returns-else-holds_unsigned-clause-answer : goal.returns-else-holds_unsigned-clause-answer
returns-else-holds_unsigned-clause-answer c =
    let d = rw c.in-Some.is at c.checked_div.ensures in
    let held = rw d.1 at c.holds_unsigned.ensures in
    divided-refused _ false c.args.size (pos c.args.left) (pos c.args.right) _ (sym held ∙ c.if-holds_unsigned.false)

pub returns-in-None-clause-answer : goal.returns-in-None-clause-answer
returns-in-None-clause-answer c = divided_by_none _ c.args.size c.args.left c.args.right _ (rw c.in-None.is at c.checked_div.ensures)
