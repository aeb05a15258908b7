use Rattle.std.proofs.Common.{◌∙◌, sym}
use Rattle.numbers.proofs.Dispatch.{no_left_sign, no_right_sign, shift_of_widths, shift_of_others}
use Rattle.numbers.proofs.shifts.shift.Goals as goal

pub returns-in_default-clause-answer : goal.returns-in_default-clause-answer
returns-in_default-clause-answer c = no_left_sign _ _ _ _ _ (sym c.sign_of.ensures ∙ c.in_default.is)

pub returns-in_default-sign_of-clause-answer : goal.returns-in_default-sign_of-clause-answer
returns-in_default-sign_of-clause-answer c = no_right_sign _ _ _ _ _ (sym c.sign_of-2.ensures ∙ c.in_default-sign_of.is)

pub returns-then-both_widths-clause-answer : goal.returns-then-both_widths-clause-answer
returns-then-both_widths-clause-answer c =
    shift_of_widths _ _ _ _ _ c.args.left.now c.args.right.now _ (sym c.sign_of.ensures ∙ c.in-Some.is) (sym c.sign_of-2.ensures ∙ c.in-Some-sign_of.is) (sym c.both_widths.ensures ∙ c.if-both_widths.true) c.shifted_by.ensures.answer

pub returns-else-both_widths-clause-answer : goal.returns-else-both_widths-clause-answer
returns-else-both_widths-clause-answer c =
    shift_of_others _ _ _ _ _ c.args.left.now c.args.right.now (sym c.sign_of.ensures ∙ c.in-Some.is) (sym c.sign_of-2.ensures ∙ c.in-Some-sign_of.is) (sym c.both_widths.ensures ∙ c.if-both_widths.false)
