use Rattle.std.proofs.Common.{◌∙◌, sym}
use Rattle.numbers.proofs.Dispatch.{on_two_signs_is, not_on_two_signs, no_common_kind}
use Rattle.numbers.proofs.table.of_two_kinds.Goals as goal

pub returns-then-same_width-clause-answer : goal.returns-then-same_width-clause-answer
returns-then-same_width-clause-answer c =
    let signs = rw c.in-Some.is at c.first_of_two_signs.ensures.some in
    on_two_signs_is c.args.op c.args.left_kind c.args.right_kind c.in-Some.left_signed c.args.left.now c.args.right.now _ signs.0 signs.1 (sym c.same_width.ensures ∙ c.if-same_width.true) c.on_two_signs.ensures.answer

pub returns-else-same_width-clause-answer : goal.returns-else-same_width-clause-answer
returns-else-same_width-clause-answer c =
    let signs = rw c.in-Some.is at c.first_of_two_signs.ensures.some in
    not_on_two_signs c.args.op c.args.left_kind c.args.right_kind c.in-Some.left_signed c.args.left.now c.args.right.now signs.0 signs.1 (sym c.same_width.ensures ∙ c.if-same_width.false)

pub returns-in-None-clause-answer : goal.returns-in-None-clause-answer
returns-in-None-clause-answer c =
    no_common_kind c.args.op c.args.left_kind c.args.right_kind c.args.left.now c.args.right.now c.requires (rw c.in-None.is at c.first_of_two_signs.ensures.none)
