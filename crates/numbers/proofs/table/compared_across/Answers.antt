use Rattle.std.proofs.Common.{◌∙◌, ap, pos}
use Rattle.numbers.specs.Bytes.{number_of}
use Rattle.numbers.proofs.Dispatch.{compared_alike}
use Rattle.numbers.proofs.Keeping.{passed_is}
use Rattle.numbers.proofs.table.compared_across.Goals as goal

pub returns-then-left_signed-clause-answer : goal.returns-then-left_signed-clause-answer
unfolding number_of
returns-then-left_signed-clause-answer c =
    let x = passed_is _ _ c.signed.type_inv c.signed.ensures in
    let y = ap pos c.unsigned.ensures in
    rw c.if-left_signed.true (c.compared_signed_first.ensures.answer ∙ compared_alike c.args.op x y)

pub returns-else-left_signed-clause-answer : goal.returns-else-left_signed-clause-answer
unfolding number_of
returns-else-left_signed-clause-answer c =
    let x = ap pos c.unsigned-else-left_signed.ensures in
    let y = passed_is _ _ c.signed-else-left_signed.type_inv c.signed-else-left_signed.ensures in
    rw c.if-left_signed.false (c.compared_signed_second.ensures.answer ∙ compared_alike c.args.op x y)
