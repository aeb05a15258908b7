use Rattle.std.proofs.Common.{◌∙◌, ap, sym, pos}
use Rattle.std.specs.Int.{w128}
use Rattle.std.proofs.lemmas.Int.{to_z-of_z}
use Rattle.numbers.specs.Operators.{compared}
use Rattle.numbers.proofs.Dispatch.{compared-negative_first}
use Rattle.numbers.proofs.comparisons.compared_signed_first.Goals as goal

pub returns-in-Some-clause-answer : goal.returns-in-Some-clause-answer
returns-in-Some-clause-answer c =
    let same = to_z-of_z w128 c.args.x c.ranges.x in
    let is = rw (c.in-Some.is, same) at c.natural.ensures.some in
    c.compared_unsigned.ensures.answer ∙ ap (λ z. compared c.args.op z (pos c.args.y)) (sym is)

pub returns-in-None-clause-answer : goal.returns-in-None-clause-answer
returns-in-None-clause-answer c =
    let same = to_z-of_z w128 c.args.x c.ranges.x in
    c.compared_unsigned-in-None.ensures.answer ∙ compared-negative_first c.args.op c.args.x c.args.y (rw (c.in-None.is, same) at c.natural.ensures.none)
