use Rattle.std.proofs.Common.{◌≡◌, ◌∙◌, ap, eqb, length}
use Rattle.numbers.specs.Operators.{denied, truth_value}
use Rattle.numbers.proofs.Reading.{word1_is}
use Rattle.numbers.proofs.unary.denied.Goals as goal

pub returns-then-bytes-eq1-clause-answer : goal.returns-then-bytes-eq1-clause-answer
unfolding denied
returns-then-bytes-eq1-clause-answer c =
    let size : length c.args.bytes.now ≡ 1 = c.if-bytes-eq1.true in
    rw size (c.truth_value.ensures.answer ∙ ap (λ m. truth_value (eqb m 0)) (word1_is c.args.bytes.now size))
