use Rattle.std.proofs.Common.{true, ◌∙◌, ap, sym}
use Rattle.std.specs.Int.{w128}
use Rattle.std.proofs.lemmas.Int.{to_z-of_z}
use Rattle.numbers.specs.Bytes.{holds, low_bytes}
use Rattle.numbers.specs.Operators.{Computes}
use Rattle.numbers.proofs.Keeping.{kept-held, kept-refused}
use Rattle.numbers.proofs.kept.kept_signed.Goals as goal

pub returns-then-holds_signed-clause-answer : goal.returns-then-holds_signed-clause-answer
returns-then-holds_signed-clause-answer c =
    let same = to_z-of_z w128 c.args.value c.ranges.value in
    let held = sym (c.holds_signed.ensures ∙ ap (holds true c.args.size) same) ∙ c.if-holds_signed.true in
    kept-held c.args.op true c.args.size c.args.value _ held (c.low_bytes.ensures.answer ∙ ap (λ z. Computes (low_bytes c.args.size z)) same)

pub returns-else-holds_signed-clause-answer : goal.returns-else-holds_signed-clause-answer
returns-else-holds_signed-clause-answer c =
    let same = to_z-of_z w128 c.args.value c.ranges.value in
    kept-refused c.args.op true c.args.size c.args.value (sym (c.holds_signed.ensures ∙ ap (holds true c.args.size) same) ∙ c.if-holds_signed.false)
