use Rattle.std.proofs.Common.{false, ◌∙◌, ap, sym}
use Rattle.numbers.specs.Operators.{Computes}
use Rattle.numbers.proofs.Keeping.{kept-held, kept-refused, low_bytes-pos}
use Rattle.numbers.proofs.kept.kept_unsigned.Goals as goal

pub returns-then-holds_unsigned-clause-answer : goal.returns-then-holds_unsigned-clause-answer
returns-then-holds_unsigned-clause-answer c =
    kept-held c.args.op false c.args.size _ _ (sym c.holds_unsigned.ensures ∙ c.if-holds_unsigned.true) (c.low_digits.ensures.answer ∙ ap Computes (sym (low_bytes-pos c.args.size c.args.value)))

pub returns-else-holds_unsigned-clause-answer : goal.returns-else-holds_unsigned-clause-answer
returns-else-holds_unsigned-clause-answer c = kept-refused c.args.op false c.args.size _ (sym c.holds_unsigned.ensures ∙ c.if-holds_unsigned.false)
