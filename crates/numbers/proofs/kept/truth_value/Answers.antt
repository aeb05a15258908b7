use Rattle.std.proofs.Common.{◌∙◌}
use Rattle.numbers.proofs.Keeping.{truth_value_is}
use Rattle.numbers.proofs.kept.truth_value.Goals as goal

pub returns-clause-answer : goal.returns-clause-answer
returns-clause-answer c = c.low_digits.ensures.answer ∙ truth_value_is c.args.truth
