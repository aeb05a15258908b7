use Rattle.std.proofs.Common.{◌∙◌, ap, take}
use Rattle.numbers.specs.Operators.{Computes}
use Rattle.numbers.proofs.Keeping.{take-le_bytes}
use Rattle.numbers.proofs.kept.low_digits.Goals as goal

pub returns-clause-answer : goal.returns-clause-answer
returns-clause-answer c = ap Computes (ap (take c.args.size) c.to_le_bytes.ensures ∙ take-le_bytes c.args.size c.args.value c.requires)
