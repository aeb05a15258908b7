use Rattle.std.proofs.Common.{◌∙◌, not, ap}
use Rattle.numbers.specs.Operators.{truth_value}
use Rattle.numbers.proofs.Dispatch.{no_comparison}
use Rattle.numbers.proofs.Keeping.{same_naturals}
use Rattle.numbers.proofs.comparisons.compared_unsigned.Goals as goal

pub returns-in-Eq-clause-answer : goal.returns-in-Eq-clause-answer
returns-in-Eq-clause-answer c = rw c.in-Eq.is (c.truth_value.ensures.answer ∙ ap truth_value (same_naturals c.args.x c.args.y))

pub returns-in-Lt-clause-answer : goal.returns-in-Lt-clause-answer
returns-in-Lt-clause-answer c = rw c.in-Lt.is c.truth_value-in-Lt.ensures.answer

pub returns-in-Le-clause-answer : goal.returns-in-Le-clause-answer
returns-in-Le-clause-answer c = rw c.in-Le.is c.truth_value-in-Le.ensures.answer

pub returns-in-Ne-clause-answer : goal.returns-in-Ne-clause-answer
returns-in-Ne-clause-answer c = rw c.in-Ne.is (c.truth_value-in-Ne.ensures.answer ∙ ap (λ b. truth_value (not b)) (same_naturals c.args.x c.args.y))

pub returns-in-Ge-clause-answer : goal.returns-in-Ge-clause-answer
returns-in-Ge-clause-answer c = rw c.in-Ge.is c.truth_value-in-Ge.ensures.answer

pub returns-in-Gt-clause-answer : goal.returns-in-Gt-clause-answer
returns-in-Gt-clause-answer c = rw c.in-Gt.is c.truth_value-in-Gt.ensures.answer

pub returns-in_default-clause-answer : goal.returns-in_default-clause-answer
returns-in_default-clause-answer c = no_comparison c.args.op _ _ c.in_default.not-Eq c.in_default.not-Lt c.in_default.not-Le c.in_default.not-Ne c.in_default.not-Ge c.in_default.not-Gt
