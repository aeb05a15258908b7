use Rattle.numbers.specs.Operators.{on_two_signs}
use Rattle.numbers.proofs.Dispatch.{other_on_two_signs}
use Rattle.numbers.proofs.table.on_two_signs.Goals as goal

pub returns-in-BitXor-clause-answer : goal.returns-in-BitXor-clause-answer
unfolding on_two_signs
returns-in-BitXor-clause-answer c = rw c.in-BitXor.is c.xored.ensures.answer

pub returns-in-BitAnd-clause-answer : goal.returns-in-BitAnd-clause-answer
unfolding on_two_signs
returns-in-BitAnd-clause-answer c = rw c.in-BitAnd.is c.anded.ensures.answer

pub returns-in-BitOr-clause-answer : goal.returns-in-BitOr-clause-answer
unfolding on_two_signs
returns-in-BitOr-clause-answer c = rw c.in-BitOr.is c.ored.ensures.answer

pub returns-in_default-clause-answer : goal.returns-in_default-clause-answer
returns-in_default-clause-answer c =
    other_on_two_signs c.args.op c.args.left_signed c.args.left.now c.args.right.now _ c.in_default.not-BitXor c.in_default.not-BitAnd c.in_default.not-BitOr c.compared_across.ensures.answer
