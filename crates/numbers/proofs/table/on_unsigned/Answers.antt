use Rattle.std.proofs.Common.{◌∙◌, ap, false, pos}
use Rattle.numbers.specs.Bytes.{number_of}
use Rattle.numbers.specs.Operators.{on_integers}
use Rattle.numbers.proofs.Dispatch.{compared_alike, other_on_integers}
use Rattle.numbers.proofs.table.on_unsigned.Goals as goal

pub returns-in-Add-clause-answer : goal.returns-in-Add-clause-answer
unfolding on_integers number_of
returns-in-Add-clause-answer c =
    let x = c.unsigned-x.ensures in
    let y = c.unsigned-y.ensures in
    rw c.in-Add.is (rw (x, y) at c.added_unsigned.ensures.answer)

pub returns-in-Sub-clause-answer : goal.returns-in-Sub-clause-answer
unfolding on_integers number_of
returns-in-Sub-clause-answer c =
    let x = c.unsigned-x.ensures in
    let y = c.unsigned-y.ensures in
    rw c.in-Sub.is (rw (x, y) at c.subtracted_unsigned.ensures.answer)

pub returns-in-Mul-clause-answer : goal.returns-in-Mul-clause-answer
unfolding on_integers number_of
returns-in-Mul-clause-answer c =
    let x = c.unsigned-x.ensures in
    let y = c.unsigned-y.ensures in
    rw c.in-Mul.is (rw (x, y) at c.multiplied_unsigned.ensures.answer)

pub returns-in-Div-clause-answer : goal.returns-in-Div-clause-answer
unfolding on_integers number_of
returns-in-Div-clause-answer c =
    let x = c.unsigned-x.ensures in
    let y = c.unsigned-y.ensures in
    rw c.in-Div.is (rw (x, y) at c.divided_unsigned.ensures.answer)

pub returns-in-Rem-clause-answer : goal.returns-in-Rem-clause-answer
unfolding on_integers number_of
returns-in-Rem-clause-answer c =
    let x = c.unsigned-x.ensures in
    let y = c.unsigned-y.ensures in
    rw c.in-Rem.is (rw (x, y) at c.remainder_unsigned.ensures.answer)

pub returns-in-BitXor-clause-answer : goal.returns-in-BitXor-clause-answer
unfolding on_integers number_of
returns-in-BitXor-clause-answer c =
    rw c.in-BitXor.is c.xored.ensures.answer

pub returns-in-BitAnd-clause-answer : goal.returns-in-BitAnd-clause-answer
unfolding on_integers number_of
returns-in-BitAnd-clause-answer c =
    rw c.in-BitAnd.is c.anded.ensures.answer

pub returns-in-BitOr-clause-answer : goal.returns-in-BitOr-clause-answer
unfolding on_integers number_of
returns-in-BitOr-clause-answer c =
    rw c.in-BitOr.is c.ored.ensures.answer

pub returns-in_default-clause-answer : goal.returns-in_default-clause-answer
unfolding number_of
returns-in_default-clause-answer c =
    let x = ap pos c.unsigned-x.ensures in
    let y = ap pos c.unsigned-y.ensures in
    other_on_integers c.args.op false c.args.left.now c.args.right.now _ c.in_default.not-Add c.in_default.not-Sub c.in_default.not-Mul c.in_default.not-Div c.in_default.not-Rem c.in_default.not-BitXor c.in_default.not-BitAnd c.in_default.not-BitOr
    (c.compared_unsigned.ensures.answer ∙ compared_alike c.args.op x y)
