use Rattle.std.proofs.Common.{refl}
use Rattle.std.specs.Int.{w128}
use Rattle.numbers.specs.Operators.{on_integers}
use Rattle.mir_ops.proofs.SignedWords.{numbers_at, added, subtracted, multiplied, quotient, word_quotient_held, rest, equal, less, at_most, unequal, at_least, more}
use Rattle.mir_ops.proofs.operators.on_wide_signed.Goals as goal

pub returns-in_ok-checked_add-in-Add : goal.returns-in_ok-checked_add-in-Add
returns-in_ok-checked_add-in-Add c = rw c.in-Add.is (added _ _ _ _ _ _ (numbers_at w128 _ _ _ c.args.left.now c.args.right.now c.requires.left c.wide_signed-x.type_inv c.wide_signed-y.type_inv c.wide_signed-x.ensures c.wide_signed-y.ensures) _ _ c.in_ok-checked_add-in-Add.ensures c.wide_word.ensures)

pub returns-in_ok-checked_sub-in-Sub : goal.returns-in_ok-checked_sub-in-Sub
returns-in_ok-checked_sub-in-Sub c = rw c.in-Sub.is (subtracted _ _ _ _ _ _ (numbers_at w128 _ _ _ c.args.left.now c.args.right.now c.requires.left c.wide_signed-x.type_inv c.wide_signed-y.type_inv c.wide_signed-x.ensures c.wide_signed-y.ensures) _ _ c.in_ok-checked_sub-in-Sub.ensures c.wide_word-in-Sub.ensures)

pub returns-in_ok-checked_mul-in-Mul : goal.returns-in_ok-checked_mul-in-Mul
returns-in_ok-checked_mul-in-Mul c = rw c.in-Mul.is (multiplied _ _ _ _ _ _ (numbers_at w128 _ _ _ c.args.left.now c.args.right.now c.requires.left c.wide_signed-x.type_inv c.wide_signed-y.type_inv c.wide_signed-x.ensures c.wide_signed-y.ensures) _ _ c.in_ok-checked_mul-in-Mul.ensures c.wide_word-in-Mul.ensures)

pub returns-in_ok-checked_div-in-Div : goal.returns-in_ok-checked_div-in-Div
returns-in_ok-checked_div-in-Div c = rw c.in-Div.is (quotient _ _ _ _ _ _ (numbers_at w128 _ _ _ c.args.left.now c.args.right.now c.requires.left c.wide_signed-x.type_inv c.wide_signed-y.type_inv c.wide_signed-x.ensures c.wide_signed-y.ensures) _ _ c.in_ok-checked_div-in-Div.ensures c.wide_word-in-Div.ensures)

pub returns-in_ok-checked_rem-in-Rem : goal.returns-in_ok-checked_rem-in-Rem
returns-in_ok-checked_rem-in-Rem c =
    let numbers = numbers_at w128 _ _ _ c.args.left.now c.args.right.now c.requires.left c.wide_signed-x.type_inv c.wide_signed-y.type_inv c.wide_signed-x.ensures c.wide_signed-y.ensures in
    let held = word_quotient_held _ _ _ _ _ _ numbers c.in_ok-checked_rem-in-Rem.ensures.0 refl refl in
    rw c.in-Rem.is (rest _ _ _ _ _ _ numbers _ _ held c.in_ok-checked_rem-in-Rem.ensures c.wide_word-in-Rem.ensures)

pub returns-in-Eq : goal.returns-in-Eq
returns-in-Eq c = rw c.in-Eq.is (equal _ _ _ _ _ _ (numbers_at w128 _ _ _ c.args.left.now c.args.right.now c.requires.left c.wide_signed-x.type_inv c.wide_signed-y.type_inv c.wide_signed-x.ensures c.wide_signed-y.ensures) refl)

pub returns-in-Lt : goal.returns-in-Lt
returns-in-Lt c = rw c.in-Lt.is (less _ _ _ _ _ _ (numbers_at w128 _ _ _ c.args.left.now c.args.right.now c.requires.left c.wide_signed-x.type_inv c.wide_signed-y.type_inv c.wide_signed-x.ensures c.wide_signed-y.ensures))

pub returns-in-Le : goal.returns-in-Le
returns-in-Le c = rw c.in-Le.is (at_most _ _ _ _ _ _ (numbers_at w128 _ _ _ c.args.left.now c.args.right.now c.requires.left c.wide_signed-x.type_inv c.wide_signed-y.type_inv c.wide_signed-x.ensures c.wide_signed-y.ensures))

pub returns-in-Ne : goal.returns-in-Ne
returns-in-Ne c = rw c.in-Ne.is (unequal _ _ _ _ _ _ (numbers_at w128 _ _ _ c.args.left.now c.args.right.now c.requires.left c.wide_signed-x.type_inv c.wide_signed-y.type_inv c.wide_signed-x.ensures c.wide_signed-y.ensures) refl)

pub returns-in-Ge : goal.returns-in-Ge
returns-in-Ge c = rw c.in-Ge.is (at_least _ _ _ _ _ _ (numbers_at w128 _ _ _ c.args.left.now c.args.right.now c.requires.left c.wide_signed-x.type_inv c.wide_signed-y.type_inv c.wide_signed-x.ensures c.wide_signed-y.ensures))

pub returns-in-Gt : goal.returns-in-Gt
returns-in-Gt c = rw c.in-Gt.is (more _ _ _ _ _ _ (numbers_at w128 _ _ _ c.args.left.now c.args.right.now c.requires.left c.wide_signed-x.type_inv c.wide_signed-y.type_inv c.wide_signed-x.ensures c.wide_signed-y.ensures))

pub returns-in-BitXor : goal.returns-in-BitXor
unfolding on_integers
returns-in-BitXor c = rw c.in-BitXor.is (rw c.in-BitXor.is at c.on_wide_unsigned.ensures)

pub returns-in-BitAnd : goal.returns-in-BitAnd
unfolding on_integers
returns-in-BitAnd c = rw c.in-BitAnd.is (rw c.in-BitAnd.is at c.on_wide_unsigned-in-BitAnd.ensures)

pub returns-in-BitOr : goal.returns-in-BitOr
unfolding on_integers
returns-in-BitOr c = rw c.in-BitOr.is (rw c.in-BitOr.is at c.on_wide_unsigned-in-BitOr.ensures)
