use Rattle.std.proofs.Common.{◌∙◌, ap, refl, sym}
use Rattle.std.specs.Int.{w64}
use Rattle.numbers.specs.Operators.{Computes, on_integers}
use Rattle.mir_ops.proofs.SignedWords.{numbers_at, added, subtracted, multiplied, quotient, quotient_held, rest, equal, less, at_most, unequal, at_least, more}
use Rattle.mir_ops.proofs.operators.on_signed.Goals as goal

pub returns-in_ok-kept_signed-in-Add : goal.returns-in_ok-kept_signed-in-Add
returns-in_ok-kept_signed-in-Add c = rw c.in-Add.is (added _ _ _ _ _ _ (numbers_at w64 _ _ _ c.args.left.now c.args.right.now c.requires.left c.signed-x.type_inv c.signed-y.type_inv c.signed-x.ensures c.signed-y.ensures) _ _ c.in_ok-checked_add-in-Add.ensures c.in_ok-kept_signed-in-Add.ensures ∙ ap Computes (sym c.word_of.ensures))

pub returns-in_ok-kept_signed-in-Sub : goal.returns-in_ok-kept_signed-in-Sub
returns-in_ok-kept_signed-in-Sub c = rw c.in-Sub.is (subtracted _ _ _ _ _ _ (numbers_at w64 _ _ _ c.args.left.now c.args.right.now c.requires.left c.signed-x.type_inv c.signed-y.type_inv c.signed-x.ensures c.signed-y.ensures) _ _ c.in_ok-checked_sub-in-Sub.ensures c.in_ok-kept_signed-in-Sub.ensures ∙ ap Computes (sym c.word_of-in-Sub.ensures))

pub returns-in_ok-kept_signed-in-Mul : goal.returns-in_ok-kept_signed-in-Mul
returns-in_ok-kept_signed-in-Mul c = rw c.in-Mul.is (multiplied _ _ _ _ _ _ (numbers_at w64 _ _ _ c.args.left.now c.args.right.now c.requires.left c.signed-x.type_inv c.signed-y.type_inv c.signed-x.ensures c.signed-y.ensures) _ _ c.in_ok-checked_mul-in-Mul.ensures c.in_ok-kept_signed-in-Mul.ensures ∙ ap Computes (sym c.word_of-in-Mul.ensures))

pub returns-in_ok-kept_signed-in-Div : goal.returns-in_ok-kept_signed-in-Div
returns-in_ok-kept_signed-in-Div c = rw c.in-Div.is (quotient _ _ _ _ _ _ (numbers_at w64 _ _ _ c.args.left.now c.args.right.now c.requires.left c.signed-x.type_inv c.signed-y.type_inv c.signed-x.ensures c.signed-y.ensures) _ _ c.in_ok-checked_div-in-Div.ensures c.in_ok-kept_signed-in-Div.ensures ∙ ap Computes (sym c.word_of-in-Div.ensures))

pub returns-in_ok-kept_signed-in-Rem-2 : goal.returns-in_ok-kept_signed-in-Rem-2
returns-in_ok-kept_signed-in-Rem-2 c =
    let numbers = numbers_at w64 _ _ _ c.args.left.now c.args.right.now c.requires.left c.signed-x.type_inv c.signed-y.type_inv c.signed-x.ensures c.signed-y.ensures in
    let held = quotient_held _ _ _ _ _ _ numbers _ _ c.in_ok-checked_div-in-Rem.ensures c.in_ok-kept_signed-in-Rem.ensures in
    rw c.in-Rem.is (rest _ _ _ _ _ _ numbers _ _ held c.in_ok-checked_rem-in-Rem.ensures c.in_ok-kept_signed-in-Rem-2.ensures ∙ ap Computes (sym c.word_of-in-Rem.ensures))

pub returns-in-Eq : goal.returns-in-Eq
returns-in-Eq c = rw c.in-Eq.is (equal _ _ _ _ _ _ (numbers_at w64 _ _ _ c.args.left.now c.args.right.now c.requires.left c.signed-x.type_inv c.signed-y.type_inv c.signed-x.ensures c.signed-y.ensures) refl)

pub returns-in-Lt : goal.returns-in-Lt
returns-in-Lt c = rw c.in-Lt.is (less _ _ _ _ _ _ (numbers_at w64 _ _ _ c.args.left.now c.args.right.now c.requires.left c.signed-x.type_inv c.signed-y.type_inv c.signed-x.ensures c.signed-y.ensures))

pub returns-in-Le : goal.returns-in-Le
returns-in-Le c = rw c.in-Le.is (at_most _ _ _ _ _ _ (numbers_at w64 _ _ _ c.args.left.now c.args.right.now c.requires.left c.signed-x.type_inv c.signed-y.type_inv c.signed-x.ensures c.signed-y.ensures))

pub returns-in-Ne : goal.returns-in-Ne
returns-in-Ne c = rw c.in-Ne.is (unequal _ _ _ _ _ _ (numbers_at w64 _ _ _ c.args.left.now c.args.right.now c.requires.left c.signed-x.type_inv c.signed-y.type_inv c.signed-x.ensures c.signed-y.ensures) refl)

pub returns-in-Ge : goal.returns-in-Ge
returns-in-Ge c = rw c.in-Ge.is (at_least _ _ _ _ _ _ (numbers_at w64 _ _ _ c.args.left.now c.args.right.now c.requires.left c.signed-x.type_inv c.signed-y.type_inv c.signed-x.ensures c.signed-y.ensures))

pub returns-in-Gt : goal.returns-in-Gt
returns-in-Gt c = rw c.in-Gt.is (more _ _ _ _ _ _ (numbers_at w64 _ _ _ c.args.left.now c.args.right.now c.requires.left c.signed-x.type_inv c.signed-y.type_inv c.signed-x.ensures c.signed-y.ensures))

pub returns-in-BitXor : goal.returns-in-BitXor
unfolding on_integers
returns-in-BitXor c = rw c.in-BitXor.is (rw c.in-BitXor.is at c.on_unsigned.ensures)

pub returns-in-BitAnd : goal.returns-in-BitAnd
unfolding on_integers
returns-in-BitAnd c = rw c.in-BitAnd.is (rw c.in-BitAnd.is at c.on_unsigned-in-BitAnd.ensures)

pub returns-in-BitOr : goal.returns-in-BitOr
unfolding on_integers
returns-in-BitOr c = rw c.in-BitOr.is (rw c.in-BitOr.is at c.on_unsigned-in-BitOr.ensures)
