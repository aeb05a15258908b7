use Rattle.std.proofs.Common.{◌∙◌, ap, sym}
use Rattle.numbers.specs.Operators.{Computes}
use Rattle.mir_ops.proofs.UnsignedWords.{words_at, kept_value, added, subtracted, multiplied, quotient, rest, xored, anded, ored, equal, less, at_most, unequal, at_least, more}
use Rattle.mir_ops.proofs.operators.on_unsigned.Goals as goal

pub returns-in_ok-kept_unsigned-in-Add : goal.returns-in_ok-kept_unsigned-in-Add
returns-in_ok-kept_unsigned-in-Add c = rw c.in-Add.is (added _ _ _ _ _ (words_at _ _ _ c.args.left.now c.args.right.now c.requires.left c.unsigned-x.ensures.value c.unsigned-y.ensures.value) _ (kept_value _ _ _ _ c.in_ok-checked_add-in-Add.ensures.1 c.in_ok-kept_unsigned-in-Add.ensures) ∙ ap Computes (sym c.word_of.ensures))

pub returns-in_ok-checked_sub-in-Sub : goal.returns-in_ok-checked_sub-in-Sub
returns-in_ok-checked_sub-in-Sub c = rw c.in-Sub.is (subtracted _ _ _ _ _ (words_at _ _ _ c.args.left.now c.args.right.now c.requires.left c.unsigned-x.ensures.value c.unsigned-y.ensures.value) _ c.unsigned-x.ensures.below c.in_ok-checked_sub-in-Sub.ensures ∙ ap Computes (sym c.word_of-in-Sub.ensures))

pub returns-in_ok-kept_unsigned-in-Mul : goal.returns-in_ok-kept_unsigned-in-Mul
returns-in_ok-kept_unsigned-in-Mul c = rw c.in-Mul.is (multiplied _ _ _ _ _ (words_at _ _ _ c.args.left.now c.args.right.now c.requires.left c.unsigned-x.ensures.value c.unsigned-y.ensures.value) _ (kept_value _ _ _ _ c.in_ok-checked_mul-in-Mul.ensures.1 c.in_ok-kept_unsigned-in-Mul.ensures) ∙ ap Computes (sym c.word_of-in-Mul.ensures))

pub returns-in_ok-checked_div-in-Div : goal.returns-in_ok-checked_div-in-Div
returns-in_ok-checked_div-in-Div c = rw c.in-Div.is (quotient _ _ _ _ _ (words_at _ _ _ c.args.left.now c.args.right.now c.requires.left c.unsigned-x.ensures.value c.unsigned-y.ensures.value) _ c.unsigned-x.ensures.below c.in_ok-checked_div-in-Div.ensures ∙ ap Computes (sym c.word_of-in-Div.ensures))

pub returns-in_ok-checked_rem-in-Rem : goal.returns-in_ok-checked_rem-in-Rem
returns-in_ok-checked_rem-in-Rem c = rw c.in-Rem.is (rest _ _ _ _ _ (words_at _ _ _ c.args.left.now c.args.right.now c.requires.left c.unsigned-x.ensures.value c.unsigned-y.ensures.value) _ c.unsigned-x.ensures.below c.in_ok-checked_rem-in-Rem.ensures ∙ ap Computes (sym c.word_of-in-Rem.ensures))

pub returns-in-BitXor : goal.returns-in-BitXor
returns-in-BitXor c = rw c.in-BitXor.is (xored _ _ _ _ _ (words_at _ _ _ c.args.left.now c.args.right.now c.requires.left c.unsigned-x.ensures.value c.unsigned-y.ensures.value) ∙ ap Computes (sym c.word_of-in-BitXor.ensures))

pub returns-in-BitAnd : goal.returns-in-BitAnd
returns-in-BitAnd c = rw c.in-BitAnd.is (anded _ _ _ _ _ (words_at _ _ _ c.args.left.now c.args.right.now c.requires.left c.unsigned-x.ensures.value c.unsigned-y.ensures.value) ∙ ap Computes (sym c.word_of-in-BitAnd.ensures))

pub returns-in-BitOr : goal.returns-in-BitOr
returns-in-BitOr c = rw c.in-BitOr.is (ored _ _ _ _ _ (words_at _ _ _ c.args.left.now c.args.right.now c.requires.left c.unsigned-x.ensures.value c.unsigned-y.ensures.value) ∙ ap Computes (sym c.word_of-in-BitOr.ensures))

pub returns-in-Eq : goal.returns-in-Eq
returns-in-Eq c = rw c.in-Eq.is (equal _ _ _ _ _ (words_at _ _ _ c.args.left.now c.args.right.now c.requires.left c.unsigned-x.ensures.value c.unsigned-y.ensures.value))

pub returns-in-Lt : goal.returns-in-Lt
returns-in-Lt c = rw c.in-Lt.is (less _ _ _ _ _ (words_at _ _ _ c.args.left.now c.args.right.now c.requires.left c.unsigned-x.ensures.value c.unsigned-y.ensures.value))

pub returns-in-Le : goal.returns-in-Le
returns-in-Le c = rw c.in-Le.is (at_most _ _ _ _ _ (words_at _ _ _ c.args.left.now c.args.right.now c.requires.left c.unsigned-x.ensures.value c.unsigned-y.ensures.value))

pub returns-in-Ne : goal.returns-in-Ne
returns-in-Ne c = rw c.in-Ne.is (unequal _ _ _ _ _ (words_at _ _ _ c.args.left.now c.args.right.now c.requires.left c.unsigned-x.ensures.value c.unsigned-y.ensures.value))

pub returns-in-Ge : goal.returns-in-Ge
returns-in-Ge c = rw c.in-Ge.is (at_least _ _ _ _ _ (words_at _ _ _ c.args.left.now c.args.right.now c.requires.left c.unsigned-x.ensures.value c.unsigned-y.ensures.value))

pub returns-in-Gt : goal.returns-in-Gt
returns-in-Gt c = rw c.in-Gt.is (more _ _ _ _ _ (words_at _ _ _ c.args.left.now c.args.right.now c.requires.left c.unsigned-x.ensures.value c.unsigned-y.ensures.value))
