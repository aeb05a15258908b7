use Rattle.std.proofs.Common.{refl, ap, ◌∙◌}
use Rattle.std.specs.Int.{w64, cast_unsigned}
use Rattle.std.proofs.lemmas.Int.{to_z-of_z}
use Rattle.numbers.specs.Bytes.{low_bytes, low_digits}
use Rattle.numbers.specs.Operators.{is_signed}
use Rattle.numbers.proofs.Dispatch.{not_signed}
use Rattle.mir_ops.proofs.Shifting.{unsigned_word}
use Rattle.mir_ops.proofs.SignedWords.{word_bytes}
use Rattle.mir_ops.proofs.shifts.word.Goals as goal

pub returns-in-Signed : goal.returns-in-Signed
unfolding is_signed
returns-in-Signed c = λ count few.
    let same = to_z-of_z w64 c.signed.result (record { sfits = c.signed.type_inv }) in
    let word = c.cast_unsigned.ensures ∙ ap (cast_unsigned w64) same in
    rw c.in-Signed.is (ap (low_digits count) word ∙ word_bytes w64 8 count c.signed.result refl refl few (record { sfits = c.signed.type_inv }) ∙ ap (low_bytes count) c.signed.ensures)

pub returns-in_default : goal.returns-in_default
returns-in_default c = λ count few. unsigned_word _ c.args.bytes.now _ (not_signed c.args.kind c.in_default.not-Signed) c.unsigned.ensures.value count
