use Rattle.std.proofs.Common.{◌^◌, ℕ, FitsSigned, refl, ap, sym, ◌∙◌, arith}
use Rattle.std.specs.Int.{w64, int_shr}
use Rattle.std.proofs.lemmas.Int.{to_z-of_z}
use lib.Signed.{mag_shr}
use Rattle.numbers.specs.Bytes.{low_bytes, low_digits}
use Rattle.numbers.specs.Operators.{Computes}
use Rattle.numbers.proofs.Dispatch.{shifted_signed}
use Rattle.mir_ops.specs.Made.{bytes_in}
use Rattle.mir_ops.proofs.Shifting.{down_made, shifted_up}
use Rattle.mir_ops.proofs.SignedWords.{size_below, word_bytes}
use Rattle.mir_ops.proofs.shifts.shifted.Goals as goal

pub returns-in-Shl : goal.returns-in-Shl
returns-in-Shl c = rw c.in-Shl.is (shifted_up c.args.is_signed c.args.bytes.now c.args.size c.args.amount _ _ c.requires.long c.unsigned.ensures.value c.word_of.ensures)

pub returns-then-is_signed : goal.returns-then-is_signed
returns-then-is_signed c =
    let z = c.signed.result in
    let same = to_z-of_z w64 z (record { sfits = c.signed.type_inv }) in
    let fits : FitsSigned w64 (int_shr z c.args.amount) = record { sfits = omega (arith, mag_shr z (2 ^ c.args.amount), c.signed.type_inv) } in
    let down = to_z-of_z w64 (int_shr z c.args.amount) fits in
    let word = simp (same, down) at c.cast_unsigned.ensures in
    let made = c.word_of-then-is_signed.ensures ∙ ap (low_digits (bytes_in c.args.size)) word ∙ word_bytes w64 8 (bytes_in c.args.size) (int_shr z c.args.amount) refl refl (size_below c.args.size) fits in
    rw (c.in-Shr.is, c.if-is_signed.true)
    (sym (shifted_signed c.args.bytes.now c.args.amount z _ c.signed.ensures (ap Computes (made ∙ ap (λ (count : ℕ). low_bytes count (int_shr z c.args.amount)) (sym c.requires.long)))))

pub returns-else-is_signed : goal.returns-else-is_signed
returns-else-is_signed c =
    rw (c.in-Shr.is, c.if-is_signed.false) (down_made c.args.bytes.now c.args.size c.args.amount _ _ c.requires.long c.unsigned-else-is_signed.ensures.value c.word_of-else-is_signed.ensures)
