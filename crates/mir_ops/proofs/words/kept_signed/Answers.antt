use Rattle.std.proofs.Common.{true, refl, sym, ◌∙◌, ap}
use Rattle.std.specs.Int.{w64, cast_unsigned}
use Rattle.std.proofs.lemmas.Int.{to_z-of_z}
use Rattle.numbers.specs.Bytes.{holds, low_digits}
use Rattle.mir_ops.specs.Made.{bytes_in}
use Rattle.mir_ops.proofs.SignedWords.{size_below, word_bytes}
use Rattle.mir_ops.proofs.words.kept_signed.Goals as goal

pub returns-then-holds_signed : goal.returns-then-holds_signed
returns-then-holds_signed c =
    let same = to_z-of_z w64 c.args.value c.ranges.value in
    let held = sym (c.holds_signed.ensures ∙ ap (holds true (bytes_in c.args.size)) same) ∙ c.if-holds_signed.true in
    let word = c.cast_unsigned.ensures ∙ ap (cast_unsigned w64) same in
    (held, ap (low_digits (bytes_in c.args.size)) word ∙ word_bytes w64 8 (bytes_in c.args.size) c.args.value refl refl (size_below c.args.size) c.ranges.value)
