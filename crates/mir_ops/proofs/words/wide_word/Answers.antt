use Rattle.std.proofs.Common.{◌∙◌, ap, refl, arith}
use Rattle.std.specs.Int.{w128, cast_unsigned}
use Rattle.std.proofs.lemmas.Int.{to_z-of_z}
use Rattle.numbers.specs.Bytes.{low_digits}
use Rattle.mir_ops.proofs.SignedWords.{word_bytes, word_holds}
use Rattle.mir_ops.proofs.words.wide_word.Goals as goal

pub returns : goal.returns
returns c =
    let word = c.cast_unsigned.ensures ∙ ap (cast_unsigned w128) (to_z-of_z w128 c.args.value c.ranges.value) in
    (word_holds w128 16 c.args.value refl refl c.ranges.value, ap (low_digits 16) word ∙ word_bytes w128 16 16 c.args.value refl refl (omega arith) c.ranges.value)
