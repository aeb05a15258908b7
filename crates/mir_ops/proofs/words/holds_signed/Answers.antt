use Rattle.std.proofs.Common.{refl, sym}
use Rattle.std.specs.Int.{w64}
use Rattle.std.proofs.lemmas.Int.{to_z-of_z}
use Rattle.numbers.proofs.Keeping.{holds-between}
use Rattle.mir_ops.proofs.SignedWords.{word_holds}
use Rattle.mir_ops.proofs.words.holds_signed.Goals as goal

pub returns-in-One : goal.returns-in-One
returns-in-One c = rw c.in-One.is (holds-between 1 127 c.args.value _ _ _ c.is_between.result (to_z-of_z w64 c.args.value c.ranges.value) refl refl refl c.is_between.ensures)

pub returns-in-Two : goal.returns-in-Two
returns-in-Two c = rw c.in-Two.is (holds-between 2 32767 c.args.value _ _ _ c.is_between-in-Two.result (to_z-of_z w64 c.args.value c.ranges.value) refl refl refl c.is_between-in-Two.ensures)

pub returns-in-Four : goal.returns-in-Four
returns-in-Four c = rw c.in-Four.is (holds-between 4 2147483647 c.args.value _ _ _ c.is_between-in-Four.result (to_z-of_z w64 c.args.value c.ranges.value) refl refl refl c.is_between-in-Four.ensures)

pub returns-in-Eight : goal.returns-in-Eight
returns-in-Eight c = rw c.in-Eight.is (sym (word_holds w64 8 c.args.value refl refl c.ranges.value))
