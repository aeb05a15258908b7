use Rattle.std.proofs.Common.{◌∙◌, ap, take}
use Rattle.std.specs.Int.{w128, cast_unsigned, to_le_bytes}
use Rattle.std.proofs.lemmas.Int.{to_z-of_z}
use Rattle.numbers.specs.Operators.{Computes}
use Rattle.numbers.proofs.Keeping.{take-signed_bytes}
use Rattle.numbers.proofs.kept.low_bytes.Goals as goal

pub returns-clause-answer : goal.returns-clause-answer
returns-clause-answer c =
    let same = to_z-of_z w128 c.args.value c.ranges.value in
    let n = c.cast_unsigned.ensures ∙ ap (cast_unsigned w128) same in
    ap Computes (ap (take c.args.size) (c.to_le_bytes.ensures ∙ ap (to_le_bytes w128) n) ∙ take-signed_bytes c.args.size c.args.value c.requires c.ranges.value)
