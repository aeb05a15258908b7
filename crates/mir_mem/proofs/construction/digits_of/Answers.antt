use Rattle.std.proofs.Common.{◌∙◌, ap, take}
use Rattle.std.specs.Int.{w128, cast_unsigned, to_le_bytes}
use Rattle.std.proofs.lemmas.Int.{to_z-of_z}
use Rattle.numbers.proofs.Keeping.{take-signed_bytes}
use Rattle.mir_mem.proofs.construction.digits_of.Goals as goal

pub returns : goal.returns
returns c =
    λ size few.
    let same = to_z-of_z w128 c.args.value c.ranges.value in
    let n = c.cast_unsigned.ensures ∙ ap (cast_unsigned w128) same in
    ap (take size) (c.to_le_bytes.ensures ∙ ap (to_le_bytes w128) n) ∙ take-signed_bytes size c.args.value few c.ranges.value
