-- The lowest bytes of a signed number are those of its two's complement.
use Rattle.std.proofs.Common.{◌∙◌, ap, sym, take}
use Rattle.std.specs.Int.{w128, cast_unsigned, to_le_bytes}
use Rattle.std.proofs.lemmas.Int.{to_z-of_z}
use Rattle.numbers.proofs.Keeping.{take-signed_bytes}
use Rattle.body_forms.proofs.literal.signed_bytes.Goals as goal

pub returns : goal.returns
returns c = λ size h.
    let same = to_z-of_z w128 c.args.number c.ranges.number in
    let n = c.cast_unsigned.ensures ∙ ap (cast_unsigned w128) same in
    sym (ap (take size) (c.to_le_bytes.ensures ∙ ap (to_le_bytes w128) n) ∙ take-signed_bytes size c.args.number h c.ranges.number)
