-- The lowest bytes of an unsigned number.
use Rattle.std.proofs.Common.{◌∙◌, ap, sym, take}
use Rattle.numbers.proofs.Keeping.{take-le_bytes, low_bytes-pos}
use Rattle.body_forms.proofs.literal.unsigned_bytes.Goals as goal

pub returns : goal.returns
returns c = λ size h. low_bytes-pos size c.args.number ∙ sym (ap (take size) c.to_le_bytes.ensures ∙ take-le_bytes size c.args.number h)
