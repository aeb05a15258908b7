use Rattle.std.proofs.Common.{◌∙◌}
use Rattle.mir_ops.proofs.Digits.{cut_bytes_are_digits}
use Rattle.mir_ops.proofs.made.bytes4.Goals as goal

pub returns : goal.returns
returns c = c.to_le_bytes.ensures ∙ cut_bytes_are_digits 4 c.args.word
