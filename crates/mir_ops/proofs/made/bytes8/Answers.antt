use Rattle.std.proofs.Common.{◌∙◌}
use Rattle.mir_ops.proofs.Digits.{bytes_are_digits}
use Rattle.mir_ops.proofs.made.bytes8.Goals as goal

pub returns : goal.returns
returns c = c.to_le_bytes.ensures ∙ bytes_are_digits 8 c.args.word
