use Rattle.std.proofs.Common.{◌∙◌}
use Rattle.numbers.proofs.Reading.{word8_is}
use Rattle.numbers.proofs.read.word8.Goals as goal

pub returns : goal.returns
returns c = c.from_le_bytes.ensures ∙ word8_is c.args.bytes.now c.requires
