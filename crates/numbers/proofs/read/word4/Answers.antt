use Rattle.std.proofs.Common.{◌∙◌}
use Rattle.numbers.proofs.Reading.{word4_is}
use Rattle.numbers.proofs.read.word4.Goals as goal

pub returns : goal.returns
returns c = c.from_le_bytes.ensures ∙ word4_is c.args.bytes.now c.requires
