use Rattle.std.proofs.Common.{◌∙◌}
use Rattle.numbers.proofs.Reading.{word2_is}
use Rattle.numbers.proofs.read.word2.Goals as goal

pub returns : goal.returns
returns c = c.from_le_bytes.ensures ∙ word2_is c.args.bytes.now c.requires
