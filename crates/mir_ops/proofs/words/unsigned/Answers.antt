use Rattle.std.proofs.Common.{◌∙◌, ap}
use Rattle.numbers.proofs.Reading.{word1_is}
use Rattle.mir_ops.specs.Made.{bytes_in}
use Rattle.mir_ops.proofs.words.unsigned.Goals as goal

pub returns-in-One-clause-value : goal.returns-in-One-clause-value
returns-in-One-clause-value c = word1_is c.args.bytes.now (c.requires ∙ ap bytes_in c.in-One.is)
