use Rattle.numbers.proofs.Reading.{word1_is}
use Rattle.numbers.proofs.read.unsigned.Goals as goal

pub returns-in-1 : goal.returns-in-1
returns-in-1 c = word1_is c.args.bytes.now c.in-1.is
