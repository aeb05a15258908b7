use Rattle.mir_ops.proofs.Digits.{lowest_digit}
use Rattle.mir_ops.proofs.made.bytes1.Goals as goal

pub returns : goal.returns
returns c = lowest_digit c.args.word
