use Rattle.mir_ops.proofs.Digits.{truth_digits}
use Rattle.mir_ops.proofs.made.byte_of.Goals as goal

pub returns : goal.returns
returns c = truth_digits c.args.truth
