use Rattle.check_items.proofs.Marking.{AreRightBelow}
use Rattle.check_items.proofs.listed.wrong_variant.Given as goal

abbrev pub invariant-loop-v : goal.invariant-loop-v
invariant-loop-v l = AreRightBelow l.db l.v
