use Rattle.std.proofs.Common.{take}
use Rattle.check_trees.specs.inner.Walks.{AreMarked}
use Rattle.check_trees.proofs.tops.mark_params.Given as goal

abbrev pub invariant-loop-i : goal.invariant-loop-i
invariant-loop-i l = AreMarked (take l.i l.params) l.marks
