use Rattle.std.proofs.Common.{take}
use Rattle.check_trees.specs.inner.Walks.{AreTimes}
use Rattle.check_trees.specs.declared.node.BodyNode.TheVariants.{Pat}
use Rattle.check_trees.proofs.counts.count_pats.Given as goal

abbrev pub invariant-loop-i : goal.invariant-loop-i
invariant-loop-i l = AreTimes Pat (take l.i l.pairs) l.counts
