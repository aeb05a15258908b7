use Rattle.std.proofs.Common.{take}
use Rattle.check_trees.specs.inner.Walks.{AreTimes}
use Rattle.check_trees.specs.declared.node.BodyNode.TheVariants.{Expr}
use Rattle.check_trees.proofs.counts.count_exprs.Given as goal

abbrev pub invariant-loop-i : goal.invariant-loop-i
invariant-loop-i l = AreTimes Expr (take l.i l.pairs) l.counts
