use Rattle.check_trees.specs.inner.Walks.{AreSettled}
use Rattle.check_trees.specs.Tree.{IsPatInOrder}
use Rattle.check_trees.proofs.Listed.{AllBefore}
use Rattle.check_trees.proofs.order.wrong_pat_among.Given as goal

abbrev pub invariant-loop-i : goal.invariant-loop-i
invariant-loop-i l = AreSettled l.body l.heights × AllBefore (IsPatInOrder l.body) l.pats l.i
