use Rattle.check_trees.specs.inner.Walks.{AreReaches, AreSettled}
use Rattle.check_trees.specs.Tree.{IsExprInOrder}
use Rattle.check_trees.proofs.Listed.{AllBefore}
use Rattle.check_trees.proofs.order.wrong_expr_among.Given as goal

abbrev pub invariant-loop-i : goal.invariant-loop-i
invariant-loop-i l = AreSettled l.body l.heights × AreReaches l.body l.reaches × AllBefore (IsExprInOrder l.body) l.exprs l.i
