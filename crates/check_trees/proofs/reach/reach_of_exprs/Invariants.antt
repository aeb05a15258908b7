use Rattle.std.proofs.Common.{ℕ, take, Decides}
use Rattle.check_trees.specs.inner.Walks.{is_before}
use Rattle.check_trees.specs.Tree.{AreBelow}
use Rattle.check_trees.proofs.reach.reach_of_exprs.Given as goal

abbrev pub invariant-loop-i : goal.invariant-loop-i
invariant-loop-i l = (e : ℕ) → Decides (is_before l.reach e) (AreBelow (take l.i l.ids) e)
