use Rattle.std.proofs.Common.{◌+◌, ◌*◌, take}
use Rattle.check_trees.specs.inner.Walks.{AreReaches, HaveReach}
use Rattle.check_trees.proofs.reach.+reaches.Given as goal

abbrev pub decreases-reach_of_pat : goal.decreases-reach_of_pat
decreases-reach_of_pat l = 2 * l.budget

abbrev pub decreases-reach_of_pats : goal.decreases-reach_of_pats
decreases-reach_of_pats l = 2 * l.budget + 1

abbrev pub invariant-reach_of_pats-loop-i : goal.invariant-reach_of_pats-loop-i
invariant-reach_of_pats-loop-i l = AreReaches l.body l.reaches × HaveReach l.body (take l.i l.ids) l.reach
