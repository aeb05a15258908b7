use Rattle.std.proofs.Common.{ℕ, ◌+◌, ◌*◌, ◌≤◌, ltb, take, Decides}
use Rattle.check_trees.specs.inner.Walks.{AreHeights, HaveAPath, LeavesNoneOpen}
use Rattle.check_trees.proofs.heights.+heights.Given as goal

abbrev pub decreases-height : goal.decreases-height
decreases-height l = 2 * l.budget

abbrev pub decreases-levels_of : goal.decreases-levels_of
decreases-levels_of l = 2 * l.budget + 1

abbrev pub invariant-levels_of-loop-i : goal.invariant-levels_of-loop-i
invariant-levels_of-loop-i l =
    AreHeights l.body l.heights
    × (l.levels ≤ l.budget)
    × ((steps : ℕ) → Decides (ltb steps l.levels) (HaveAPath l.body steps (take l.i l.nodes)))
    × LeavesNoneOpen l.fn.heights l.heights
