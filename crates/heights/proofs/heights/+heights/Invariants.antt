use Rattle.std.proofs.Common.{◌≡◌, ◌≤◌, ◌+◌, ◌*◌, map, take}
use Rattle.source_meaning.specs.Heights.{first_heights, greatest, height_among}
use Rattle.heights.specs.Known.{AreHeights}
use Rattle.heights.proofs.heights.+heights.Given as goal

abbrev pub decreases-height_at : goal.decreases-height_at
decreases-height_at l = 3 * l.levels

abbrev pub decreases-part_height : goal.decreases-part_height
decreases-part_height l = 3 * l.levels + 1

abbrev pub decreases-highest : goal.decreases-highest
decreases-highest l = 3 * l.levels + 2

abbrev pub invariant-highest-loop-part : goal.invariant-highest-loop-part
invariant-highest-loop-part l =
    (l.highest ≡ greatest (map (height_among (first_heights l.db l.row)) (take l.part-index l.parts)))
    × (l.highest ≤ l.levels)
    × AreHeights l.db l.known
