use Rattle.std.proofs.Common.{◌≡◌, ◌-◌, ◌≤◌, [], length}
use Rattle.mirconst_input.specs.Input.{Moves}
use Rattle.mirconst_input.proofs.reading.read_input.Given as goal

abbrev pub invariant-loop-bytes : goal.invariant-loop-bytes
invariant-loop-bytes g l =
    Moves [] (g.S.Source.left l.initial.src) l.bytes.items (g.S.Source.left l.src) × (length l.room.items ≡ 65536)
    × (length l.bytes.items ≤ 67108865) × (g.S.Source.faults l.initial.src ≤ g.S.Source.faults l.src)

abbrev pub decreases-loop-bytes : goal.decreases-loop-bytes
decreases-loop-bytes g l = 67108865 - length l.bytes.items
