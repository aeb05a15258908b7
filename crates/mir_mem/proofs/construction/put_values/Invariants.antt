use Rattle.std.proofs.Common.{◌≡◌, ◌-◌, drop, length}
use Rattle.mir.specs.Run.{placed_parts}
use Rattle.mir_mem.proofs.construction.put_values.Given as goal

-- what is left to be put makes what all values make
abbrev pub invariant-loop-i : goal.invariant-loop-i
invariant-loop-i l =
    placed_parts l.shape.size (drop l.i l.shape.offsets) (drop l.i l.values) l.all ≡ placed_parts l.shape.size l.shape.offsets l.values l.initial.all

abbrev pub decreases-loop-i : goal.decreases-loop-i
decreases-loop-i l = length l.values - l.i
