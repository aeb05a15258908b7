use Rattle.std.proofs.Common.{◌≡◌, ◌-◌, List, ℕ, drop, length, replicate, Some}
use Rattle.mir.specs.Run.{operands_bytes, placed_parts}
use Rattle.mir_eval.specs.Frames.{frame_of}
use Rattle.mir_eval.proofs.aggregates.laid_out.Given as goal

-- the parts from here on make what all make
abbrev pub invariant-loop-i : goal.invariant-loop-i
invariant-loop-i g l =
    (parts : List (List ℕ)) → operands_bytes (frame_of l.frame) (g.M.Memory.areas l.memory) l.operands ≡ Some parts →
    placed_parts l.layout.size (drop l.i l.layout.offsets) (drop l.i parts) l.all.items ≡ placed_parts l.layout.size l.layout.offsets parts (replicate l.layout.size 0)

abbrev pub decreases-loop-i : goal.decreases-loop-i
decreases-loop-i g l = length l.operands - l.i
