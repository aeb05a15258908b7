use Rattle.std.proofs.Common.{◌≡◌, [], drop}
use Rattle.mir.specs.Run.{operands_bytes}
use Rattle.mir_eval.specs.Frames.{frame_of}
use Rattle.mir_eval.proofs.Aggregating.{joined-with}
use Rattle.mir_eval.proofs.aggregates.joined.Given as goal

-- with the bytes of the operands from here on there are those of all
abbrev pub invariant-loop-part : goal.invariant-loop-part
invariant-loop-part g l =
    joined-with l.all.items (operands_bytes (frame_of l.frame) (g.M.Memory.areas l.memory) (drop l.part-index l.operands)) ≡ joined-with [] (operands_bytes (frame_of l.frame) (g.M.Memory.areas l.memory) l.operands)
