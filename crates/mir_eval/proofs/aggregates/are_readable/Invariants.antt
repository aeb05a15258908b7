use Rattle.std.proofs.Common.{◌≡◌, drop}
use Rattle.std.specs.Prelude.{is_some}
use Rattle.mir.specs.Run.{operands_bytes}
use Rattle.mir_eval.specs.Frames.{frame_of}
use Rattle.mir_eval.proofs.aggregates.are_readable.Given as goal

-- all can be read if those from here on can
abbrev pub invariant-loop-part : goal.invariant-loop-part
invariant-loop-part g l =
    is_some (operands_bytes (frame_of l.frame) (g.M.Memory.areas l.memory) (drop l.part-index l.operands)) ≡ is_some (operands_bytes (frame_of l.frame) (g.M.Memory.areas l.memory) l.operands)
