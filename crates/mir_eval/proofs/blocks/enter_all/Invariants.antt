use Rattle.std.proofs.Common.{◌≡◌, ◌≤◌}
use Rattle.mir.specs.Run.{entering}
use Rattle.mir_eval.specs.Frames.{frame_of}
use Rattle.mir_eval.proofs.blocks.enter_all.Given as goal

-- the run from here is the whole run
abbrev pub invariant-loop-left : goal.invariant-loop-left
invariant-loop-left g l = record {
  within : l.left ≤ l.initial.left;
  same : entering l.left (frame_of l.frame) (g.M.Memory.areas l.memory) l.block.0 ≡ entering l.initial.left (frame_of l.initial.frame) (g.M.Memory.areas l.initial.memory) l.initial.block.0;
}

abbrev pub decreases-loop-left : goal.decreases-loop-left
decreases-loop-left g l = l.left
