use Rattle.std.proofs.Common.{◌≡◌, ◌≤◌, ◌-◌, drop, length}
use Rattle.mir.specs.Run.{filled}
use Rattle.mir_eval.specs.Frames.{frame_of}
use Rattle.mir_eval.proofs.calls.fill.Given as goal

-- what is left to be copied leaves what all of it does
abbrev pub invariant-loop-i : goal.invariant-loop-i
invariant-loop-i g l = record {
  few_params : l.i ≤ length l.params;
  few_args : l.i ≤ length l.args;
  same : filled (frame_of l.caller) l.cells (drop l.i l.params) (drop l.i l.args) (g.M.Memory.areas l.memory) ≡ filled (frame_of l.initial.caller) l.initial.cells l.initial.params l.initial.args (g.M.Memory.areas l.initial.memory);
}

abbrev pub decreases-loop-i : goal.decreases-loop-i
decreases-loop-i g l = length l.params - l.i
