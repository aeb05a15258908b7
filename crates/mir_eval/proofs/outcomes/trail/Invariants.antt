use Rattle.std.proofs.Common.{◌≡◌, ◌≤◌, ◌++◌, drop, length}
use Rattle.std.specs.Prelude.{map}
use Rattle.std.specs.Option.{option_to_list}
use Rattle.mir.specs.Run.{Waiting}
use Rattle.mir_eval.specs.Frames.{callers}
use Rattle.mir_eval.proofs.outcomes.trail.Given as goal

-- the callers from here on are in the trail
abbrev pub invariant-loop-i : goal.invariant-loop-i
invariant-loop-i l = record {
  within : l.i ≤ length l.below;
  named : l.trail ≡ option_to_list l.fn.first ++ map (λ (w : Waiting). w.call) (callers (drop l.i l.below));
}

abbrev pub decreases-loop-i : goal.decreases-loop-i
decreases-loop-i l = l.i
