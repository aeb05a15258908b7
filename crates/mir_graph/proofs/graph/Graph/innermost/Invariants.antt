-- None of the loops and labelled blocks behind a place is the one that the jump means.
use Rattle.std.proofs.Common.{◌≡◌, ◌≤◌, length, take}
use Rattle.mir_graph.specs.Graph.{meant_target, targets_of}
use Rattle.mir_graph.proofs.graph.Graph.innermost.Given as goal

abbrev pub invariant-loop-left : goal.invariant-loop-left
invariant-loop-left g l = (l.left ≤ length l.self.loops.items) × (meant_target l.label (targets_of l.self.loops.items) ≡ meant_target l.label (targets_of (take l.left l.self.loops.items)))

abbrev pub decreases-loop-left : goal.decreases-loop-left
decreases-loop-left g l = l.left
