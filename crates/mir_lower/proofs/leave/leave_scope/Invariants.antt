-- Some of the last cells in use were left, and those that were in use when the scope was opened are there.
use Rattle.std.proofs.Common.{◌≤◌, length}
use Rattle.body_forms.specs.Contexts.{source_of}
use Rattle.mir_graph.specs.Graph.{shape}
use Rattle.mir_lower.proofs.Drops.{HasLeft}
use Rattle.mir_lower.proofs.leave.leave_scope.Given as goal

abbrev pub invariant-loop-marked : goal.invariant-loop-marked
invariant-loop-marked g l = HasLeft (source_of l.context) (shape g.I.Interner.projections l.initial.graph) (shape g.I.Interner.projections l.graph) × (l.token.0 ≤ length (shape g.I.Interner.projections l.graph).scope)

abbrev pub decreases-loop-marked : goal.decreases-loop-marked
decreases-loop-marked g l = length (shape g.I.Interner.projections l.graph).scope
