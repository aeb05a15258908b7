-- The locals behind a place were left, and are still marked. The place is behind those that stay, or none was left yet.
use Rattle.std.proofs.Common.{◌≡◌, ◌≤◌, ◌⊎◌, length, drop}
use Rattle.source_meaning.specs.Source.{drops}
use Rattle.body_forms.specs.Contexts.{source_of}
use Rattle.mir_graph.specs.Graph.{shape}
use Rattle.mir_lower.specs.Leaving.{Idles}
use Rattle.mir_lower.proofs.leave.leave_marked.Given as goal

abbrev pub invariant-loop-left : goal.invariant-loop-left
invariant-loop-left g l =
    ((l.token.0 ≤ l.left) ⊎ (l.left ≡ length (shape g.I.Interner.projections l.initial.graph).scope)) × (l.left ≤ length (shape g.I.Interner.projections l.initial.graph).scope)
    × Idles (source_of l.context) (shape g.I.Interner.projections l.initial.graph) (shape g.I.Interner.projections l.graph) (drops (source_of l.context) (drop l.left (shape g.I.Interner.projections l.initial.graph).scope))

abbrev pub decreases-loop-left : goal.decreases-loop-left
decreases-loop-left g l = l.left
