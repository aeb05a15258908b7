use Rattle.body_forms.specs.Contexts.{source_of}
use Rattle.mir_graph.specs.Graph.{shape}
use Rattle.mir_lower.specs.Growth.{IsFirst}
use Rattle.mir_lower.proofs.first.first_graph.Given as goal

-- the bindings so far are added
abbrev pub invariant-loop-place : goal.invariant-loop-place
invariant-loop-place g l = IsFirst (source_of l.context) l.place (shape g.I.Interner.projections l.graph)
