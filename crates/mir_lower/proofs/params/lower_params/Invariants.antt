-- The parameters so far are marked.
use Rattle.std.proofs.Common.{take}
use Rattle.body_forms.specs.Contexts.{source_of}
use Rattle.mir_graph.specs.Graph.{shape}
use Rattle.mir_lower.proofs.Parameters.{MarksNames}
use Rattle.mir_lower.proofs.params.lower_params.Given as goal

abbrev pub invariant-loop-pat : goal.invariant-loop-pat
invariant-loop-pat g l = MarksNames (source_of l.context) (shape g.I.Interner.projections l.fn.graph) (shape g.I.Interner.projections l.graph) (take l.pat-index l.params) l.locals
