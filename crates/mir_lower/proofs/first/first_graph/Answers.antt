-- No binding at first, and one more after each turn.
use Rattle.std.proofs.Common.{◌+◌, Some, sym, ap, ◌∙◌, subst}
use Rattle.body_forms.specs.Contexts.{source_of}
use Rattle.mir_graph.specs.Graph.{shape}
use Rattle.mir_lower.specs.Growth.{IsFirst}
use Rattle.mir_lower.proofs.Beginning.{first-none, first-more}
use Rattle.mir_lower.proofs.first.first_graph.Goals as goal

pub loop-place-init : goal.loop-place-init
loop-place-init g c =
    let source = source_of c.args.context.now in
    subst (IsFirst source 0) (sym c.in_ok-graph.ensures)
    (first-none source c.in_ok-ty.ty c.len.result (g.I.Interner.projections c.args.projections) c.len.ensures (c.node_ty.ensures ∙ ap Some (sym c.in_ok-ty.ensures)))

pub loop-place-preserved : goal.loop-place-preserved
loop-place-preserved g c =
    let source = source_of c.args.context.now in
    subst (IsFirst source (c.loop-place.place + 1)) (sym c.in_ok-push_binding.ensures)
    (first-more source (shape g.I.Interner.projections c.loop-place.graph) c.loop-place.place c.loop-place.invariant)
