-- A drop where the type asks for one, and nothing else.
use Rattle.std.proofs.Common.{Bool, sym, ◌∙◌, subst}
use Rattle.std.proofs.lemmas.Result.{on_ok_weaker}
use Rattle.mir.specs.declared.span.MirSpan.TheVariants.{ExprId}
use Rattle.std.specs.Prelude.{None}
use Rattle.body_forms.specs.Contexts.{source_of}
use Rattle.mir.specs.WholePlaces.{whole_place}
use Rattle.mir_graph.specs.Graph.{shape}
use Rattle.mir_lower.specs.Leaving.{Idles, one_if}
use Rattle.mir_lower.proofs.Leaving.{idles-drop, idles-refl}
use Rattle.mir_lower.proofs.leave.drop_if_needed.Goals as goal

pub returns-then-needed : goal.returns-then-needed
returns-then-needed g c =
    let source = source_of c.args.context.now in
    on_ok_weaker c.drop_local.result
    (λ h. subst (λ (b : Bool). Idles source (shape g.I.Interner.projections c.args.graph.now) (shape g.I.Interner.projections c.drop_local.new.graph) (one_if b)) (sym c.if-needed.true ∙ c.is_dropped-needed.ensures)
    (idles-drop source (shape g.I.Interner.projections c.args.graph.now) (shape g.I.Interner.projections c.drop_local.new.graph) (whole_place c.args.marked.local) h.0 None (ExprId c.args.at) c.requires.sound c.requires.opened h.1 h.2))
    c.drop_local.ensures

pub returns-else-needed : goal.returns-else-needed
returns-else-needed g c =
    let source = source_of c.args.context.now in
    subst (λ (b : Bool). Idles source (shape g.I.Interner.projections c.args.graph.now) (shape g.I.Interner.projections c.args.graph.now) (one_if b)) (sym c.if-needed.false ∙ c.is_dropped-needed.ensures)
    (idles-refl source (shape g.I.Interner.projections c.args.graph.now) c.requires.sound c.requires.opened)
