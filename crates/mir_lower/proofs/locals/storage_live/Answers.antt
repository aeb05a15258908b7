-- The binding's local is marked, and its storage begins.
use Rattle.std.proofs.Common.{subst, sym}
use Rattle.mir.specs.declared.span.MirSpan.TheVariants.{BindingId}
use Rattle.source_meaning.specs.Source.{Binding}
use Rattle.body_forms.specs.Contexts.{source_of}
use Rattle.mir_graph.specs.Graph.{Shape, shape}
use Rattle.mir_lower.proofs.InUse.{IsMarked, marks-cell, given-marked}
use Rattle.mir_lower.proofs.locals.storage_live.Goals as goal

pub returns-clause-given : goal.returns-clause-given
returns-clause-given g c =
    let source = source_of c.args.context.now in
    given-marked source (shape g.I.Interner.projections c.args.graph.now) (shape g.I.Interner.projections c.mark.new.self) (shape g.I.Interner.projections c.push_statement.new.self) (Binding c.args.binding.0) c.args.local (BindingId c.args.binding)
    (subst (λ (s : Shape). IsMarked source (shape g.I.Interner.projections c.args.graph.now) s (Binding c.args.binding.0) c.args.local.0) (sym c.in_ok-mark.ensures.marked)
    (marks-cell source (shape g.I.Interner.projections c.args.graph.now) (Binding c.args.binding.0) c.args.local.0 c.requires.sound c.requires.opened c.requires.found))
    c.in_ok-push_statement.ensures
