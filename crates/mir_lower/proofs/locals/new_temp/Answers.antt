-- The local that the expression has, or is given, is marked, and its storage begins.
use Rattle.std.proofs.Common.{Some, sym, ap, ◌∙◌}
use Rattle.mir.specs.declared.span.MirSpan.TheVariants.{ExprId}
use Rattle.source_meaning.specs.Source.{Node}
use Rattle.body_forms.specs.Contexts.{source_of}
use Rattle.mir_graph.specs.Graph.{shape, with_temp}
use Rattle.mir_lower.proofs.Given.{ForValue}
use Rattle.mir_lower.proofs.InUse.{marks-local, given-marked}
use Rattle.mir_lower.proofs.locals.new_temp.Goals as goal

pub push_statement-requires : goal.push_statement-requires
unfolding with_temp
push_statement-requires g c =
    (marks-local ForValue (source_of c.args.context.now) (shape g.I.Interner.projections c.args.graph.now) c.args.e.0 c.in_ok-ty.ty c.requires.ready.ready.sound c.requires.ready.ready.«open» c.requires.ready.ready.within (c.requires.ready.ready.reached, c.requires.form, c.requires.ready.below) (c.node_ty.ensures ∙ ap Some (sym c.in_ok-ty.ensures)) (shape g.I.Interner.projections c.temp_for.new.self) c.in_ok-local.local.0 c.in_ok-local.ensures.old c.in_ok-local.ensures.new).«open».there

pub returns-clause-given : goal.returns-clause-given
unfolding with_temp
returns-clause-given g c =
    given-marked (source_of c.args.context.now) (shape g.I.Interner.projections c.args.graph.now) (shape g.I.Interner.projections c.temp_for.new.self) (shape g.I.Interner.projections c.push_statement.new.self) (Node c.args.e.0) c.in_ok-local.local (ExprId c.args.e)
    (marks-local ForValue (source_of c.args.context.now) (shape g.I.Interner.projections c.args.graph.now) c.args.e.0 c.in_ok-ty.ty c.requires.ready.ready.sound c.requires.ready.ready.«open» c.requires.ready.ready.within (c.requires.ready.ready.reached, c.requires.form, c.requires.ready.below) (c.node_ty.ensures ∙ ap Some (sym c.in_ok-ty.ensures)) (shape g.I.Interner.projections c.temp_for.new.self) c.in_ok-local.local.0 c.in_ok-local.ensures.old c.in_ok-local.ensures.new)
    c.in_ok-push_statement.ensures
