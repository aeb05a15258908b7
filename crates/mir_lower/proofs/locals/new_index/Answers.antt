-- The local that the index has, or is given, is marked, and its storage begins.
use Rattle.std.proofs.Common.{Some, sym, ap, ◌∙◌, arith}
use Rattle.mir.specs.declared.span.MirSpan.TheVariants.{ExprId}
use Rattle.source_meaning.specs.Source.{IndexOf}
use Rattle.source_meaning.proofs.Depth.{evaluated_is_no_later}
use Rattle.body_forms.specs.Contexts.{source_of}
use Rattle.mir_graph.specs.Graph.{shape, with_index}
use Rattle.mir_lower.proofs.Given.{ForIndex, index-cell}
use Rattle.mir_lower.proofs.InUse.{marks-local, given-marked}
use Rattle.mir_lower.proofs.locals.new_index.Goals as goal

pub node_ty-requires-clause-within : goal.node_ty-requires-clause-within
node_ty-requires-clause-within g c =
    let no-later = evaluated_is_no_later (source_of c.args.context.now) c.requires.checked c.requires.index.evaluated in
    let inside = c.requires.checked.root in
    omega arith

pub push_statement-requires : goal.push_statement-requires
unfolding with_index
push_statement-requires g c =
    (marks-local ForIndex (source_of c.args.context.now) (shape g.I.Interner.projections c.args.graph.now) c.args.e.0 c.in_ok-ty.ty c.requires.sound c.requires.opened c.requires.index.within (c.args.index.0, c.requires.index) (index-cell (source_of c.args.context.now) c.args.e.0 c.args.index.0 c.requires.index ∙ c.node_ty.ensures ∙ ap Some (sym c.in_ok-ty.ensures)) (shape g.I.Interner.projections c.index_for.new.self) c.in_ok-local.local.0 c.in_ok-local.ensures.old c.in_ok-local.ensures.new).«open».there

pub returns-clause-given : goal.returns-clause-given
unfolding with_index
returns-clause-given g c =
    given-marked (source_of c.args.context.now) (shape g.I.Interner.projections c.args.graph.now) (shape g.I.Interner.projections c.index_for.new.self) (shape g.I.Interner.projections c.push_statement.new.self) (IndexOf c.args.e.0) c.in_ok-local.local (ExprId c.args.e)
    (marks-local ForIndex (source_of c.args.context.now) (shape g.I.Interner.projections c.args.graph.now) c.args.e.0 c.in_ok-ty.ty c.requires.sound c.requires.opened c.requires.index.within (c.args.index.0, c.requires.index) (index-cell (source_of c.args.context.now) c.args.e.0 c.args.index.0 c.requires.index ∙ c.node_ty.ensures ∙ ap Some (sym c.in_ok-ty.ensures)) (shape g.I.Interner.projections c.index_for.new.self) c.in_ok-local.local.0 c.in_ok-local.ensures.old c.in_ok-local.ensures.new)
    c.in_ok-push_statement.ensures
