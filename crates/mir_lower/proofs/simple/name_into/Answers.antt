-- What the path names is copied.
use Rattle.std.proofs.Common.{sym, ap, ◌∙◌, subst}
use Rattle.mir.specs.declared.operand.OperandKind.TheVariants.{Copy}
use Rattle.std.proofs.lemmas.Result.{on_ok_weaker, IfErr-weaker}
use Rattle.mir.specs.declared.span.MirSpan.TheVariants.{ExprId}
use Rattle.body_forms.specs.Contexts.{source_of}
use Rattle.mir_graph.specs.Graph.{shape}
use Rattle.mir_lower.specs.Refusals.{RefusesAt}
use Rattle.mir_lower.proofs.Building.{built-path}
use Rattle.mir_lower.proofs.Operations.{lowers-named}
use Rattle.mir_lower.proofs.Refused.{refuses-here, refuses-no-memory, refused-exit}
use Rattle.mir_lower.proofs.simple.name_into.Goals as goal

pub returns-in_err-from-clause-refused : goal.returns-in_err-from-clause-refused
returns-in_err-from-clause-refused g c =
    refused-exit (RefusesAt (source_of c.args.context.now) c.args.e.0) _ c.from_residual.result c.from_residual.ensures.1
    (λ error same. subst (RefusesAt (source_of c.args.context.now) c.args.e.0) (sym same) (refuses-here (source_of c.args.context.now) c.args.e.0 _ c.in_err-from.ensures.refused))

pub returns-clause-lowered : goal.returns-clause-lowered
returns-clause-lowered g c =
    let source = source_of c.args.context.now in
    on_ok_weaker c.assign.result
    (λ added cell local. lowers-named source (shape g.I.Interner.projections c.args.graph.now) (shape g.I.Interner.projections c.assign.new.graph) c.args.e.0 c.args.name.now c.args.to c.in_ok-from.from c.copied.result (ExprId c.args.e) c.requires.ready c.requires.form c.in_ok-from.ensures.lowered (c.copied.ensures.kind ∙ ap Copy c.from.ensures) added cell local)
    c.assign.ensures.added

pub returns-clause-built : goal.returns-clause-built
returns-clause-built g c =
    on_ok_weaker c.assign.result (λ added. built-path (source_of c.args.context.now) c.args.e.0 c.args.name.now c.requires.form c.in_ok-from.ensures.built) c.assign.ensures.added

pub returns-clause-refused : goal.returns-clause-refused
returns-clause-refused g c =
    IfErr-weaker c.assign.result _ _ (λ error none. refuses-no-memory (source_of c.args.context.now) c.args.e.0 error none) c.assign.ensures.refused
