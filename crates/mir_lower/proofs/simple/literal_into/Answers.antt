-- The literal's constant is assigned.
use Rattle.std.proofs.Common.{sym, subst}
use Rattle.std.proofs.lemmas.Result.{on_ok_weaker, IfErr-weaker}
use Rattle.mir.specs.declared.span.MirSpan.TheVariants.{ExprId}
use Rattle.body_forms.specs.Contexts.{source_of}
use Rattle.body_forms.specs.Form.{core_value}
use Rattle.mir_graph.specs.Graph.{shape}
use Rattle.mir_lower.specs.Refusals.{RefusesAt}
use Rattle.mir_lower.proofs.Building.{built-literal}
use Rattle.mir_lower.proofs.Operations.{lowers-literal}
use Rattle.mir_lower.proofs.Refused.{refuses-here, refuses-no-memory, refused-exit}
use Rattle.mir_lower.proofs.simple.literal_into.Goals as goal

pub returns-in_err-operand-clause-refused : goal.returns-in_err-operand-clause-refused
returns-in_err-operand-clause-refused g c =
    refused-exit (RefusesAt (source_of c.args.context.now) c.args.e.0) _ c.from_residual.result c.from_residual.ensures.1
    (λ error same. subst (RefusesAt (source_of c.args.context.now) c.args.e.0) (sym same) (refuses-here (source_of c.args.context.now) c.args.e.0 _ c.in_err-operand.ensures.refused))

pub returns-clause-lowered : goal.returns-clause-lowered
returns-clause-lowered g c =
    let source = source_of c.args.context.now in
    on_ok_weaker c.assign.result
    (λ added cell local. lowers-literal source (shape g.I.Interner.projections c.args.graph.now) (shape g.I.Interner.projections c.assign.new.graph) c.args.e.0 (core_value c.args.literal) c.args.to c.in_ok-operand.operand (ExprId c.args.e) c.requires.ready c.requires.form c.in_ok-operand.ensures.lowered added cell local)
    c.assign.ensures.added

pub returns-clause-built : goal.returns-clause-built
returns-clause-built g c =
    on_ok_weaker c.assign.result (λ added. built-literal (source_of c.args.context.now) c.args.e.0 (core_value c.args.literal) c.requires.form c.in_ok-operand.ensures.built) c.assign.ensures.added

pub returns-clause-refused : goal.returns-clause-refused
returns-clause-refused g c =
    IfErr-weaker c.assign.result _ _ (λ error none. refuses-no-memory (source_of c.args.context.now) c.args.e.0 error none) c.assign.ensures.refused
