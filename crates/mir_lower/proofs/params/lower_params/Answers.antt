-- One parameter after another is marked, behind `self`.
use Rattle.std.proofs.Common.{◌≡◌, ◌+◌, Some, sym, subst, take, get_or}
use Rattle.std.specs.Prelude.{List, slice_get}
use Rattle.mir.specs.declared.ids.LocalId.{LocalId}
use Rattle.types.specs.declared.ids.PatId.{PatId}
use Rattle.body_forms.specs.Contexts.{source_of}
use Rattle.mir_graph.specs.Graph.{shape}
use Rattle.mir_lower.specs.Refusals.{RefusesParameters}
use Rattle.mir_lower.proofs.Parameters.{MarksNames, names-none, names-next, param-there, marked-sound, parameters-lowered, refuses-parameter}
use Rattle.mir_lower.proofs.Refused.{refused-exit}
use Rattle.mir_lower.proofs.params.lower_params.Goals as goal

pub loop-pat-init : goal.loop-pat-init
loop-pat-init g c = names-none (source_of c.args.context.now) (shape g.I.Interner.projections c.args.graph.now) (shape g.I.Interner.projections c.lower_self.new.graph) c.in_ok-locals.locals c.in_ok-locals.ensures.lowered

pub lower_param-requires : goal.lower_param-requires
lower_param-requires g c =
    marked-sound (source_of c.args.context.now) (shape g.I.Interner.projections c.args.graph.now) (shape g.I.Interner.projections c.loop-pat.graph) _ c.loop-pat.locals c.requires c.loop-pat.invariant.marks

pub returns-in_err-local-clause-refused : goal.returns-in_err-local-clause-refused
returns-in_err-local-clause-refused g c =
    let source = source_of c.args.context.now in
    let pats = c.as_slice-params.result.now in
    let i = c.loop-pat.pat-index in
    let pat : PatId = get_or pats i (record { 0 = 0 }) in
    let there : slice_get source.body.params i ≡ Some pat =
    subst (λ (list : List PatId). slice_get list i ≡ Some pat) c.as_slice-params.ensures (param-there pats i (record { 0 = 0 }) c.loop-pat-test.true) in
    refused-exit (RefusesParameters source) _ c.from_residual-in_err-local.result c.from_residual-in_err-local.ensures.1
    (λ error same. subst (RefusesParameters source) (sym same) (refuses-parameter source i pat _ there c.in_err-local.ensures.refused))

pub loop-pat-preserved : goal.loop-pat-preserved
loop-pat-preserved g c =
    let source = source_of c.args.context.now in
    let pats = c.as_slice-params.result.now in
    let at = c.loop-pat in
    let pat : PatId = get_or pats at.pat-index (record { 0 = 0 }) in
    let named = c.in_ok-local.ensures.lowered in
    subst (λ (locals : List LocalId). MarksNames source (shape g.I.Interner.projections c.args.graph.now) (shape g.I.Interner.projections c.lower_param.new.graph) (take (at.pat-index + 1) pats) locals) (sym c.in_ok-push.ensures.ok)
    (names-next source (shape g.I.Interner.projections c.args.graph.now) (shape g.I.Interner.projections at.graph) (shape g.I.Interner.projections c.lower_param.new.graph) pats at.locals at.pat-index pat named.0 c.in_ok-local.local at.invariant
    (param-there pats at.pat-index (record { 0 = 0 }) c.loop-pat-test.true) named.1 named.2 named.3)

pub returns-clause-lowered : goal.returns-clause-lowered
returns-clause-lowered g c =
    let source = source_of c.args.context.now in
    let at = c.loop-pat in
    parameters-lowered source (shape g.I.Interner.projections c.args.graph.now) (shape g.I.Interner.projections at.graph) at.locals c.as_slice-params.result.now at.pat-index c.as_slice-params.ensures c.loop-pat-test.false at.invariant
