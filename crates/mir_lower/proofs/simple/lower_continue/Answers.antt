-- A jump to the block where its target begins.
use Rattle.std.proofs.Common.{sym, ◌∙◌, subst}
use Rattle.body_forms.specs.Contexts.{source_of}
use Rattle.mir_graph.specs.Graph.{shape, target_of_blocks}
use Rattle.mir_lower.specs.Refusals.{RefusesAt}
use Rattle.mir_lower.proofs.Building.{built-continue, has-target}
use Rattle.mir_lower.proofs.Jumping.{lowers-continue}
use Rattle.mir_lower.proofs.Refused.{refuses-no-memory, refuses-continue, refused-exit}
use Rattle.mir_lower.proofs.simple.lower_continue.Goals as goal

pub returns-in_err-blocks-clause-refused : goal.returns-in_err-blocks-clause-refused
returns-in_err-blocks-clause-refused g c =
    let source = source_of c.args.context.now in
    refused-exit (RefusesAt source c.args.e.0) _ c.from_residual.result c.from_residual.ensures.1
    (λ error same. subst (RefusesAt source c.args.e.0) (sym (same ∙ c.in_err-blocks.ensures.refused)) (refuses-continue source (shape g.I.Interner.projections c.args.graph.now) c.args.e.0 c.args.label c.requires.ready c.requires.form c.in_err-blocks.ensures.missing))

pub returns-in_err-jump-clause-refused : goal.returns-in_err-jump-clause-refused
returns-in_err-jump-clause-refused g c =
    refused-exit (RefusesAt (source_of c.args.context.now) c.args.e.0) _ c.from_residual-in_err-jump.result c.from_residual-in_err-jump.ensures.1 (refuses-no-memory (source_of c.args.context.now) c.args.e.0)

pub returns-clause-built : goal.returns-clause-built
returns-clause-built g c =
    let source = source_of c.args.context.now in
    built-continue source c.args.e.0 c.args.label c.requires.form
    (has-target source (shape g.I.Interner.projections c.args.graph.now) c.args.e.0 c.args.label (target_of_blocks c.in_ok-blocks.blocks) c.requires.ready.around c.in_ok-blocks.ensures.found)

pub returns-clause-lowered : goal.returns-clause-lowered
returns-clause-lowered g c =
    λ cell.
    let source = source_of c.args.context.now in
    let s0 = shape g.I.Interner.projections c.args.graph.now in
    lowers-continue source s0 (shape g.I.Interner.projections c.jump.new.graph) c.args.e.0 c.args.label (target_of_blocks c.in_ok-blocks.blocks) c.requires.form c.requires.ready c.in_ok-blocks.ensures.found c.in_ok-jump.ensures cell
