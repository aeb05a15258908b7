-- The binding of `self` may not be one of the body's.
use Rattle.std.proofs.Common.{sym, subst}
use Rattle.body_forms.specs.Contexts.{source_of}
use Rattle.mir_graph.specs.Graph.{shape}
use Rattle.mir_lower.specs.Refusals.{RefusesParameters}
use Rattle.mir_lower.proofs.Parameters.{refuses-self}
use Rattle.mir_lower.proofs.Refused.{refused-exit}
use Rattle.mir_lower.proofs.params.lower_self.Goals as goal

pub returns-in_err-local-clause-refused : goal.returns-in_err-local-clause-refused
returns-in_err-local-clause-refused g c =
    let source = source_of c.args.context.now in
    refused-exit (RefusesParameters source) _ c.from_residual.result c.from_residual.ensures.1
    (λ error same. subst (RefusesParameters source) (sym same) (refuses-self source (shape g.I.Interner.projections c.args.graph.now) c.in-Some.binding _ c.requires c.in-Some.is c.in_err-local.ensures.refused))
