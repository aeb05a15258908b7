-- The target names a binding, which has a local or isn't one of the body's.
use Rattle.body_forms.specs.Contexts.{source_of}
use Rattle.mir_graph.specs.Graph.{shape}
use Rattle.mir_lower.proofs.Compounds.{names-combined}
use Rattle.mir_lower.proofs.Building.{has-binding}
use Rattle.mir_lower.proofs.InUse.{lacks-binding}
use Rattle.mir_lower.proofs.locals.combined_local.Goals as goal

pub returns-in-Some-binding_local-clause-built : goal.returns-in-Some-binding_local-clause-built
returns-in-Some-binding_local-clause-built g c =
    let source = source_of c.args.context.now in
    record {
      binding = c.in-Some-binding_named.binding;
      names = names-combined source c.args.e.0 c.in-Some.name.now c.in-Some-get.named.now c.in-Some-binding_named.binding c.in-Some.ensures c.in-Some-get.ensures c.in-Some-binding_named.ensures.some;
      there = has-binding source (shape g.I.Interner.projections c.args.graph.now) c.in-Some-binding_named.binding c.binding_local.result c.in-Some-binding_local.local c.requires c.binding_local.ensures c.in-Some-binding_local.is;
    }

pub returns-in-None-binding_local-clause-refused : goal.returns-in-None-binding_local-clause-refused
returns-in-None-binding_local-clause-refused g c =
    let source = source_of c.args.context.now in (
      c.in-Some-binding_named.binding,
      names-combined source c.args.e.0 c.in-Some.name.now c.in-Some-get.named.now c.in-Some-binding_named.binding c.in-Some.ensures c.in-Some-get.ensures c.in-Some-binding_named.ensures.some,
      lacks-binding source (shape g.I.Interner.projections c.args.graph.now) _ c.binding_local.result c.requires c.binding_local.ensures c.in-None-binding_local.is,
    )
