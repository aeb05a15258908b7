-- The path names a binding that the body lacks.
use Rattle.std.proofs.Common.{Some, sym, ap, ◌∙◌, subst}
use Rattle.body_forms.specs.Contexts.{source_of}
use Rattle.mir_graph.specs.Graph.{shape}
use Rattle.body_forms.specs.Refusals.{LacksLocal}
use Rattle.mir_lower.proofs.Building.{has-binding}
use Rattle.mir_lower.proofs.InUse.{lacks-binding}
use Rattle.mir_lower.proofs.locals.named_local.Goals as goal

pub returns-in-Some-binding_local-clause-built : goal.returns-in-Some-binding_local-clause-built
returns-in-Some-binding_local-clause-built g c =
    record {
      binding = c.in-Some-binding_named.binding;
      named = sym c.in-Some.ensures ∙ ap Some c.in-Some-binding_named.ensures.some;
      there = has-binding (source_of c.args.context.now) (shape g.I.Interner.projections c.args.graph.now) c.in-Some-binding_named.binding c.binding_local.result c.in-Some-binding_local.local c.requires.sound c.binding_local.ensures c.in-Some-binding_local.is;
    }

pub returns-in-None-binding_local-clause-refused : goal.returns-in-None-binding_local-clause-refused
returns-in-None-binding_local-clause-refused g c =
    let source = source_of c.args.context.now in
    subst (LacksLocal source c.args.e.0) (sym c.requires.path)
    (c.in-Some-binding_named.binding, sym c.in-Some.ensures ∙ ap Some c.in-Some-binding_named.ensures.some, lacks-binding source (shape g.I.Interner.projections c.args.graph.now) _ c.binding_local.result c.requires.sound c.binding_local.ensures c.in-None-binding_local.is)
