-- The name's local has its `StorageLive`, and the place is copied to it.
use Rattle.std.proofs.Common.{sym, refl}
use Rattle.std.proofs.lemmas.Result.{on_ok_weaker}
use Rattle.mir.specs.declared.span.MirSpan.TheVariants.{PatId}
use Rattle.body_forms.specs.Contexts.{source_of}
use Rattle.mir_graph.specs.Graph.{shape}
use Rattle.mir_lower.proofs.Building.{has-binding}
use Rattle.mir_lower.proofs.InUse.{lacks-binding}
use Rattle.mir_lower.proofs.Blocks.{binds-name}
use Rattle.mir_lower.proofs.locals.bind.Goals as goal

pub returns-in_default-binding_local-clause-refused :
    goal.returns-in_default-binding_local-clause-refused
returns-in_default-binding_local-clause-refused g c =
    let source = source_of c.args.context.now in
    (c.in-Some.binding, sym c.in-Some.ensures, lacks-binding source (shape g.I.Interner.projections c.args.graph.now) _ c.binding_local.result c.requires.sound c.binding_local.ensures c.in_default-binding_local.is)

pub returns-clause-built : goal.returns-clause-built
returns-clause-built g c =
    on_ok_weaker c.assign.result
    (λ added. record {
      binding = c.in-Some.binding;
      bound = sym c.in-Some.ensures;
      there = has-binding (source_of c.args.context.now) (shape g.I.Interner.projections c.args.graph.now) c.in-Some.binding c.binding_local.result c.in-Some-binding_local.local c.requires.sound c.binding_local.ensures c.in-Some-binding_local.is;
    })
    c.assign.ensures.added

pub returns-clause-lowered : goal.returns-clause-lowered
returns-clause-lowered g c =
    let source = source_of c.args.context.now in
    on_ok_weaker c.assign.result
    (λ added cell found. binds-name source (shape g.I.Interner.projections c.args.graph.now) (shape g.I.Interner.projections c.storage_live.new.graph) (shape g.I.Interner.projections c.assign.new.graph) c.args.pat _ c.in-Some-binding_local.local c.args.from _ (PatId c.args.pat) (sym c.in-Some.ensures) c.in_ok-storage_live.ensures.given refl added cell found)
    c.assign.ensures.added
