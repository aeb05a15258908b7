use Rattle.std.proofs.Common.{◌≡◌, ◌∙◌, Some, subst}
use Rattle.std.specs.Prelude.{IfNone, IfSome}
use Rattle.mir.specs.Projections.{HasNoId, Interned, projection_of}
use Rattle.mir.proofs.Interning.{found_if_there, missing_if_none}
use Rattle.mir.proofs.projection_store.ProjectionStore.intern_if_exist.Goals as goal

pub returns-clause-some : goal.returns-clause-some
returns-clause-some c =
    subst (λ (v : Interned). IfSome c.copied.result (λ id. projection_of v.projections id ≡ Some c.args.projection.now)) c.self.view_is
    (found_if_there c.self.inside.projections.items c.self.inside.ids.entries c.args.projection.now c.copied.result c.self.invariant (c.copied.ensures ∙ c.get.ensures.value))

pub returns-clause-none : goal.returns-clause-none
returns-clause-none c =
    subst (λ (v : Interned). IfNone c.copied.result (HasNoId v.projections c.args.projection.now)) c.self.view_is
    (missing_if_none c.self.inside.projections.items c.self.inside.ids.entries c.args.projection.now c.copied.result c.self.invariant (c.copied.ensures ∙ c.get.ensures.value))
