use Rattle.std.proofs.Common.{◌∙◌, ap}
use Rattle.mir.specs.ProjectionCodes.{same_interned}
use Rattle.mir.specs.Projections.{Interned}
use Rattle.mir.proofs.projection_store.ProjectionStore.shrink_to_fit.Goals as goal

pub returns : goal.returns
returns c = same_interned _ _ (c.shrink_to_fit.ensures.items ∙ ap (λ (v : Interned). v.projections) c.self.view_is)
