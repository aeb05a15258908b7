-- A place with the empty projection is the whole local.
use Rattle.std.proofs.Common.{◌≡◌, ℕ, false, List, [], Option, Some, slice_get, ap}
use Rattle.std.specs.Prelude.{◌==◌, if◌then◌else◌}
use Rattle.world.specs.declared.database.HirDatabase.{HirDatabase}
use Rattle.mir.specs.declared.address.Interval.{Interval}
use Rattle.mir.specs.declared.body.MirBody.{MirBody}
use Rattle.mir.specs.declared.ids.LocalId.{LocalId}
use Rattle.mir.specs.declared.operand.Place.{Place}
use Rattle.mir.specs.declared.projection.ProjectionId.{ProjectionId}
use Rattle.mir.specs.Places.{cell_at, is_out_of_bounds, leads_past, local_type, past_at, place_cell, place_type, type_at, type_behind}
use Rattle.mir.specs.Projections.{Projection, empty_id, projection_of}

-- the elements of a projection, by its id
abbrev elements_by : MirBody → ProjectionId → Option Projection
elements_by body id = if id.0 == 0 then Some [] else projection_of body.projection_store.projections id

-- its value lies in the local's cell
pub whole-cell : (world : HirDatabase) (body : MirBody) (numbers : LocalId → Option ℕ) (cells : List Interval) (place : Place) → place.projection ≡ empty_id → place_cell world body numbers cells place ≡ slice_get cells place.local.0
unfolding place_cell
whole-cell world body numbers cells place is = ap (λ (id : ProjectionId). cell_at world body numbers cells place (elements_by body id)) is

-- it isn't out of bounds
pub whole-within : (world : HirDatabase) (body : MirBody) (numbers : LocalId → Option ℕ) (place : Place) → place.projection ≡ empty_id → is_out_of_bounds world body numbers place ≡ false
unfolding is_out_of_bounds leads_past
whole-within world body numbers place is = ap (λ (id : ProjectionId). past_at world body numbers place (elements_by body id)) is

-- its type is the local's
pub whole-type : (world : HirDatabase) (body : MirBody) (place : Place) → place.projection ≡ empty_id → place_type world body place ≡ local_type body place.local
unfolding place_type type_behind
whole-type world body place is = ap (λ (id : ProjectionId). type_at world body place (elements_by body id)) is
