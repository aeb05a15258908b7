-- Where the values of places lie in the cells of locals, whatever these cells are.
use Rattle.std.specs.Prelude.{◌≡◌, ℕ, Bool, false, List, Option, Some, option_and_then, slice_get}
use Rattle.types.specs.declared.ty.Ty.{Ty}
use Rattle.world.specs.declared.database.HirDatabase.{HirDatabase}
use Rattle.mir.specs.declared.address.Interval.{Interval}
use Rattle.mir.specs.declared.body.MirBody.{MirBody}
use Rattle.mir.specs.declared.ids.LocalId.{LocalId}
use Rattle.mir.specs.declared.operand.OperandKind.{OperandKind}
use Rattle.mir.specs.declared.operand.OperandKind.TheVariants as operand
use Rattle.mir.specs.declared.operand.Place.{Place}
use Rattle.mir.specs.Places.{is_out_of_bounds, leads_past, offset_behind, part_of_cell, place_cell}
use Rattle.mir.specs.Projections.{Projection}
use Rattle.mir_rows.specs.declared.spots.Spot.{Spot}
use Rattle.mir_rows.specs.declared.spots.Spot.TheVariants as spot
use Rattle.mir_rows.specs.Steps.{reach_offset, reach_past}

-- a body, and the world whose layouts its places go by
pub record Prepared : Type 0 where
  pub world : HirDatabase
  pub body : MirBody

abbrev pub prepared : HirDatabase → MirBody → Prepared
prepared world body = record { world = world; body = body }

-- where a spot lies, by the cells of the locals and by the numbers that these hold
abbrev pub spot_cell : (numbers : LocalId → Option ℕ) → (cells : List Interval) → Spot → Option Interval
spot_cell numbers cells (spot.Whole local) = slice_get cells local.0
spot_cell numbers cells (spot.Part local offset size) = option_and_then (λ cell. part_of_cell cell offset size) (slice_get cells local.0)
spot_cell numbers cells (spot.Indexed element) =
    option_and_then (λ cell. option_and_then (λ offset. part_of_cell cell offset element.size) (reach_offset numbers element.reach)) (slice_get cells element.local.0)

-- whether a spot is out of bounds, by the numbers that locals hold
abbrev pub spot_past : (numbers : LocalId → Option ℕ) → Spot → Bool
spot_past numbers (spot.Indexed element) = reach_past numbers element.reach
spot_past numbers _ = false

-- a spot is where the value of a place lies, and out of bounds just where the place is, whatever the cells of the locals are, and whatever they hold
pub record IsSpot (code : Prepared) (place : Place) (spot : Spot) : Type 0 where
  pub lies : (numbers : LocalId → Option ℕ) (cells : List Interval) → place_cell code.world code.body numbers cells place ≡ spot_cell numbers cells spot
  pub past : (numbers : LocalId → Option ℕ) → is_out_of_bounds code.world code.body numbers place ≡ spot_past numbers spot

-- a spot is within bounds and lies here, by the cells of the locals and by the numbers that these hold
pub record LiesNow (numbers : LocalId → Option ℕ) (cells : List Interval) (spot : Spot) (cell : Interval) : Type 0 where
  pub there : spot_cell numbers cells spot ≡ Some cell
  pub within : spot_past numbers spot ≡ false

-- elements lead to a spot of a size from a local of a type, whatever the cells of the locals are, and whatever they hold
pub record IsBehind (world : HirDatabase) (local : LocalId) (elements : Projection) (ty : Option Ty) (size : ℕ) (spot : Spot) : Type 0 where
  pub lies : (numbers : LocalId → Option ℕ) (cells : List Interval) →
      option_and_then (λ cell. option_and_then (λ offset. part_of_cell cell offset size) (offset_behind world numbers elements ty)) (slice_get cells local.0) ≡ spot_cell numbers cells spot
  pub past : (numbers : LocalId → Option ℕ) → leads_past world numbers elements ty ≡ spot_past numbers spot

-- the value of an operand lies at a spot
abbrev pub LiesAt : Prepared → Spot → OperandKind → Type 0
LiesAt code spot (operand.Copy place) = IsSpot code place spot
LiesAt code spot (operand.Constant konst ty) = ⊥
