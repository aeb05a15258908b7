-- Ways to elements of arrays: how far a few indices lead, by the numbers that their locals hold.
use Rattle.std.specs.Prelude.{◌≡◌, ℕ, ◌||◌, Bool, false, Option, Some, None}
use Rattle.types.specs.declared.ty.Ty.{Ty}
use Rattle.world.specs.declared.database.HirDatabase.{HirDatabase}
use Rattle.mir.specs.declared.ids.LocalId.{LocalId}
use Rattle.mir.specs.Elements.{PlaceElem}
use Rattle.mir.specs.Places.{added, elem_offset, elem_past, element_offset, element_size, is_past, leads_past, offset_behind}
use Rattle.mir.specs.ProjectedTypes.{array_length}
use Rattle.mir.specs.Projections.{Projection}
use Rattle.mir_rows.specs.declared.steps.Reach.{Reach}
use Rattle.mir_rows.specs.declared.steps.Step.{Step}

-- where the element that a step leads to begins in its array; `numbers` gives the number that a local holds
abbrev pub step_offset : (numbers : LocalId → Option ℕ) → Step → Option ℕ
step_offset numbers step = element_offset (Some step.length) (Some step.stride) (numbers step.index)

-- whether a step leads past the end of its array
abbrev pub step_past : (numbers : LocalId → Option ℕ) → Step → Bool
step_past numbers step = is_past (Some step.length) (numbers step.index)

-- a step is the one that an index takes into an array of a type
pub record IsStep (world : HirDatabase) (index : LocalId) (ty : Ty) (step : Step) : Type 0 where
  pub by : step.index ≡ index
  pub length : array_length ty ≡ Some step.length
  pub stride : element_size world ty ≡ Some step.stride

-- the same of a step that there may be: none leads nowhere else
abbrev pub maybe_offset : (numbers : LocalId → Option ℕ) → Option Step → Option ℕ
maybe_offset numbers (Some step) = step_offset numbers step
maybe_offset numbers None = Some 0

abbrev pub maybe_past : (numbers : LocalId → Option ℕ) → Option Step → Bool
maybe_past numbers (Some step) = step_past numbers step
maybe_past numbers None = false

-- how far elements lead of which so many bytes and at most two steps are known
abbrev pub reach_offset : (numbers : LocalId → Option ℕ) → Reach → Option ℕ
reach_offset numbers reach = added (Some reach.offset) (added (maybe_offset numbers reach.first) (maybe_offset numbers reach.second))

-- whether one of the steps leads past the end of its array
abbrev pub reach_past : (numbers : LocalId → Option ℕ) → Reach → Bool
reach_past numbers reach = maybe_past numbers reach.first || maybe_past numbers reach.second

-- a reach leads as far as another one and then an element from a value of a type
pub record StepsOn (world : HirDatabase) (elem : PlaceElem) (ty : Ty) (reach more : Reach) : Type 0 where
  pub offset : (numbers : LocalId → Option ℕ) → added (reach_offset numbers reach) (elem_offset world numbers elem ty) ≡ reach_offset numbers more
  pub past : (numbers : LocalId → Option ℕ) → (reach_past numbers reach || elem_past numbers elem (Some ty)) ≡ reach_past numbers more

-- what leads so far, unless it is past the end of an array, leads to a start
pub record StartsAt (offset : Option ℕ) (past : Bool) (start : ℕ) : Type 0 where
  pub there : offset ≡ Some start
  pub within : past ≡ false

-- elements lead from a value of a type as far as a reach says, whatever numbers locals hold
pub record Reaches (world : HirDatabase) (elements : Projection) (ty : Option Ty) (reach : Reach) : Type 0 where
  pub offset : (numbers : LocalId → Option ℕ) → offset_behind world numbers elements ty ≡ reach_offset numbers reach
  pub past : (numbers : LocalId → Option ℕ) → leads_past world numbers elements ty ≡ reach_past numbers reach
