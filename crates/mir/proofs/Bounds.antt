-- A place that is out of bounds lies nowhere.
use Rattle.std.proofs.Common.{◌≡◌, ℕ, Bool, true, false, ◌||◌, List, [], ◌∷◌, Option, Some, None, option_and_then, slice_get, refl, arith}
use Rattle.std.specs.Prelude.{◌*◌, nat_lt, nat_le, if◌then◌else◌, option_map}
use Rattle.std.proofs.lemmas.Bool.Decides.{nat_tests}
use Rattle.std.proofs.lemmas.Option.{option_and_then_some}
use Rattle.types.specs.declared.ty.Ty.{Ty}
use Rattle.world.specs.declared.database.HirDatabase.{HirDatabase}
use Rattle.world.specs.Lookups.{layout_of}
use Rattle.mir.specs.declared.address.Interval.{Interval}
use Rattle.mir.specs.declared.body.MirBody.{MirBody}
use Rattle.mir.specs.declared.ids.LocalId.{LocalId}
use Rattle.mir.specs.declared.operand.Place.{Place}
use Rattle.mir.specs.declared.projection.ProjectionElem.TheVariants.{Index}
use Rattle.mir.specs.Elements.{PlaceElem}
use Rattle.mir.specs.Places.{added, cell_at, cell_behind, elem_offset, elem_past, elem_type, element_offset, element_size, elements_of, is_out_of_bounds, is_past, leads_past, local_type, offset_behind, part_of_cell, past_at, place_cell, type_behind}
use Rattle.mir.specs.ProjectedTypes.{array_length}
use Rattle.mir.specs.Projections.{Projection}

-- an index below a length isn't past it
below-length : (length index : ℕ) → nat_lt index length ≡ true → nat_le length index ≡ false
below-length length index less = grind (arith, nat_tests)

some-below : (length size index : ℕ) (offset : ℕ) (test : Bool) → nat_lt index length ≡ test → (if test then Some (index * size) else None) ≡ Some offset → nat_le length index ≡ false
some-below length size index offset true less is = below-length length index less
some-below length size index offset false less is = absurd cc

index-within : (length size index : Option ℕ) (offset : ℕ) → element_offset length size index ≡ Some offset → is_past length index ≡ false
index-within (Some length) (Some size) (Some index) offset is = some-below length size index offset (nat_lt index length) refl is
index-within (Some length) (Some size) None offset is = refl
index-within (Some length) None (Some index) offset is = absurd cc
index-within (Some length) None None offset is = refl
index-within None size index offset is = refl

either-false : (one other : Bool) → one ≡ false → other ≡ false → (one || other) ≡ false
either-false false other first second = second
either-false true other first second = absurd cc

module _ (world : HirDatabase) (numbers : LocalId → Option ℕ) where
  -- what an element leads to begins somewhere, so it is no index past an array's end
  elem-within : (elem : PlaceElem) (ty : Option Ty) (offset : ℕ) → option_and_then (elem_offset world numbers elem) ty ≡ Some offset → elem_past numbers elem ty ≡ false
  elem-within (Index local) (Some ty) offset is = index-within (array_length ty) (element_size world ty) (numbers local) offset is
  elem-within _ ty offset is = refl

  -- and so it is for elements one after another
  pub offset-within : (elems : Projection) (ty : Option Ty) (offset : ℕ) → offset_behind world numbers elems ty ≡ Some offset → leads_past world numbers elems ty ≡ false
  unfolding offset_behind leads_past
  offset-within [] ty offset is = refl
  offset-within (elem ∷ rest) ty offset is =
      by (option_and_then (elem_offset world numbers elem) ty) refl (offset_behind world numbers rest next) (λ more there. offset-within rest next more there) is where
        next : Option Ty
        next = option_and_then (elem_type world elem) ty

        by : (first : Option ℕ) → option_and_then (elem_offset world numbers elem) ty ≡ first → (behind : Option ℕ) → ((more : ℕ) → behind ≡ Some more → leads_past world numbers rest (option_and_then (elem_type world elem) ty) ≡ false) → added first behind ≡ Some offset → (elem_past numbers elem ty || leads_past world numbers rest (option_and_then (elem_type world elem) ty)) ≡ false
        by (Some one) first (Some more) others same = either-false (elem_past numbers elem ty) (leads_past world numbers rest (option_and_then (elem_type world elem) ty)) (elem-within elem ty one first) (others more refl)
        by (Some one) first None others same = absurd cc
        by None first behind others same = absurd cc

  -- a place that lies somewhere isn't out of bounds
  pub cell-within : (body : MirBody) (cells : List Interval) (place : Place) (cell : Interval) → place_cell world body numbers cells place ≡ Some cell → is_out_of_bounds world body numbers place ≡ false
  unfolding place_cell is_out_of_bounds cell_behind leads_past
  cell-within body cells place cell is = by (elements_of body place) is where
    behind : (elem : PlaceElem) (rest : Projection) (ty : Option Ty) (whole : Interval) → cell_behind world numbers (elem ∷ rest) ty whole ≡ Some cell → leads_past world numbers (elem ∷ rest) ty ≡ false
    behind elem rest ty whole found =
        option_and_then_some (λ offset. option_and_then (part_of_cell whole offset) (option_map (λ layout. layout.size) (option_and_then (layout_of world) (type_behind world (elem ∷ rest) ty))))
        (offset_behind world numbers (elem ∷ rest) ty) cell found
        (λ offset at part. offset-within (elem ∷ rest) ty offset at)

    by : (elements : Option Projection) → cell_at world body numbers cells place elements ≡ Some cell → past_at world body numbers place elements ≡ false
    by None found = refl
    by (Some []) found = refl
    by (Some (elem ∷ rest)) found =
        option_and_then_some (cell_behind world numbers (elem ∷ rest) (local_type body place.local)) (slice_get cells place.local.0) cell found
        (λ whole there found. behind elem rest (local_type body place.local) whole found)
