-- The spots of places: whole cells, and parts of cells.
use Rattle.std.proofs.Common.{◌≡◌, ℕ, Bool, true, false, [], ◌∷◌, length, Option, Some, None, slice_get, sym, ap, refl, ◌∙◌, arith, eqb-true}
use Rattle.std.specs.Prelude.{IfSome, if◌then◌else◌, ◌==◌, option_and_then}
use Rattle.either.specs.declared.Either.TheVariants.{Left, Right}
use Rattle.types.specs.declared.ty.Ty.{Ty}
use Rattle.world.specs.declared.database.HirDatabase.{HirDatabase}
use Rattle.world.specs.declared.layout.Layout.{Layout}
use Rattle.world.specs.Lookups.{layout_of}
use Rattle.mir.specs.declared.ids.LocalId.{LocalId}
use Rattle.mir.specs.declared.operand.Place.{Place}
use Rattle.mir.specs.declared.projection.ProjectionElem.TheVariants.{Field, Index}
use Rattle.mir.specs.Elements.{PlaceElem}
use Rattle.mir.specs.Places.{added, cell_at, cell_behind, elem_offset, elem_type, element_offset, element_size, elements_of, is_out_of_bounds, leads_past, local_type, offset_behind, part_of_cell, past_at, place_cell, type_behind}
use Rattle.mir.specs.ProjectedTypes.{array_length}
use Rattle.mir.specs.Projections.{Projection, projection_of}
use Rattle.mir.proofs.Bounds.{offset-within}
use Rattle.mir_rows.specs.declared.spots.Spot.{Spot}
use Rattle.mir_rows.specs.declared.spots.Spot.TheVariants as spot
use Rattle.mir_rows.specs.declared.steps.Reach.{Reach}
use Rattle.mir_rows.specs.Spots.{IsBehind, IsSpot, Prepared}
use Rattle.mir_rows.specs.Steps.{Reaches}
use Rattle.mir_rows.proofs.Walks.{laid-all}

-- what is found by two functions that are the same at each place
and-then-same : {A B : Type 0} (f g : A → Option B) → ((x : A) → f x ≡ g x) → (found : Option A) → option_and_then f found ≡ option_and_then g found
and-then-same f g same None = refl
and-then-same f g same (Some x) = same x

-- where no local holds a number
abbrev pub no-numbers : LocalId → Option ℕ
no-numbers local = None

no-index : (length size : Option ℕ) (offset : ℕ) → element_offset length size None ≡ Some offset → ⊥
no-index (Some length) (Some size) offset is = absurd cc
no-index (Some length) None offset is = absurd cc
no-index None size offset is = absurd cc

-- what is found without numbers is no index, so it is found with all numbers
any-elem : (world : HirDatabase) (numbers : LocalId → Option ℕ) (elem : PlaceElem) (ty : Option Ty) (offset : ℕ) → option_and_then (elem_offset world no-numbers elem) ty ≡ Some offset → option_and_then (elem_offset world numbers elem) ty ≡ Some offset
any-elem world numbers (Index local) (Some ty) offset is = absurd (no-index (array_length ty) (element_size world ty) offset is)
any-elem world numbers (Index local) None offset is = absurd cc
any-elem world numbers (Field (Left field)) ty offset is = is
any-elem world numbers (Field (Right field)) ty offset is = is
any-elem world numbers _ ty offset is = is

any-offset : (world : HirDatabase) (numbers : LocalId → Option ℕ) (elems : Projection) (ty : Option Ty) (offset : ℕ) → offset_behind world no-numbers elems ty ≡ Some offset → offset_behind world numbers elems ty ≡ Some offset
unfolding offset_behind
any-offset world numbers [] ty offset is = is
any-offset world numbers (elem ∷ rest) ty offset is =
    by (option_and_then (elem_offset world no-numbers elem) ty) refl (offset_behind world no-numbers rest (option_and_then (elem_type world elem) ty)) (λ more there. any-offset world numbers rest (option_and_then (elem_type world elem) ty) more there) is where
      by : (first : Option ℕ) → option_and_then (elem_offset world no-numbers elem) ty ≡ first → (behind : Option ℕ) → ((more : ℕ) → behind ≡ Some more → offset_behind world numbers rest (option_and_then (elem_type world elem) ty) ≡ Some more) → added first behind ≡ Some offset →
          added (option_and_then (elem_offset world numbers elem) ty) (offset_behind world numbers rest (option_and_then (elem_type world elem) ty)) ≡ Some offset
      by (Some one) first (Some more) others same =
          ap (λ (o : Option ℕ). added o (offset_behind world numbers rest (option_and_then (elem_type world elem) ty))) (any-elem world numbers elem ty one first)
          ∙ ap (added (Some one)) (others more refl) ∙ same
      by (Some one) first None others same = absurd cc
      by None first behind others same = absurd cc

module _ (code : Prepared) (place : Place) where
  -- the elements of a place, whose projection has the empty id or not
  at-empty-id : (place.projection.0 == 0) ≡ true → elements_of code.body place ≡ Some []
  at-empty-id empty = ap (λ (b : Bool). if b then (Some []) else (projection_of code.body.projection_store.projections place.projection)) empty

  at-id : (place.projection.0 == 0) ≡ false → (elements : Projection) → Some elements ≡ projection_of code.body.projection_store.projections place.projection → elements_of code.body place ≡ Some elements
  at-id some elements are = ap (λ (b : Bool). if b then (Some []) else (projection_of code.body.projection_store.projections place.projection)) some ∙ sym are

  -- a place without elements is a whole cell
  whole : elements_of code.body place ≡ Some [] → IsSpot code place (spot.Whole place.local)
  unfolding place_cell is_out_of_bounds leads_past
  whole none = record {
    lies = λ numbers cells. ap (cell_at code.world code.body numbers cells place) none;
    past = λ numbers. ap (past_at code.world code.body numbers place) none;
  }

  pub whole-empty-id : (place.projection.0 == 0) ≡ true → IsSpot code place (spot.Whole place.local)
  whole-empty-id empty = whole (at-empty-id empty)

  pub whole-empty : (place.projection.0 == 0) ≡ false → (elements : Projection) → Some elements ≡ projection_of code.body.projection_store.projections place.projection → (length elements == 0) ≡ true → IsSpot code place (spot.Whole place.local)
  whole-empty some [] are empty = whole (at-id some [] are)
  whole-empty some (elem ∷ rest) are empty = absurd (let zero-long : length (elem ∷ rest) ≡ 0 = eqb-true (length (elem ∷ rest)) 0 empty in omega (arith, zero-long))

  -- and elsewhere it is where the elements lead to
  pub behind : (place.projection.0 == 0) ≡ false → (elements : Projection) → Some elements ≡ projection_of code.body.projection_store.projections place.projection → (length elements == 0) ≡ false →
      (seen : Ty) → Some seen ≡ type_behind code.world elements (local_type code.body place.local) → (layout : Layout) → Some layout ≡ layout_of code.world seen →
      (spot : Spot) → IsBehind code.world place.local elements (local_type code.body place.local) layout.size spot → IsSpot code place spot
  unfolding place_cell is_out_of_bounds
  behind some [] are empty seen is layout laid spot leads = absurd cc
  behind some (elem ∷ rest) are empty seen is layout laid spot leads =
      let ty = local_type code.body place.local in
      record {
        lies = λ numbers cells.
            ap (cell_at code.world code.body numbers cells place) (at-id some (elem ∷ rest) are)
            ∙ and-then-same (cell_behind code.world numbers (elem ∷ rest) ty) (λ cell. option_and_then (λ offset. part_of_cell cell offset layout.size) (offset_behind code.world numbers (elem ∷ rest) ty))
            (λ cell. sym (laid-all code.world numbers (elem ∷ rest) ty cell empty seen is layout laid)) (slice_get cells place.local.0)
            ∙ leads.lies numbers cells;
        past = λ numbers.
            ap (past_at code.world code.body numbers place) (at-id some (elem ∷ rest) are)
            ∙ leads.past numbers;
      }

  pub behind-maybe : (place.projection.0 == 0) ≡ false → (elements : Projection) → Some elements ≡ projection_of code.body.projection_store.projections place.projection → (length elements == 0) ≡ false →
      (seen : Ty) → Some seen ≡ type_behind code.world elements (local_type code.body place.local) → (layout : Layout) → Some layout ≡ layout_of code.world seen →
      (spot : Option Spot) → IfSome spot (IsBehind code.world place.local elements (local_type code.body place.local) layout.size) → IfSome spot (IsSpot code place)
  behind-maybe some elements are empty seen is layout laid (Some spot) leads = behind some elements are empty seen is layout laid spot leads
  behind-maybe some elements are empty seen is layout laid None leads = tt

module _ (world : HirDatabase) (local : LocalId) (elements : Projection) (ty : Option Ty) (size : ℕ) where
  -- a part of a cell, where no index is among the elements
  pub part : (offset : ℕ) → offset_behind world no-numbers elements ty ≡ Some offset → IsBehind world local elements ty size (spot.Part local offset size)
  part offset at = record {
    lies = λ numbers cells. ap (λ (o : Option ℕ). option_and_then (λ cell. option_and_then (λ n. part_of_cell cell n size) o) (slice_get cells local.0)) (any-offset world numbers elements ty offset at);
    past = λ numbers. offset-within world numbers elements ty offset (any-offset world numbers elements ty offset at);
  }

  -- as far as a reach leads
  pub element : (reach : Reach) → Reaches world elements ty reach → IsBehind world local elements ty size (spot.Indexed (record { local = local; size = size; reach = reach }))
  element reach reaches = record {
    lies = λ numbers cells. ap (λ (o : Option ℕ). option_and_then (λ cell. option_and_then (λ n. part_of_cell cell n size) o) (slice_get cells local.0)) (reaches.offset numbers);
    past = reaches.past;
  }
