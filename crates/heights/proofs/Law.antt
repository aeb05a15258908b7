-- The height of a type by those of its parts.
use Rattle.std.proofs.Common.{◌≡◌, ◌∙◌, ◌<◌, ℕ, zero, suc, List, [], ◌∷◌, Option, Some, None, length, map, option_and_then, slice_get, refl, sym, ap, ap₂, rules}
use Rattle.types.specs.declared.ids.AdtId.TheVariants as adt
use Rattle.types.specs.declared.ids.StructId.{StructId}
use Rattle.types.specs.declared.ids.VariantId.TheVariants as variant
use Rattle.types.specs.declared.ty.Const.{Const}
use Rattle.types.specs.declared.ty.Const.TheFolds.{the_lemmas}
use Rattle.types.specs.declared.ty.GenericArgs.{GenericArgs}
use Rattle.types.specs.declared.ty.Ty.{Ty}
use Rattle.types.specs.declared.ty.Ty.TheVariants as type
use Rattle.world.specs.Lookups.{fields_of}
use Rattle.world.specs.declared.database.HirDatabase.{HirDatabase}
use Rattle.world.specs.declared.layout.Layout.{Layout}
use Rattle.numbers.specs.Constants.{number_in}
use Rattle.source_meaning.specs.Heights.{element_parts, field_parts, first_heights, greatest, height, height_among, heights, part_places, parts_of, row_place}
use Rattle.heights.proofs.Rows.{above, over-parts}
use Rattle.std.proofs.lemmas.Option.{slice_get_within}

-- the height of a part; 1 where it has no type
abbrev pub part_height : HirDatabase → Option Ty → ℕ
part_height world (Some ty) = height world ty
part_height world None = 1

-- the row of a type stands above a place
abbrev pub IsAbove : HirDatabase → (place : ℕ) → Ty → Type 0
IsAbove world place ty = (q : ℕ) × (row_place world ty ≡ Some q) × (q < place)

-- each of these parts has its row above a place
abbrev pub AreAbove : HirDatabase → (place : ℕ) → List (Option Ty) → Type 0
AreAbove world place parts = (k : ℕ) (part : Ty) → slice_get parts k ≡ Some (Some part) → IsAbove world place part

module _ (world : HirDatabase) (place : ℕ) (there : place < length world.layouts) where
  seen : (part : Ty) (q : ℕ) → row_place world part ≡ Some q → q < place → height_among (first_heights world place) (row_place world part) ≡ height world part
  unfolding height
  seen part q is less =
      ap (height_among (first_heights world place)) is
      ∙ sym (above world place q there less)
      ∙ sym (ap (height_among (heights world)) is)

  all-seen : (parts : List (Option Ty)) → AreAbove world place parts → map (height_among (first_heights world place)) (map (option_and_then (row_place world)) parts) ≡ map (part_height world) parts
  all-seen [] are = refl
  all-seen (Some part ∷ parts) are =
      let first = are zero part refl in
      ap₂ (λ (n : ℕ) (ns : List ℕ). n ∷ ns) (seen part first.0 first.1 first.2) (all-seen parts (λ k other is. are (suc k) other is))
  all-seen (None ∷ parts) are = ap (λ (ns : List ℕ). 1 ∷ ns) (all-seen parts (λ k other is. are (suc k) other is))

-- the row of a type, as the first one that a look-up finds
pub record HasRow (world : HirDatabase) (ty : Ty) : Type 0 where
  pub place : ℕ
  pub layout : Layout
  pub first : row_place world ty ≡ Some place
  pub there : slice_get world.layouts place ≡ Some (ty, layout)

-- A type has the height 1 where it has no parts, and else one more than its highest part, where the parts have their rows above it.
pub height-over-parts : (world : HirDatabase) (ty : Ty) (row : HasRow world ty) → AreAbove world row.place (parts_of world ty) →
    height world ty ≡ suc (greatest (map (part_height world) (parts_of world ty)))
unfolding height part_places
height-over-parts world ty row are =
    ap (height_among (heights world)) row.first
    ∙ over-parts world row.place (ty, row.layout) (part_places world ty) row.there refl
    ∙ ap (λ (ns : List ℕ). suc (greatest ns)) (all-seen world row.place (slice_get_within world.layouts row.place (ty, row.layout) row.there) (parts_of world ty) are)

-- The parts of the forms of types that have some.

pub parts-of-tuple : (world : HirDatabase) (types : List Ty) → parts_of world (type.Tuple types) ≡ map Some types
unfolding parts_of
parts-of-tuple world types = search (the_lemmas, rules)

pub parts-of-array : (world : HirDatabase) (element : Ty) (len : Const) → parts_of world (type.Array element len) ≡ element_parts (number_in len) element
unfolding parts_of
parts-of-array world element len = search (the_lemmas, rules)

pub parts-of-struct : (world : HirDatabase) (id : StructId) (args : GenericArgs) → parts_of world (type.Adt (adt.StructId id) args) ≡ field_parts world args (fields_of world (variant.StructId id))
unfolding parts_of
parts-of-struct world id args = search (the_lemmas, rules)
