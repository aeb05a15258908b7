-- How deep the parts of values are nested, by their types.
use Rattle.std.specs.Prelude.{ℕ, zero, suc, ◌+◌, ◌-◌, List, [], ◌∷◌, ◌++◌, length, map, Option, Some, None, option_and_then, slice_get, unwrap_or}
use Rattle.types.specs.Orders.{ty_cmp}
use Rattle.types.specs.Places.{place_at}
use Rattle.types.specs.declared.ids.AdtId.TheVariants as adt
use Rattle.types.specs.declared.ids.VariantId.TheVariants as variant
use Rattle.types.specs.declared.ty.ComplexMemoryMap.{ComplexMemoryMap}
use Rattle.types.specs.declared.ty.Const.{Const}
use Rattle.types.specs.declared.ty.Const.TheOpen as layer
use Rattle.types.specs.declared.ty.GenericArg.{GenericArg}
use Rattle.types.specs.declared.ty.GenericArgs.{GenericArgs}
use Rattle.types.specs.declared.ty.MemoryMap.{MemoryMap}
use Rattle.types.specs.declared.ty.TraitRef.{TraitRef}
use Rattle.types.specs.declared.ty.Ty.{Ty, Ty-F, out-Ty}
use Rattle.types.specs.declared.ty.UnevaluatedConst.{UnevaluatedConst}
use Rattle.types.specs.declared.ty.ValueConst.{ValueConst}
use Rattle.world.specs.declared.database.HirDatabase.{HirDatabase}
use Rattle.world.specs.declared.items.FieldRow.{FieldRow}
use Rattle.world.specs.declared.layout.Layout.{Layout}
use Rattle.world.specs.Lookups.{fields_of}
use Rattle.numbers.specs.Constants.{number_in}
use Rattle.source_meaning.specs.Structs.{field_type}

-- a type's variant
abbrev TyLayer : Type 0
TyLayer = Ty-F Const GenericArg MemoryMap Ty ComplexMemoryMap GenericArgs TraitRef UnevaluatedConst ValueConst

-- the element of an array as the part that each of its elements is; an array of no elements has no parts, and one whose length isn't known counts as having some
abbrev pub element_parts : (count : Option ℕ) → (element : Ty) → List (Option Ty)
element_parts (Some zero) element = []
element_parts _ element = Some element ∷ []

-- the fields of a struct at generic arguments
abbrev pub field_parts : HirDatabase → GenericArgs → Option (List FieldRow) → List (Option Ty)
field_parts world args (Some fields) = map (field_type world args) fields
field_parts world args None = []

-- The types of the parts of a value: of those of a tuple, of the elements of an array, and of the fields of a struct at its generic arguments, where a field that
-- has no type stands as none. Nothing else has parts here: of enums, unions and closures no valid definition makes a value so far.
unfoldable pub parts_of : HirDatabase → Ty → List (Option Ty)
parts_of world ty = parts (out-Ty ty)
  where
    parts : TyLayer → List (Option Ty)
    parts (layer.Tuple types) = map Some types
    parts (layer.Array element len) = element_parts (number_in len) element
    parts (layer.Adt (adt.StructId id) args) = field_parts world args (fields_of world (variant.StructId id))
    parts _ = []

-- the greatest of numbers; of none it is 0
abbrev pub greatest : List ℕ → ℕ
greatest [] = 0
greatest (first ∷ rest) = first + (greatest rest - first)

-- the place of the row of a type in `layouts`
unfoldable pub row_place : HirDatabase → Ty → Option ℕ
row_place world ty = place_at {R = Ty × Layout} (λ row. row.0) (ty_cmp ty) world.layouts

-- the places of the rows of the parts of a value
unfoldable pub part_places : HirDatabase → Ty → List (Option ℕ)
part_places world ty = map (option_and_then (row_place world)) (parts_of world ty)

-- the height at a place, by the heights at the places up to some one; it is 1 at any other place, and where there is no place
abbrev pub height_among : (heights : List ℕ) → (place : Option ℕ) → ℕ
height_among heights None = 1
height_among heights (Some place) = unwrap_or (slice_get heights place) 1

-- the height of a type whose parts have these places: 1 without parts, and else one more than that of its highest part
abbrev pub height_over : (heights : List ℕ) → (parts : List (Option ℕ)) → ℕ
height_over heights parts = suc (greatest (map (height_among heights) parts))

-- the height of the type of a row, by the heights in the rows above it
abbrev pub row_height : HirDatabase → (above : List ℕ) → Option (Ty × Layout) → ℕ
row_height world above (Some row) = height_over above (part_places world row.0)
row_height world above None = 1

-- The heights of the types of the first rows of `layouts`, each by those of the rows above it: in a checked world the parts of a laid-out type have
-- their rows there.
unfoldable pub first_heights : HirDatabase → (count : ℕ) → List ℕ
first_heights world zero = []
first_heights world (suc count) = first_heights world count ++ row_height world (first_heights world count) (slice_get world.layouts count) ∷ []

-- the heights of all laid-out types
abbrev pub heights : HirDatabase → List ℕ
heights world = first_heights world (length world.layouts)

-- The height of a type in a world. In a checked world that of a laid-out scalar, or of a laid-out tuple, array or struct without parts, is 1; that of any other laid-out tuple,
-- array or struct is one more than the height of its highest part. A type that isn't laid out counts as 1 high; no value of it is made.
unfoldable pub height : HirDatabase → Ty → ℕ
height world ty = height_among (heights world) (row_place world ty)
