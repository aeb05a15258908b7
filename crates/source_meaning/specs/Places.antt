-- Places: which bytes of a cell one is, and of which type. What lies behind elements is what they lead to, from a value on, where the first
-- one is applied first. An index on the way is the number that the cell of its index holds when the place is used: `numbers` gives it, by the
-- index expression.
use Rattle.std.specs.Prelude.{ℕ, ◌+◌, ◌==◌, List, [], ◌∷◌, length, take, drop, Option, Some, None, option_and_then, option_map, slice_get, if◌then◌else◌, nat_le, ◌||◌, Bool, false}
use Rattle.types.specs.declared.ids.FieldId.{FieldId}
use Rattle.types.specs.declared.ids.VariantId.{VariantId}
use Rattle.types.specs.declared.ids.VariantId.TheVariants as variant
use Rattle.types.specs.declared.ty.ComplexMemoryMap.{ComplexMemoryMap}
use Rattle.types.specs.declared.ty.Const.{Const}
use Rattle.types.specs.declared.ty.GenericArg.{GenericArg}
use Rattle.types.specs.declared.ty.GenericArgs.{GenericArgs}
use Rattle.types.specs.declared.ty.MemoryMap.{MemoryMap}
use Rattle.types.specs.declared.ty.TraitRef.{TraitRef}
use Rattle.types.specs.declared.ty.Ty.{Ty, Ty-F, out-Ty}
use Rattle.types.specs.declared.ty.Const.TheOpen as layer
use Rattle.types.specs.declared.ty.UnevaluatedConst.{UnevaluatedConst}
use Rattle.types.specs.declared.ty.ValueConst.{ValueConst}
use Rattle.world.specs.declared.database.HirDatabase.{HirDatabase}
use Rattle.world.specs.Lookups.{layout_of}
use Rattle.numbers.specs.Aggregates.{with_part}
use Rattle.source_meaning.specs.Aggregates.{array_length}
use Rattle.source_meaning.specs.Contents.{Contents, holding}
use Rattle.source_meaning.specs.Core.{PlaceElem, Part, FieldOf, ElementAt}
use Rattle.source_meaning.specs.Indices.{array_element, element_offset, element_size, is_past}
use Rattle.source_meaning.specs.Structs.{ready_field}
use Rattle.source_meaning.specs.Source.{Source, Store, cell_type, number_held, Place, Operand, Literally, At}

-- a type's variant
abbrev TyLayer : Type 0
TyLayer = Ty-F Const GenericArg MemoryMap Ty ComplexMemoryMap GenericArgs TraitRef UnevaluatedConst ValueConst

-- the type of the part of a tuple at an index
abbrev part_at : (index : ℕ) → TyLayer → Option Ty
part_at index (layer.Tuple parts) = slice_get parts index
part_at index _ = None

-- the type of a field of a struct at its generic arguments: so far one that needn't be made
abbrev pub field_at : HirDatabase → FieldId → VariantId → TyLayer → Option Ty
field_at world field (variant.StructId id) (layer.Adt of args) = ready_field world id field.local_id args
field_at world field parent _ = None

-- the type that an element leads to from a value of a type
abbrev pub elem_type : HirDatabase → PlaceElem → Ty → Option Ty
elem_type world (Part index) ty = part_at index (out-Ty ty)
elem_type world (FieldOf field) ty = field_at world field field.parent (out-Ty ty)
elem_type world (ElementAt e index) ty = array_element ty

-- the offset that the layout of a type has for its part at an index
abbrev pub part_offset : HirDatabase → ℕ → Ty → Option ℕ
part_offset world index ty = option_and_then (λ layout. slice_get layout.offsets index) (layout_of world ty)

-- how many bytes behind the first byte of a value of a type that part begins
abbrev pub elem_offset : HirDatabase → (numbers : ℕ → Option ℕ) → PlaceElem → Ty → Option ℕ
elem_offset world numbers (Part index) ty = part_offset world index ty
elem_offset world numbers (FieldOf field) ty = part_offset world field.local_id ty
elem_offset world numbers (ElementAt e index) ty = element_offset (array_length ty) (element_size world ty) (numbers e)

-- the type of what lies behind elements, from a value of a type
unfoldable pub type_behind : HirDatabase → List PlaceElem → Option Ty → Option Ty
type_behind world [] ty = ty
type_behind world (elem ∷ rest) ty = type_behind world rest (option_and_then (elem_type world elem) ty)

-- the sum of two numbers, where both are there
abbrev pub added : Option ℕ → Option ℕ → Option ℕ
added (Some first) (Some second) = Some (first + second)
added _ _ = None

-- how many bytes behind the value's first byte that begins: the sum of the elements' offsets, each in the type before it
unfoldable pub offset_behind : HirDatabase → (numbers : ℕ → Option ℕ) → List PlaceElem → Option Ty → Option ℕ
offset_behind world numbers [] ty = Some 0
offset_behind world numbers (elem ∷ rest) ty =
    added (option_and_then (elem_offset world numbers elem) ty) (offset_behind world numbers rest (option_and_then (elem_type world elem) ty))

-- whether an element is an index that isn't below the length of the array that a value of a type is
abbrev pub elem_past : (numbers : ℕ → Option ℕ) → PlaceElem → Option Ty → Bool
elem_past numbers (ElementAt e index) (Some ty) = is_past (array_length ty) (numbers e)
elem_past numbers _ _ = false

-- whether one of these elements, one after another, is such an index
unfoldable pub leads_past : HirDatabase → (numbers : ℕ → Option ℕ) → List PlaceElem → Option Ty → Bool
leads_past world numbers [] ty = false
leads_past world numbers (elem ∷ rest) ty = elem_past numbers elem ty || leads_past world numbers rest (option_and_then (elem_type world elem) ty)

-- so many bytes from an offset on, where there are as many
abbrev pub part_of : (offset size : ℕ) → Contents → Option Contents
part_of offset size bytes = if nat_le (offset + size) (length bytes) then Some (take size (drop offset bytes)) else None

-- The bytes behind elements, of a value of a type: as many as the layout of the type behind the elements has, from the elements' offset on.
-- Without elements they are all bytes of the value.
unfoldable pub bytes_behind : HirDatabase → (numbers : ℕ → Option ℕ) → List PlaceElem → Option Ty → Contents → Option Contents
bytes_behind world numbers [] ty bytes = Some bytes
bytes_behind world numbers (elem ∷ rest) ty bytes =
    option_and_then (λ offset. option_and_then (λ size. part_of offset size bytes)
    (option_map (λ layout. layout.size) (option_and_then (layout_of world) (type_behind world (elem ∷ rest) ty)))) (offset_behind world numbers (elem ∷ rest) ty)

-- The bytes of a value of a type after others were put behind elements, where these are as many as lie there. Without elements they take
-- the place of all.
unfoldable pub bytes_with : HirDatabase → (numbers : ℕ → Option ℕ) → List PlaceElem → Option Ty → (put bytes : Contents) → Option Contents
bytes_with world numbers [] ty put bytes = if length put == length bytes then Some put else None
bytes_with world numbers (elem ∷ rest) ty put bytes =
    option_and_then (λ offset. option_and_then (λ size. if length put == size then with_part offset put bytes else None)
    (option_map (λ layout. layout.size) (option_and_then (layout_of world) (type_behind world (elem ∷ rest) ty)))) (offset_behind world numbers (elem ∷ rest) ty)

-- the type of a place's value, and its bytes now, where its type and the layouts on the way say which they are
unfoldable pub place_type : Source → Place → Option Ty
place_type source place = type_behind source.world place.projection (cell_type source place.cell)

unfoldable pub place_bytes : Source → Store → Place → Option Contents
place_bytes source store place = bytes_behind source.world (number_held store) place.projection (cell_type source place.cell) (store place.cell)

-- Whether a place is out of bounds now: an index on the way to it isn't below the length of its array. Such a place has no bytes.
unfoldable pub is_out_of_bounds : Source → Store → Place → Bool
is_out_of_bounds source store place = leads_past source.world (number_held store) place.projection (cell_type source place.cell)

-- the bytes of a place's cell after others were put at the place
unfoldable pub cell_with : Source → Store → Place → Contents → Option Contents
cell_with source store place put = bytes_with source.world (number_held store) place.projection (cell_type source place.cell) put (store place.cell)

-- the type of an operand, and its bytes now
abbrev pub operand_type : Source → Operand → Option Ty
operand_type source (Literally ty bytes) = Some ty
operand_type source (At place) = place_type source place

abbrev pub operand_bytes : Source → Store → Operand → Option Contents
operand_bytes source store (Literally ty bytes) = Some (holding bytes)
operand_bytes source store (At place) = place_bytes source store place

-- whether an operand is a place that is out of bounds now
abbrev pub operand_out : Source → Store → Operand → Bool
operand_out source store (Literally ty bytes) = false
operand_out source store (At place) = is_out_of_bounds source store place

-- whether one of operands is
unfoldable pub some_out : Source → Store → List Operand → Bool
some_out source store [] = false
some_out source store (first ∷ rest) = operand_out source store first || some_out source store rest

-- the bytes of operands, where each has some
unfoldable pub operands_bytes : Source → Store → List Operand → Option (List Contents)
operands_bytes source store [] = Some []
operands_bytes source store (first ∷ rest) =
    option_and_then (λ bytes. option_map (λ others. bytes ∷ others) (operands_bytes source store rest)) (operand_bytes source store first)
