-- Places: which bytes of a local's cell one is, and of which type. Where the numbers that locals hold are the indices on a way, `numbers` gives
-- the number of a local.
use Rattle.std.specs.Prelude.{ℕ, ◌+◌, ◌*◌, ◌==◌, ◌||◌, Bool, false, if◌then◌else◌, nat_le, nat_lt, List, [], ◌∷◌, Option, Some, None, slice_get, option_map, option_and_then}
use Rattle.either.specs.declared.Either.TheVariants.{Left, Right}
use Rattle.types.specs.declared.ty.Ty.{Ty}
use Rattle.world.specs.declared.database.HirDatabase.{HirDatabase}
use Rattle.world.specs.Lookups.{layout_of}
use Rattle.mir.specs.declared.address.Interval.{Interval}
use Rattle.mir.specs.declared.body.MirBody.{MirBody}
use Rattle.mir.specs.declared.ids.LocalId.{LocalId}
use Rattle.mir.specs.declared.operand.Place.{Place}
use Rattle.mir.specs.declared.projection.ProjectionElem.TheVariants.{Field, Index}
use Rattle.mir.specs.Addresses.{moved}
use Rattle.mir.specs.Elements.{PlaceElem}
use Rattle.mir.specs.ProjectedTypes.{array_element, array_length, part_type, ready_field_type}
use Rattle.mir.specs.Projections.{Projection, projection_of}

-- The elements of a place's projection. The id 0 is that of the empty one, in each store.
abbrev pub elements_of : MirBody → Place → Option Projection
elements_of body place = if place.projection.0 == 0 then Some [] else projection_of body.projection_store.projections place.projection

-- The type that an element leads to from a value of a type. So far a run goes into parts of tuples, fields of structs and elements of arrays alone.
abbrev pub elem_type : HirDatabase → PlaceElem → Ty → Option Ty
elem_type world (Field (Left field)) ty = ready_field_type world field ty
elem_type world (Field (Right field)) ty = part_type field ty
elem_type world (Index local) ty = array_element ty
elem_type world _ ty = None

-- the offset that the layout of a type has for its part at an index
abbrev pub part_offset : HirDatabase → ℕ → Ty → Option ℕ
part_offset world index ty = option_and_then (λ layout. slice_get layout.offsets index) (layout_of world ty)

-- how many bytes each element of an array takes, by the layout of the elements' type
abbrev pub element_size : HirDatabase → Ty → Option ℕ
element_size world ty = option_map (λ layout. layout.size) (option_and_then (layout_of world) (array_element ty))

-- where the element at an index begins, in an array of so many elements of a size: behind those before it. None is there from the length on.
abbrev pub element_offset : (length size index : Option ℕ) → Option ℕ
element_offset (Some length) (Some size) (Some index) = if nat_lt index length then Some (index * size) else None
element_offset _ _ _ = None

-- how far behind the value's first byte what an element leads to begins, as the layouts of the value's type and of an array's elements say
abbrev pub elem_offset : HirDatabase → (numbers : LocalId → Option ℕ) → PlaceElem → Ty → Option ℕ
elem_offset world numbers (Field (Left field)) ty = part_offset world field.local_id ty
elem_offset world numbers (Field (Right field)) ty = part_offset world field.index ty
elem_offset world numbers (Index local) ty = element_offset (array_length ty) (element_size world ty) (numbers local)
elem_offset world numbers _ ty = None

-- the type of what elements lead to, one after another
unfoldable pub type_behind : HirDatabase → Projection → Option Ty → Option Ty
type_behind world [] ty = ty
type_behind world (elem ∷ rest) ty = type_behind world rest (option_and_then (elem_type world elem) ty)

-- the sum of two numbers, where there are both
abbrev pub added : Option ℕ → Option ℕ → Option ℕ
added (Some one) (Some other) = Some (one + other)
added _ _ = None

-- how far behind the value's first byte what elements lead to begins
unfoldable pub offset_behind : HirDatabase → (numbers : LocalId → Option ℕ) → Projection → Option Ty → Option ℕ
offset_behind world numbers [] ty = Some 0
offset_behind world numbers (elem ∷ rest) ty =
    added (option_and_then (elem_offset world numbers elem) ty) (offset_behind world numbers rest (option_and_then (elem_type world elem) ty))

-- so many bytes of a cell from an offset on, where the cell has as many
abbrev pub part_of_cell : Interval → (offset size : ℕ) → Option Interval
part_of_cell cell offset size = if nat_le (offset + size) cell.size then Some (record { addr = moved cell.addr offset; size = size }) else None

-- where a place's value lies, in the cell of its local: all of it, or what elements lead to
unfoldable pub cell_behind : HirDatabase → (numbers : LocalId → Option ℕ) → Projection → Option Ty → Interval → Option Interval
cell_behind world numbers [] ty cell = Some cell
cell_behind world numbers (elem ∷ rest) ty cell =
    option_and_then (λ offset. option_and_then (part_of_cell cell offset)
    (option_map (λ layout. layout.size) (option_and_then (layout_of world) (type_behind world (elem ∷ rest) ty))))
    (offset_behind world numbers (elem ∷ rest) ty)

-- the type of a body's local
abbrev pub local_type : MirBody → LocalId → Option Ty
local_type body local = option_map (λ l. l.ty) (slice_get body.locals local.0)

-- where the value lies that elements of a place lead to, in the cell of the place's local: the whole cell, where there is no element
abbrev pub cell_at : HirDatabase → MirBody → (numbers : LocalId → Option ℕ) → List Interval → Place → Option Projection → Option Interval
cell_at world body numbers cells place (Some []) = slice_get cells place.local.0
cell_at world body numbers cells place (Some (elem ∷ rest)) =
    option_and_then (cell_behind world numbers (elem ∷ rest) (local_type body place.local)) (slice_get cells place.local.0)
cell_at world body numbers cells place None = None

-- where a place's value lies
unfoldable pub place_cell : HirDatabase → MirBody → (numbers : LocalId → Option ℕ) → List Interval → Place → Option Interval
place_cell world body numbers cells place = cell_at world body numbers cells place (elements_of body place)

-- whether an index isn't below a length, where there are both
abbrev pub is_past : (length index : Option ℕ) → Bool
is_past (Some length) (Some index) = nat_le length index
is_past _ _ = false

-- whether an element is an index past the end of the array that a value of a type is
abbrev pub elem_past : (numbers : LocalId → Option ℕ) → PlaceElem → Option Ty → Bool
elem_past numbers (Index local) (Some ty) = is_past (array_length ty) (numbers local)
elem_past numbers _ _ = false

-- whether one of these elements, one after another, is such an index
unfoldable pub leads_past : HirDatabase → (numbers : LocalId → Option ℕ) → Projection → Option Ty → Bool
leads_past world numbers [] ty = false
leads_past world numbers (elem ∷ rest) ty = elem_past numbers elem ty || leads_past world numbers rest (option_and_then (elem_type world elem) ty)

abbrev pub past_at : HirDatabase → MirBody → (numbers : LocalId → Option ℕ) → Place → Option Projection → Bool
past_at world body numbers place (Some elements) = leads_past world numbers elements (local_type body place.local)
past_at world body numbers place None = false

-- whether a place is out of bounds: an index on the way to it isn't below the length of its array. Such a place lies nowhere.
unfoldable pub is_out_of_bounds : HirDatabase → MirBody → (numbers : LocalId → Option ℕ) → Place → Bool
is_out_of_bounds world body numbers place = past_at world body numbers place (elements_of body place)

-- the type of the value that elements of a place lead to
abbrev pub type_at : HirDatabase → MirBody → Place → Option Projection → Option Ty
type_at world body place (Some elements) = type_behind world elements (local_type body place.local)
type_at world body place None = None

-- the type of a place's value
unfoldable pub place_type : HirDatabase → MirBody → Place → Option Ty
place_type world body place = type_at world body place (elements_of body place)
