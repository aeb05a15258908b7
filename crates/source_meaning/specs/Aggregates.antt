-- Values that have parts: tuples, arrays and structs.
use Rattle.std.specs.Prelude.{◌≡◌, ℕ, ◌+◌, ◌*◌, ◌≤◌, List, length, Option, Some, None, slice_get, IfSome}
use Rattle.types.specs.declared.ids.AdtId.TheVariants as adt
use Rattle.types.specs.declared.ids.StructId.{StructId}
use Rattle.types.specs.declared.ids.VariantId.TheVariants as variant
use Rattle.types.specs.declared.ty.ComplexMemoryMap.{ComplexMemoryMap}
use Rattle.types.specs.declared.ty.Const.{Const}
use Rattle.types.specs.declared.ty.Const.TheOpen as layer
use Rattle.types.specs.declared.ty.GenericArg.{GenericArg}
use Rattle.types.specs.declared.ty.GenericArgs.{GenericArgs}
use Rattle.types.specs.declared.ty.MemoryMap.{MemoryMap}
use Rattle.types.specs.declared.ty.TraitRef.{TraitRef}
use Rattle.types.specs.declared.ty.Ty.{Ty, Ty-F, out-Ty}
use Rattle.types.specs.declared.ty.Ty.TheVariants.{Adt, Array, Tuple}
use Rattle.types.specs.declared.ty.UnevaluatedConst.{UnevaluatedConst}
use Rattle.types.specs.declared.ty.ValueConst.{ValueConst}
use Rattle.world.specs.declared.database.HirDatabase.{HirDatabase}
use Rattle.world.specs.declared.items.FieldRow.{FieldRow}
use Rattle.world.specs.declared.layout.Layout.{Layout}
use Rattle.world.specs.Lookups.{fields_of, layout_of}
use Rattle.numbers.specs.Aggregates.{constructed, repeated}
use Rattle.numbers.specs.Constants.{number_in}
use Rattle.numbers.specs.Operators.{Answer, Computes, Undefined}
use Rattle.source_meaning.specs.Structs.{field_type}

-- a type's variant
abbrev TyLayer : Type 0
TyLayer = Ty-F Const GenericArg MemoryMap Ty ComplexMemoryMap GenericArgs TraitRef UnevaluatedConst ValueConst

-- how many elements an array type has, where that is known
unfoldable pub array_length : Ty → Option ℕ
array_length ty = length_in (out-Ty ty)
  where
    length_in : TyLayer → Option ℕ
    length_in (layer.Array element len) = number_in len
    length_in _ = None

-- bytes, where there are some
abbrev pub made : Option (List ℕ) → Answer
made (Some bytes) = Computes bytes
made None = Undefined

-- a value of a type with this layout, which has these parts, each at the offset that the layout has for it
abbrev pub laid_out : Option Layout → (parts : List (List ℕ)) → Answer
laid_out (Some layout) parts = made (constructed layout.size layout.offsets parts)
laid_out None parts = Undefined

-- an array of one value as often as its type says
abbrev pub repeated_for : Option ℕ → List ℕ → Answer
repeated_for (Some count) bytes = Computes (repeated count bytes)
repeated_for None bytes = Undefined

-- a part's type has a layout, and a part at the offset ends within the size of the whole
pub record IsPartInside (world : HirDatabase) (size offset : ℕ) (ty : Ty) : Type 0 where
  pub layout : Layout
  pub has : layout_of world ty ≡ Some layout
  pub ends : offset + layout.size ≤ size

-- the layout of a tuple has an offset for each part, and each part lies inside
pub record HasParts (world : HirDatabase) (types : List Ty) (layout : Layout) : Type 0 where
  pub count : length layout.offsets ≡ length types
  pub inside : (k offset : ℕ) (ty : Ty) → slice_get types k ≡ Some ty → slice_get layout.offsets k ≡ Some offset → IsPartInside world layout.size offset ty

-- an array's element has a layout, and the array has the size of its elements, where their number is known
pub record HasElements (world : HirDatabase) (element : Ty) (len : Const) (layout : Layout) : Type 0 where
  pub inner : Layout
  pub has : layout_of world element ≡ Some inner
  pub product : IfSome (number_in len) (λ count. layout.size ≡ count * inner.size)

-- the layout of a struct at generic arguments has an offset for each field, and each field that has a type there lies inside
pub record HasFields (world : HirDatabase) (args : GenericArgs) (fields : List FieldRow) (layout : Layout) : Type 0 where
  pub count : length layout.offsets ≡ length fields
  pub inside : (k offset : ℕ) (field : FieldRow) (ty : Ty) → slice_get fields k ≡ Some field → field_type world args field ≡ Some ty → slice_get layout.offsets k ≡ Some offset → IsPartInside world layout.size offset ty

-- in a checked world the layout of each tuple, of each array and of each struct says so
pub record HasAggregates (world : HirDatabase) : Type 0 where
  pub tuples : (types : List Ty) (layout : Layout) → layout_of world (Tuple types) ≡ Some layout → HasParts world types layout
  pub structs : (id : StructId) (args : GenericArgs) (fields : List FieldRow) (layout : Layout) → fields_of world (variant.StructId id) ≡ Some fields → layout_of world (Adt (adt.StructId id) args) ≡ Some layout → HasFields world args fields layout
  pub arrays : (element : Ty) (len : Const) (layout : Layout) → layout_of world (Array element len) ≡ Some layout → HasElements world element len layout
