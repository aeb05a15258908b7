-- The type of what an element of a projection leads to, from a place of some type. Where there is none, it is the type `Error`.
use Rattle.std.specs.Prelude.{◌≡◌, ℕ, ◌+◌, ◌-◌, Bool, false, if◌then◌else◌, nat_le, List, Option, Some, None, slice_get, option_map, option_and_then}
use Rattle.either.specs.declared.Either.TheVariants.{Left, Right}
use Rattle.check_instances.specs.Instances.{ty_instance, type_argument}
use Rattle.check_instances.specs.Ready.{ready_instance}
use Rattle.numbers.specs.Bytes.{low_digits}
use Rattle.numbers.specs.Constants.{number_in}
use Rattle.types.specs.declared.ids.AdtId.TheVariants.{StructId as StructAdt}
use Rattle.types.specs.declared.ids.FieldId.{FieldId}
use Rattle.types.specs.declared.ids.InternedClosureId.{InternedClosureId}
use Rattle.types.specs.declared.ids.StructId.{StructId}
use Rattle.types.specs.declared.ids.TupleFieldId.{TupleFieldId}
use Rattle.types.specs.declared.ids.VariantId.{VariantId}
use Rattle.types.specs.declared.ids.VariantId.TheVariants as variant
use Rattle.types.specs.declared.scalars.UintTy.TheVariants.{Usize}
use Rattle.types.specs.declared.ty.ComplexMemoryMap.{ComplexMemoryMap}
use Rattle.types.specs.declared.ty.Const.{Const}
use Rattle.types.specs.declared.ty.Const.TheOpen as layer
use Rattle.types.specs.declared.ty.Const.TheVariants as constant
use Rattle.types.specs.declared.ty.GenericArg.{GenericArg}
use Rattle.types.specs.declared.ty.GenericArgs.{GenericArgs}
use Rattle.types.specs.declared.ty.MemoryMap.{MemoryMap}
use Rattle.types.specs.declared.ty.MemoryMap.TheVariants as map
use Rattle.types.specs.declared.ty.TraitRef.{TraitRef}
use Rattle.types.specs.declared.ty.Ty.{Ty, Ty-F, out-Ty}
use Rattle.types.specs.declared.ty.Ty.TheVariants as type
use Rattle.types.specs.declared.ty.UnevaluatedConst.{UnevaluatedConst}
use Rattle.types.specs.declared.ty.ValueConst.{ValueConst}
use Rattle.world.specs.declared.database.HirDatabase.{HirDatabase}
use Rattle.world.specs.declared.items.FieldRow.{FieldRow}
use Rattle.world.specs.Lookups.{fields_of, normal_row}
use Rattle.mir.specs.declared.projection.ProjectionElem.{ProjectionElem}
use Rattle.mir.specs.declared.projection.ProjectionElem.TheVariants.{Deref, Field, ClosureField, Index, ConstantIndex, Subslice, OpaqueCast}

-- a type's variant
abbrev TyLayer : Type 0
TyLayer = Ty-F Const GenericArg MemoryMap Ty ComplexMemoryMap GenericArgs TraitRef UnevaluatedConst ValueConst

-- the type, where there is one
abbrev pub or_error : Option Ty → Ty
or_error (Some ty) = ty
or_error None = type.Error

-- the type that an alias stands for, where the world has it; each other type itself
abbrev behind_alias : HirDatabase → Ty → TyLayer → Option Ty
behind_alias world ty (layer.Alias id args) = option_map (λ row. row.2) (normal_row world id args)
behind_alias world ty _ = Some ty

abbrev pub seen : HirDatabase → Ty → Option Ty
seen world ty = behind_alias world ty (out-Ty ty)

-- whether a struct is `Box`
abbrev is_box : HirDatabase → StructId → Bool
is_box world id = elim (slice_get world.structs id.0) [ Some row ↦ row.is_box | None ↦ false ]

-- what a reference or a raw pointer points to, or the first generic argument of a box
abbrev pointee_at : HirDatabase → TyLayer → Option Ty
pointee_at world (layer.Ref to mutability) = Some to
pointee_at world (layer.RawPtr to mutability) = Some to
pointee_at world (layer.Adt (StructAdt id) args) = if is_box world id then type_argument (slice_get args.0 0) else None
pointee_at world _ = None

abbrev pub pointee : HirDatabase → Ty → Option Ty
pointee world ty = pointee_at world (out-Ty ty)

-- the type of a field of a struct, a variant or a union, at the generic arguments of the type that has it
abbrev field_at : HirDatabase → FieldId → TyLayer → Option Ty
field_at world field (layer.Adt id args) =
    option_and_then (λ row. ty_instance world.normals args row.ty) (option_and_then (λ fields. slice_get fields field.local_id) (fields_of world field.parent))
field_at world field _ = None

abbrev pub field_type : HirDatabase → FieldId → Ty → Option Ty
field_type world field ty = field_at world field (out-Ty ty)

-- the fields of a struct
abbrev struct_fields : HirDatabase → VariantId → Option (List FieldRow)
struct_fields world (variant.StructId id) = fields_of world (variant.StructId id)
struct_fields world _ = None

-- the type of a field of a struct at its generic arguments, where it needn't be made
abbrev ready_field_at : HirDatabase → FieldId → TyLayer → Option Ty
ready_field_at world field (layer.Adt id args) =
    option_and_then (λ row. ready_instance args row.ty) (option_and_then (λ fields. slice_get fields field.local_id) (struct_fields world field.parent))
ready_field_at world field _ = None

abbrev pub ready_field_type : HirDatabase → FieldId → Ty → Option Ty
ready_field_type world field ty = ready_field_at world field (out-Ty ty)

-- the type of a part of a tuple
abbrev part_at : TupleFieldId → TyLayer → Option Ty
part_at field (layer.Tuple parts) = slice_get parts field.index
part_at field _ = None

abbrev pub part_type : TupleFieldId → Ty → Option Ty
part_type field ty = part_at field (out-Ty ty)

-- the type of the elements of an array or a slice
abbrev element_at : TyLayer → Option Ty
element_at (layer.Array element len) = Some element
element_at (layer.Slice element) = Some element
element_at _ = None

abbrev pub element_type : Ty → Option Ty
element_type ty = element_at (out-Ty ty)

-- the type of the elements of an array
abbrev array_element_at : TyLayer → Option Ty
array_element_at (layer.Array element len) = Some element
array_element_at _ = None

abbrev pub array_element : Ty → Option Ty
array_element ty = array_element_at (out-Ty ty)

-- how many elements an array has, where the length in its type is a number
abbrev array_length_at : TyLayer → Option ℕ
array_length_at (layer.Array element len) = number_in len
array_length_at _ = None

abbrev pub array_length : Ty → Option ℕ
array_length ty = array_length_at (out-Ty ty)

-- a number as a constant of the type `usize`
abbrev pub usize_const : ℕ → Const
usize_const n = constant.Value (record { ty = type.Uint Usize; memory = low_digits 8 n; memory_map = map.Empty })

-- the length of an array without some of its elements: an error where its own isn't known, or is less than their number
abbrev pub length_without : Option ℕ → ℕ → Const
length_without (Some n) cut = if nat_le cut n then usize_const (n - cut) else constant.Error
length_without None cut = constant.Error

-- the type of an array or a slice without its first and its last elements
abbrev subslice_at : ℕ → ℕ → Ty → TyLayer → Option Ty
subslice_at from to ty (layer.Array element len) = Some (type.Array element (length_without (number_in len) (from + to)))
subslice_at from to ty (layer.Slice element) = Some ty
subslice_at from to ty _ = None

abbrev pub subslice_type : ℕ → ℕ → Ty → Option Ty
subslice_type from to ty = subslice_at from to ty (out-Ty ty)

-- the type that an element leads to, but for what a closure captured
abbrev pub elem_type : {V : Type 0} → HirDatabase → ProjectionElem V → Ty → Option Ty
elem_type world Deref ty = pointee world ty
elem_type world (Field (Left field)) ty = field_type world field ty
elem_type world (Field (Right field)) ty = part_type field ty
elem_type world (ClosureField index) ty = None
elem_type world (Index local) ty = element_type ty
elem_type world (ConstantIndex offset from_end) ty = element_type ty
elem_type world (Subslice from to) ty = subslice_type from to ty
elem_type world (OpaqueCast to) ty = None

-- the closure, with its generic arguments, and the place of the capture that an element leads to, where it does
abbrev capture_at : {V : Type 0} → ProjectionElem V → TyLayer → Option (InternedClosureId × GenericArgs × ℕ)
capture_at (ClosureField index) (layer.Closure id args) = Some (id, args, index)
capture_at elem _ = None

abbrev pub capture : {V : Type 0} → ProjectionElem V → Ty → Option (InternedClosureId × GenericArgs × ℕ)
capture elem ty = capture_at elem (out-Ty ty)

-- A type is that of what an element leads to from a place of a type, by what is answered for captures. An alias is seen as what it stands for.
abbrev pub IsProjected : {V : Type 0} → (InternedClosureId → GenericArgs → ℕ → Ty → Type 0) → HirDatabase → ProjectionElem V → Ty → Ty → Type 0
IsProjected Answers world elem base ty =
    elim (option_and_then (capture elem) (seen world base)) [
      | Some captured ↦ Answers captured.0 captured.1 captured.2 ty
      | None ↦ ty ≡ or_error (option_and_then (elem_type world elem) (seen world base))
    ]
