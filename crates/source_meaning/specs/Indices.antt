-- Arrays and the numbers that index them: what an index leads to, by the type of the array.
use Rattle.std.specs.Prelude.{ℕ, ◌*◌, Bool, true, false, nat_le, nat_lt, Option, Some, None, is_some, option_and_then, option_map, if◌then◌else◌}
use Rattle.types.specs.declared.scalars.UintTy.TheVariants.{Usize}
use Rattle.types.specs.declared.ty.ComplexMemoryMap.{ComplexMemoryMap}
use Rattle.types.specs.declared.ty.Const.{Const}
use Rattle.types.specs.declared.ty.Const.TheOpen as layer
use Rattle.types.specs.declared.ty.GenericArg.{GenericArg}
use Rattle.types.specs.declared.ty.GenericArgs.{GenericArgs}
use Rattle.types.specs.declared.ty.MemoryMap.{MemoryMap}
use Rattle.types.specs.declared.ty.TraitRef.{TraitRef}
use Rattle.types.specs.declared.ty.Ty.{Ty, Ty-F, out-Ty}
use Rattle.types.specs.declared.ty.UnevaluatedConst.{UnevaluatedConst}
use Rattle.types.specs.declared.ty.ValueConst.{ValueConst}
use Rattle.world.specs.declared.database.HirDatabase.{HirDatabase}
use Rattle.world.specs.Lookups.{layout_of}

-- a type's variant
abbrev TyLayer : Type 0
TyLayer = Ty-F Const GenericArg MemoryMap Ty ComplexMemoryMap GenericArgs TraitRef UnevaluatedConst ValueConst

abbrev element_in : TyLayer → Option Ty
element_in (layer.Array element len) = Some element
element_in _ = None

-- the type of the elements of an array
abbrev pub array_element : Ty → Option Ty
array_element ty = element_in (out-Ty ty)

-- whether a type is an array's
abbrev pub is_array : Option Ty → Bool
is_array ty = is_some (option_and_then array_element ty)

abbrev is_usize_layer : TyLayer → Bool
is_usize_layer (layer.Uint Usize) = true
is_usize_layer _ = false

-- whether a type is `usize`
abbrev pub is_usize : Option Ty → Bool
is_usize (Some ty) = is_usize_layer (out-Ty ty)
is_usize None = false

-- how many bytes each element of an array takes, by the layout of the elements' type
abbrev pub element_size : HirDatabase → Ty → Option ℕ
element_size world ty = option_map (λ layout. layout.size) (option_and_then (layout_of world) (array_element ty))

-- Where the element at an index begins, in an array of so many elements of a size: behind those before it. From the length on there is none.
abbrev pub element_offset : (length size index : Option ℕ) → Option ℕ
element_offset (Some length) (Some size) (Some index) = if nat_lt index length then Some (index * size) else None
element_offset _ _ _ = None

-- whether an index isn't below a length, where both are numbers
abbrev pub is_past : (length index : Option ℕ) → Bool
is_past (Some length) (Some index) = nat_le length index
is_past _ _ = false
