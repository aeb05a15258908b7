-- The places of variants among those of their enums.
use Rattle.std.specs.Prelude.{ℕ}
use Rattle.types.specs.declared.ty.ComplexMemoryMap.{ComplexMemoryMap}
use Rattle.types.specs.declared.ty.Const.{Const}
use Rattle.types.specs.declared.ty.Const.TheOpen as one
use Rattle.types.specs.declared.ty.Const.TheOpen.{Const-F, GenericArg-F, MemoryMap-F, Ty-F}
use Rattle.types.specs.declared.ty.Const.TheViews.{out-Const, out-GenericArg, out-MemoryMap, out-Ty}
use Rattle.types.specs.declared.ty.GenericArg.{GenericArg}
use Rattle.types.specs.declared.ty.GenericArgs.{GenericArgs}
use Rattle.types.specs.declared.ty.MemoryMap.{MemoryMap}
use Rattle.types.specs.declared.ty.TraitRef.{TraitRef}
use Rattle.types.specs.declared.ty.Ty.{Ty}
use Rattle.types.specs.declared.ty.UnevaluatedConst.{UnevaluatedConst}
use Rattle.types.specs.declared.ty.ValueConst.{ValueConst}

-- the outermost layer of a value: its variant, with the parts
abbrev pub Layer : (Type 0 → Type 0 → Type 0 → Type 0 → Type 0 → Type 0 → Type 0 → Type 0 → Type 0 → Type 0) → Type 0
Layer Open = Open Const GenericArg MemoryMap Ty ComplexMemoryMap GenericArgs TraitRef UnevaluatedConst ValueConst

abbrev pub ty_place : Layer Ty-F → ℕ
ty_place one.Bool = 0
ty_place one.Char = 1
ty_place (one.Int int) = 2
ty_place (one.Uint uint) = 3
ty_place (one.Float float) = 4
ty_place one.Str = 5
ty_place one.Never = 6
ty_place (one.Tuple fields) = 7
ty_place (one.Array element len) = 8
ty_place (one.Slice element) = 9
ty_place (one.Ref to mutability) = 10
ty_place (one.RawPtr to mutability) = 11
ty_place (one.Adt id args) = 12
ty_place (one.FnDef id args) = 13
ty_place (one.FnPtr params ret) = 14
ty_place (one.Closure id args) = 15
ty_place (one.Dynamic bounds) = 16
ty_place (one.Alias id args) = 17
ty_place (one.Ty::Param param) = 18
ty_place one.Ty::Error = 19

abbrev pub arg_place : Layer GenericArg-F → ℕ
arg_place (one.Ty ty) = 0
arg_place (one.Konst konst) = 1

abbrev pub const_place : Layer Const-F → ℕ
const_place (one.Value value) = 0
const_place (one.Const::Param param) = 1
const_place (one.Unevaluated named) = 2
const_place one.Const::Error = 3

abbrev pub map_place : Layer MemoryMap-F → ℕ
map_place one.Empty = 0
map_place (one.Simple bytes) = 1
map_place (one.Complex complex) = 2

-- the place of a type's variant, of a generic argument's, of a constant's and of a memory map's
abbrev pub ty_variant : Ty → ℕ
ty_variant ty = ty_place (out-Ty ty)

abbrev pub arg_variant : GenericArg → ℕ
arg_variant arg = arg_place (out-GenericArg arg)

abbrev pub const_variant : Const → ℕ
const_variant konst = const_place (out-Const konst)

abbrev pub map_variant : MemoryMap → ℕ
map_variant map = map_place (out-MemoryMap map)
