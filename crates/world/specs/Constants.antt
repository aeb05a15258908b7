-- The constants that literals and lengths are.
use Rattle.std.specs.Prelude.{ℕ, ℤ, Bool, true, if◌then◌else◌, List, take, Option, Some, None, option_map}
use Rattle.std.specs.Int.{w128, cast_unsigned, from_bool, to_le_bytes}
use Rattle.types.specs.contracts.scalars.IntTyPartialEq.TheImpl as IntTyPartialEq
use Rattle.types.specs.contracts.scalars.UintTyPartialEq.TheImpl as UintTyPartialEq
use Rattle.types.specs.declared.scalars.IntTy.{IntTy}
use Rattle.types.specs.declared.scalars.UintTy.{UintTy}
use Rattle.types.specs.declared.scalars.UintTy.TheVariants.{U8, Usize}
use Rattle.types.specs.declared.ty.ComplexMemoryMap.{ComplexMemoryMap}
use Rattle.types.specs.declared.ty.Const.{Const}
use Rattle.types.specs.declared.ty.Const.TheOpen as layer
use Rattle.types.specs.declared.ty.Const.TheVariants as constant
use Rattle.types.specs.declared.ty.GenericArg.{GenericArg}
use Rattle.types.specs.declared.ty.GenericArgs.{GenericArgs}
use Rattle.types.specs.declared.ty.MemoryMap.{MemoryMap}
use Rattle.types.specs.declared.ty.MemoryMap.TheVariants as map
use Rattle.types.specs.declared.ty.TraitRef.{TraitRef}
use Rattle.types.specs.declared.ty.Ty.{Ty, Ty-F, out-Ty}
use Rattle.types.specs.declared.ty.Ty.TheVariants as type
use Rattle.types.specs.declared.ty.UnevaluatedConst.{UnevaluatedConst}
use Rattle.types.specs.declared.ty.ValueConst.{ValueConst}
use Rattle.world.specs.Checked.{int_bytes, uint_bytes}
use Rattle.world.specs.declared.literal.Literal.{Literal}
use Rattle.world.specs.declared.literal.Literal.TheVariants as literal

-- a type's variant
abbrev TyLayer : Type 0
TyLayer = Ty-F Const GenericArg MemoryMap Ty ComplexMemoryMap GenericArgs TraitRef UnevaluatedConst ValueConst

-- the low bytes of a number below 2 ^ 128, the lowest first
abbrev pub low_bytes : ℕ → ℕ → List ℕ
low_bytes size n = take size (to_le_bytes w128 n)

-- the same of a number with a sign, in two's complement
abbrev pub signed_low_bytes : ℕ → ℤ → List ℕ
signed_low_bytes size z = low_bytes size (cast_unsigned w128 z)

-- the constant of a type that bytes are, which refer to no memory; where there are none, the constant `Error`
abbrev pub const_of_bytes : Ty → Option (List ℕ) → Const
const_of_bytes ty (Some bytes) = constant.Value (record { ty = ty; memory = bytes; memory_map = map.Empty })
const_of_bytes ty None = constant.Error

-- a number as a constant of the type `usize`: its low 8 bytes
abbrev pub usize_const : Option ℕ → Const
usize_const number = const_of_bytes (type.Uint Usize) (option_map (low_bytes 8) number)

-- whether a literal's suffix, if it has one, names the type
abbrev pub int_suffix_fits : Option IntTy → IntTy → Bool
int_suffix_fits (Some named) ty = IntTyPartialEq.ghosts.eq named ty
int_suffix_fits None ty = true

abbrev pub uint_suffix_fits : Option UintTy → UintTy → Bool
uint_suffix_fits (Some named) ty = UintTyPartialEq.ghosts.eq named ty
uint_suffix_fits None ty = true

-- the byte of a literal at `bool`
abbrev pub bool_literal : Literal → Option (List ℕ)
bool_literal (literal.Bool truth) = Some (low_bytes 1 (from_bool truth))
bool_literal _ = None

-- the 4 bytes of a literal at `char`
abbrev pub char_literal : Literal → Option (List ℕ)
char_literal (literal.Char number) = Some (low_bytes 4 number)
char_literal _ = None

-- the bytes of a literal at a signed type: of a signed number, with no suffix or the type's own
abbrev pub int_literal : IntTy → Literal → Option (List ℕ)
int_literal ty (literal.Int number suffix) = if int_suffix_fits suffix ty then Some (signed_low_bytes (int_bytes ty) number) else None
int_literal ty _ = None

-- the bytes of a literal at an unsigned type: of an unsigned number, with no suffix or the type's own, or of a signed number with no suffix
abbrev pub uint_literal : UintTy → Literal → Option (List ℕ)
uint_literal ty (literal.Uint number suffix) = if uint_suffix_fits suffix ty then Some (low_bytes (uint_bytes ty) number) else None
uint_literal ty (literal.Int number None) = Some (signed_low_bytes (uint_bytes ty) number)
uint_literal ty _ = None

-- the bytes of a literal at `str`
abbrev pub str_literal : Literal → Option (List ℕ)
str_literal (literal.Str bytes) = Some bytes
str_literal _ = None

-- the bytes of a literal at `[u8]`
abbrev pub byte_string_literal : Literal → Option (List ℕ)
byte_string_literal (literal.ByteStr bytes) = Some bytes
byte_string_literal _ = None

-- the bytes of a literal at a slice of a type
abbrev slice_literal : Literal → TyLayer → Option (List ℕ)
slice_literal value (layer.Uint U8) = byte_string_literal value
slice_literal value _ = None

-- the bytes of a literal at a type, if it is one of the type
abbrev literal_at : Literal → TyLayer → Option (List ℕ)
literal_at value layer.Bool = bool_literal value
literal_at value layer.Char = char_literal value
literal_at value (layer.Int ty) = int_literal ty value
literal_at value (layer.Uint ty) = uint_literal ty value
literal_at value layer.Str = str_literal value
literal_at value (layer.Slice element) = slice_literal value (out-Ty element)
literal_at value _ = None

abbrev pub literal_bytes : Literal → Ty → Option (List ℕ)
literal_bytes value ty = literal_at value (out-Ty ty)

-- a literal as a constant of a type: the constant `Error` where the literal isn't one of the type
abbrev pub const_of_literal : Literal → Ty → Const
const_of_literal value ty = const_of_bytes ty (literal_bytes value ty)
