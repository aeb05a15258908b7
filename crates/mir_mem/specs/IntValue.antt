-- Numbers of the integer types, as numbers with a width and a sign.
use Rattle.std.specs.Prelude.{◌≡◌, ℕ, ◌*◌, Bool, true, false, List, length, ℤ, pos, FitsSigned, unsigned_abs}
use Rattle.std.specs.Int.{FitsUnsignedBits, w8, w16, w32, w64, w128, cast_unsigned, cast_signed}
use Rattle.mir_mem.specs.declared.int_value.IntValue.{IntValue}
use Rattle.mir_mem.specs.declared.int_value.IntValue.TheVariants.{I8, U8, I16, U16, I32, U32, I64, U64, I128, U128}
use Rattle.numbers.specs.Bytes.{number_of}

-- the number
abbrev pub number_in : IntValue → ℤ
number_in (I8 z) = z
number_in (U8 n) = pos n
number_in (I16 z) = z
number_in (U16 n) = pos n
number_in (I32 z) = z
number_in (U32 n) = pos n
number_in (I64 z) = z
number_in (U64 n) = pos n
number_in (I128 z) = z
number_in (U128 n) = pos n

-- how many bytes its type has
abbrev pub size_in : IntValue → ℕ
size_in (I8 _) = 1
size_in (U8 _) = 1
size_in (I16 _) = 2
size_in (U16 _) = 2
size_in (I32 _) = 4
size_in (U32 _) = 4
size_in (I64 _) = 8
size_in (U64 _) = 8
size_in (I128 _) = 16
size_in (U128 _) = 16

-- whether its type is signed
abbrev pub is_signed_in : IntValue → Bool
is_signed_in (I8 _) = true
is_signed_in (U8 _) = false
is_signed_in (I16 _) = true
is_signed_in (U16 _) = false
is_signed_in (I32 _) = true
is_signed_in (U32 _) = false
is_signed_in (I64 _) = true
is_signed_in (U64 _) = false
is_signed_in (I128 _) = true
is_signed_in (U128 _) = false

-- the value is the number that the bytes are, of their width and of that sign
pub record Reads (value : IntValue) (signed : Bool) (bytes : List ℕ) : Type 0 where
  pub number : number_in value ≡ number_of signed bytes
  pub size : size_in value ≡ length bytes
  pub sign : is_signed_in value ≡ signed

-- the two values have one type
pub record IsSameType (one other : IntValue) : Type 0 where
  pub size : size_in one ≡ size_in other
  pub sign : is_signed_in one ≡ is_signed_in other

-- the value's type has the number
abbrev pub TypeHolds : IntValue → ℤ → Type 0
TypeHolds (I8 _) z = FitsSigned w8 z
TypeHolds (U8 _) z = FitsUnsignedBits 8 z
TypeHolds (I16 _) z = FitsSigned w16 z
TypeHolds (U16 _) z = FitsUnsignedBits 16 z
TypeHolds (I32 _) z = FitsSigned w32 z
TypeHolds (U32 _) z = FitsUnsignedBits 32 z
TypeHolds (I64 _) z = FitsSigned w64 z
TypeHolds (U64 _) z = FitsUnsignedBits 64 z
TypeHolds (I128 _) z = FitsSigned w128 z
TypeHolds (U128 _) z = FitsUnsignedBits 128 z

-- the value of the same type with another number, which the type has
abbrev pub with_number : IntValue → ℤ → IntValue
with_number (I8 _) z = I8 z
with_number (U8 _) z = U8 (unsigned_abs z)
with_number (I16 _) z = I16 z
with_number (U16 _) z = U16 (unsigned_abs z)
with_number (I32 _) z = I32 z
with_number (U32 _) z = U32 (unsigned_abs z)
with_number (I64 _) z = I64 z
with_number (U64 _) z = U64 (unsigned_abs z)
with_number (I128 _) z = I128 z
with_number (U128 _) z = U128 (unsigned_abs z)

-- the bits of a value, as an unsigned number: of a negative number those of two's complement
abbrev pub bits_in : IntValue → ℕ
bits_in (I8 z) = cast_unsigned w8 z
bits_in (U8 n) = n
bits_in (I16 z) = cast_unsigned w16 z
bits_in (U16 n) = n
bits_in (I32 z) = cast_unsigned w32 z
bits_in (U32 n) = n
bits_in (I64 z) = cast_unsigned w64 z
bits_in (U64 n) = n
bits_in (I128 z) = cast_unsigned w128 z
bits_in (U128 n) = n

-- the value of the same type with other bits
abbrev pub with_bits : IntValue → ℕ → IntValue
with_bits (I8 _) bits = I8 (cast_signed w8 bits)
with_bits (U8 _) bits = U8 bits
with_bits (I16 _) bits = I16 (cast_signed w16 bits)
with_bits (U16 _) bits = U16 bits
with_bits (I32 _) bits = I32 (cast_signed w32 bits)
with_bits (U32 _) bits = U32 bits
with_bits (I64 _) bits = I64 (cast_signed w64 bits)
with_bits (U64 _) bits = U64 bits
with_bits (I128 _) bits = I128 (cast_signed w128 bits)
with_bits (U128 _) bits = U128 bits

-- how many bits its type has
abbrev pub width_in : IntValue → ℕ
width_in value = 8 * size_in value
