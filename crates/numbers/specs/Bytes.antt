-- Whole numbers as bytes, the lowest byte first, unsigned or in two's complement.
use Rattle.std.specs.Prelude.{ℕ, zero, suc, ◌+◌, ◌-◌, ◌*◌, ◌/◌, ◌%◌, ◌^◌, Bool, true, false, if◌then◌else◌, ◌||◌, ◌==◌, nat_lt, nat_le, List, [], ◌∷◌, length, ℤ, pos, negsuc}

-- how many unsigned numbers a given count of bytes can represent
abbrev pub count_of_values : ℕ → ℕ
count_of_values size = 256 ^ size

-- the lowest bytes of a natural number
unfoldable pub low_digits : ℕ → ℕ → List ℕ
low_digits zero n = []
low_digits (suc size) n = n % 256 ∷ low_digits size (n / 256)

-- the natural number that is left of a number in a given count of bytes: the number itself, up to a multiple of the count of their values
unfoldable pub residue : ℕ → ℤ → ℕ
residue size (pos n) = n % count_of_values size
residue size (negsuc n) = count_of_values size - 1 - n % count_of_values size

-- the lowest bytes of a number in two's complement
unfoldable pub low_bytes : ℕ → ℤ → List ℕ
low_bytes size z = low_digits size (residue size z)

-- the unsigned number that bytes are
unfoldable pub value_of : List ℕ → ℕ
value_of [] = 0
value_of (byte ∷ bytes) = byte + 256 * value_of bytes

-- the number of a given count of bytes whose unsigned reading is n, in two's complement: the upper half of the readings are the negative numbers
unfoldable pub signed_reading : ℕ → ℕ → ℤ
signed_reading size n = if nat_lt (2 * n) (count_of_values size) then pos n else negsuc (count_of_values size - 1 - n)

-- the number that bytes are, unsigned or in two's complement
unfoldable pub number_of : Bool → List ℕ → ℤ
number_of false bytes = pos (value_of bytes)
number_of true bytes = signed_reading (length bytes) (value_of bytes)

-- the type of a given size in bytes, signed or not, holds the number; the double of a signed number is at least -(256 ^ size) and below 256 ^ size
unfoldable pub holds : Bool → ℕ → ℤ → Bool
holds false size (pos n) = nat_lt n (count_of_values size)
holds false size (negsuc n) = false
holds true size (pos n) = nat_lt (2 * n) (count_of_values size)
holds true size (negsuc n) = nat_le (2 * (n + 1)) (count_of_values size)

-- some integer type has this size in bytes
abbrev pub is_width : ℕ → Bool
is_width size = size == 1 || size == 2 || size == 4 || size == 8 || size == 16
