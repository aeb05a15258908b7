-- Readers of numbers of 128 bits as strings of decimal digits.
use Rattle.std.specs.Prelude.{ℕ, ◌^◌, ◌==◌, ◌&&◌, ◌||◌, List, length, drop, slice_index, Ok, Bool, not, nat_lt, nat_le, ℤ, pos, neg_ℤ, if◌then◌else◌}
use Rattle.std.specs.Str.{all_ascii_digits}
use Rattle.std.specs.Str.Parse.{digits_value}
use Rattle.serde_json.specs.Data.{Data}
use Rattle.json_kit.specs.Fit.{Fit, misfit, ◌>>=◌}
use Rattle.json_kit.specs.Scalars.{text_of}

-- decimal digits, with no 0 before another
abbrev pub is_numeral : List ℕ → Bool
is_numeral s = nat_lt 0 (length s) && all_ascii_digits s && (length s == 1 || not (slice_index s 0 == 48))

-- not empty, with no sign, and with no 0 before another byte
abbrev pub begins_plainly : List ℕ → Bool
begins_plainly s = nat_lt 0 (length s) && not (slice_index s 0 == 43) && not (slice_index s 0 == 45) && (length s == 1 || not (slice_index s 0 == 48))

-- the number of a text of digits
abbrev pub number_of : List ℕ → ℕ
number_of s = digits_value 10 s

abbrev pub unsigned_of : List ℕ → Fit ℕ
unsigned_of s = if is_numeral s && nat_lt (number_of s) (2 ^ 128) then Ok (number_of s) else misfit

-- the negative number of the digits behind a minus, which don't begin with 0
abbrev pub negative_of : List ℕ → Fit ℤ
negative_of s = if nat_lt 0 (length s) && all_ascii_digits s && not (slice_index s 0 == 48) && nat_le (number_of s) (2 ^ 127) then Ok (neg_ℤ (pos (number_of s))) else misfit

abbrev pub nonnegative_of : List ℕ → Fit ℤ
nonnegative_of s = if is_numeral s && nat_lt (number_of s) (2 ^ 127) then Ok (pos (number_of s)) else misfit

abbrev pub signed_of : List ℕ → Fit ℤ
signed_of s = if slice_index s 0 == 45 then negative_of (drop 1 s) else nonnegative_of s

abbrev pub u128_of : Data → Fit ℕ
u128_of d = text_of d >>= unsigned_of

abbrev pub i128_of : Data → Fit ℤ
i128_of d = text_of d >>= signed_of
