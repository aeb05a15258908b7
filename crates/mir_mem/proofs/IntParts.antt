-- Numbers and bits of the integer types.
use Rattle.std.proofs.Common.{◌≡◌, ◌≢◌, ℕ, ◌^◌, ◌%◌, ◌<◌, true, Option, Some, None, ℤ, pos, negsuc, int_div, int_rem, arith}
use Rattle.std.specs.Int.{w128, cast_unsigned}
use Rattle.std.specs.Option.{SomeIff}
use Rattle.std.proofs.Math.Pow.{mod-mod-pow}
use lib.Signed.{mag_rem}
use Rattle.mir_mem.specs.declared.int_value.IntValue.{IntValue}
use Rattle.mir_mem.specs.declared.int_value.IntValue.TheVariants.{I8, U8, I16, U16, I32, U32, I64, U64, I128, U128}
use Rattle.mir_mem.specs.IntValue.{is_signed_in, TypeHolds, with_number, width_in}

-- the lowest bits of a number that 128 bits were left of
pub low_bits-low : (value : IntValue) (n : ℕ) → n % 2 ^ 128 % 2 ^ width_in value ≡ n % 2 ^ width_in value
low_bits-low (I8 _) n = mod-mod-pow n 120 8
low_bits-low (U8 _) n = mod-mod-pow n 120 8
low_bits-low (I16 _) n = mod-mod-pow n 112 16
low_bits-low (U16 _) n = mod-mod-pow n 112 16
low_bits-low (I32 _) n = mod-mod-pow n 96 32
low_bits-low (U32 _) n = mod-mod-pow n 96 32
low_bits-low (I64 _) n = mod-mod-pow n 64 64
low_bits-low (U64 _) n = mod-mod-pow n 64 64
low_bits-low (I128 _) n = mod-mod-pow n 0 128
low_bits-low (U128 _) n = mod-mod-pow n 0 128

-- a type that holds a number holds its remainders
rem_held : (value : IntValue) (x y : ℤ) → is_signed_in value ≡ true → TypeHolds value x → TypeHolds value (int_rem x y)
rem_held (I8 _) x y signed held = record { sfits = omega (arith, mag_rem x y, held.sfits) }
rem_held (I16 _) x y signed held = record { sfits = omega (arith, mag_rem x y, held.sfits) }
rem_held (I32 _) x y signed held = record { sfits = omega (arith, mag_rem x y, held.sfits) }
rem_held (I64 _) x y signed held = record { sfits = omega (arith, mag_rem x y, held.sfits) }
rem_held (I128 _) x y signed held = record { sfits = omega (arith, mag_rem x y, held.sfits) }
rem_held (U8 _) x y signed held = cc
rem_held (U16 _) x y signed held = cc
rem_held (U32 _) x y signed held = cc
rem_held (U64 _) x y signed held = cc
rem_held (U128 _) x y signed held = cc

nonzero : (y : ℤ) → 0 < cast_unsigned w128 y → y ≢ pos 0
nonzero (pos n) h e = let none : n ≡ 0 = cc in omega arith
nonzero (negsuc n) h e = cc

-- a remainder is given where the quotient is held
pub some_rem : (value : IntValue) (x y : ℤ) (result : Option IntValue) → is_signed_in value ≡ true → TypeHolds value x → 0 < cast_unsigned w128 y → TypeHolds value (int_div x y) →
    SomeIff result (TypeHolds value (int_rem x y)) (with_number value (int_rem x y)) →
    SomeIff result ((y ≢ pos 0) × TypeHolds value (int_div x y)) (with_number value (int_rem x y))
some_rem value x y (Some rest) signed held divisor quotient given = ((nonzero y divisor, quotient), given.1)
some_rem value x y None signed held divisor quotient given = absurd (given (rem_held value x y signed held))
