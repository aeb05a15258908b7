-- The numbers of bytes that zeros follow.
use Rattle.std.proofs.Common.{◌≡◌, ℕ, zero, suc, List, ◌++◌, drop, replicate, refl, arith}
use Rattle.numbers.specs.Bytes.{value_of}
use Rattle.numbers.proofs.Digits.{value_of-append}

value_of-zeros : (count : ℕ) → value_of (replicate count 0) ≡ 0
unfolding value_of
value_of-zeros zero = refl
value_of-zeros (suc count) = omega (arith, value_of-zeros count)

value_of-dropped_zeros : (n count : ℕ) → value_of (drop n (replicate count 0)) ≡ 0
unfolding value_of
value_of-dropped_zeros zero count = value_of-zeros count
value_of-dropped_zeros (suc n) zero = refl
value_of-dropped_zeros (suc n) (suc count) = value_of-dropped_zeros n count

-- zeros at the end change no number
pub value_of-padded : (bytes : List ℕ) (n count : ℕ) → value_of (bytes ++ drop n (replicate count 0)) ≡ value_of bytes
value_of-padded bytes n count =
    rw (value_of-append bytes (drop n (replicate count 0)), value_of-dropped_zeros n count) (omega arith)
