-- The bytes that words are stored as.
use Rattle.std.proofs.Common.{◌≡◌, ℕ, ◌/◌, ◌%◌, ◌^◌, zero, suc, true, false, [], ◌∷◌, refl, sym, ◌∙◌, ap}
use Rattle.std.specs.Prelude.{Bool}
use Rattle.std.specs.Int.{from_bool, bytes_low_first, byte_at}
use native.Mathlib.Nat.{div-one, div-div-eq-div-mul}
use Rattle.numbers.specs.Bytes.{low_digits}
use Rattle.numbers.proofs.Digits.{low_digits-mod, next_values}

byte_at_is : (i n : ℕ) → byte_at i n ≡ n / 256 ^ i % 256
byte_at_is zero n = ap (λ m. m % 256) (sym (div-one n))
byte_at_is (suc i) n = refl

low_first_is : (i k n : ℕ) → bytes_low_first i k n ≡ low_digits k (n / 256 ^ i)
unfolding low_digits
low_first_is i zero n = refl
low_first_is i (suc k) n =
    let next : n / 256 ^ i / 256 ≡ n / 256 ^ suc i = div-div-eq-div-mul n (256 ^ i) 256 ∙ ap (λ m. n / m) (sym (next_values i)) in
    let rest : bytes_low_first (suc i) k n ≡ low_digits k (n / 256 ^ i / 256) = low_first_is (suc i) k n ∙ ap (low_digits k) (sym next) in
    let first = byte_at_is i n in
    cc

-- the bytes of a word of so many bytes
pub bytes_are_digits : (count n : ℕ) → bytes_low_first 0 count n ≡ low_digits count n
bytes_are_digits count n = low_first_is 0 count n ∙ ap (low_digits count) (div-one n)

-- the bytes of a word that a number was cut to
pub cut_bytes_are_digits : (count n : ℕ) → bytes_low_first 0 count (n % 256 ^ count) ≡ low_digits count n
cut_bytes_are_digits count n = bytes_are_digits count (n % 256 ^ count) ∙ low_digits-mod count n

pub lowest_digit : (n : ℕ) → n % 256 ∷ [] ≡ low_digits 1 n
unfolding low_digits
lowest_digit n = refl

pub truth_digits : (truth : Bool) → from_bool truth ∷ [] ≡ low_digits 1 (from_bool truth)
unfolding low_digits
truth_digits true = refl
truth_digits false = refl
