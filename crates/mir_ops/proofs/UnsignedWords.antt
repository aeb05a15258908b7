-- What the table of operators makes of two unsigned numbers of one size.
use Rattle.std.proofs.Common.{◌≡◌, ℕ, ◌+◌, ◌-◌, ◌*◌, ◌/◌, ◌%◌, ◌^◌, ◌<◌, ◌≤◌, true, false, List, length, pos, refl, sym, ◌∙◌, ap, arith}
use Rattle.std.specs.Prelude.{not, bit_and, bit_or, bit_xor, ◌==◌, nat_lt, nat_le}
use Rattle.std.specs.Int.{from_bool}
use native.Mathlib.Nat.{div-le_self}
use borrow.Author.Tests.{lt-ltb}
use Rattle.numbers.specs.declared.operator.Operator.{Operator}
use Rattle.numbers.specs.declared.operator.Operator.TheVariants.{Add, Sub, Mul, Div, Rem, BitXor, BitAnd, BitOr, Eq, Lt, Le, Ne, Ge, Gt}
use Rattle.numbers.specs.Bytes.{low_digits, value_of, number_of, holds}
use Rattle.numbers.specs.Operators.{Computes, on_integers, by_bits, kept, truth_value}
use Rattle.numbers.proofs.Keeping.{kept-held, divided-held, nonzero_test, low_bytes-pos, truth_value_is, difference, same_naturals}

held : (size z : ℕ) → z < 256 ^ size → holds false size (pos z) ≡ true
unfolding holds
held size z below = lt-ltb _ _ below

kept_is : (op : Operator) (size z : ℕ) → z < 256 ^ size → kept op false size (pos z) ≡ Computes (low_digits size z)
kept_is op size z below = sym (kept-held op false size (pos z) _ (held size z below) (ap Computes (sym (low_bytes-pos size z))))

quotient_below : (x y most : ℕ) → x < most → x / y < most
quotient_below x y most below = omega (arith, div-le_self x y)

-- an exact result that was kept is the result
pub kept_value : (z v exact most : ℕ) → v ≡ exact → (z ≡ v) × (v < most) → (exact < most) × (z ≡ exact)
kept_value z v exact most e kept' = (omega arith, kept'.0 ∙ e)

-- two lists of `size` bytes, and the numbers that they are
pub record Words (size x y : ℕ) (left right : List ℕ) : Type 0 where
  pub long : length left ≡ size
  pub first : x ≡ value_of left
  pub second : y ≡ value_of right

pub words_at : (size x y : ℕ) (left right : List ℕ) → length left ≡ size → x ≡ value_of left → y ≡ value_of right → Words size x y left right
words_at size x y left right long first second = record { long = long; first = first; second = second }

module _ (size x y : ℕ) (left right : List ℕ) (w : Words size x y left right) where
  pub added : (z : ℕ) → (x + y < 256 ^ size) × (z ≡ x + y) → on_integers Add false left right ≡ Computes (low_digits size z)
  unfolding on_integers number_of
  added z made = rw (w.long, ← w.first, ← w.second, made.1) (kept_is Add size (x + y) made.0)

  pub subtracted : (z : ℕ) → x < 256 ^ size → (y ≤ x) × (z ≡ x - y) → on_integers Sub false left right ≡ Computes (low_digits size z)
  unfolding on_integers number_of
  subtracted z below made =
      let smaller : x - y < 256 ^ size = omega arith in
      rw (w.long, ← w.first, ← w.second, made.1, difference x y made.0) (kept_is Sub size (x - y) smaller)

  pub multiplied : (z : ℕ) → (x * y < 256 ^ size) × (z ≡ x * y) → on_integers Mul false left right ≡ Computes (low_digits size z)
  unfolding on_integers number_of
  multiplied z made = rw (w.long, ← w.first, ← w.second, made.1) (kept_is Mul size (x * y) made.0)

  pub quotient : (z : ℕ) → x < 256 ^ size → (0 < y) × (z ≡ x / y) → on_integers Div false left right ≡ Computes (low_digits size z)
  unfolding on_integers number_of
  quotient z below made =
      rw (w.long, ← w.first, ← w.second, made.1)
      (sym (divided-held Div false size (pos x) (pos y) _ _ (nonzero_test (pos y) made.0) (held size (x / y) (quotient_below x y (256 ^ size) below)) (ap Computes (sym (low_bytes-pos size (x / y))))))

  pub rest : (z : ℕ) → x < 256 ^ size → (0 < y) × (z ≡ x % y) → on_integers Rem false left right ≡ Computes (low_digits size z)
  unfolding on_integers number_of
  rest z below made =
      rw (w.long, ← w.first, ← w.second, made.1)
      (sym (divided-held Rem false size (pos x) (pos y) _ _ (nonzero_test (pos y) made.0) (held size (x / y) (quotient_below x y (256 ^ size) below)) (ap Computes (sym (low_bytes-pos size (x % y))))))

  pub xored : on_integers BitXor false left right ≡ Computes (low_digits size (bit_xor x y))
  unfolding on_integers by_bits
  xored = rw (w.long, ← w.first, ← w.second) refl

  pub anded : on_integers BitAnd false left right ≡ Computes (low_digits size (bit_and x y))
  unfolding on_integers by_bits
  anded = rw (w.long, ← w.first, ← w.second) refl

  pub ored : on_integers BitOr false left right ≡ Computes (low_digits size (bit_or x y))
  unfolding on_integers by_bits
  ored = rw (w.long, ← w.first, ← w.second) refl

  pub equal : on_integers Eq false left right ≡ Computes (low_digits 1 (from_bool (x == y)))
  unfolding on_integers number_of
  equal = rw (← w.first, ← w.second) (ap truth_value (sym (same_naturals x y)) ∙ sym (truth_value_is (x == y)))

  pub unequal : on_integers Ne false left right ≡ Computes (low_digits 1 (from_bool (not (x == y))))
  unfolding on_integers number_of
  unequal = rw (← w.first, ← w.second) (ap (λ b. truth_value (not b)) (sym (same_naturals x y)) ∙ sym (truth_value_is (not (x == y))))

  pub less : on_integers Lt false left right ≡ Computes (low_digits 1 (from_bool (nat_lt x y)))
  unfolding on_integers number_of
  less = rw (← w.first, ← w.second) (sym (truth_value_is (nat_lt x y)))

  pub at_most : on_integers Le false left right ≡ Computes (low_digits 1 (from_bool (nat_le x y)))
  unfolding on_integers number_of
  at_most = rw (← w.first, ← w.second) (sym (truth_value_is (nat_le x y)))

  pub at_least : on_integers Ge false left right ≡ Computes (low_digits 1 (from_bool (nat_le y x)))
  unfolding on_integers number_of
  at_least = rw (← w.first, ← w.second) (sym (truth_value_is (nat_le y x)))

  pub more : on_integers Gt false left right ≡ Computes (low_digits 1 (from_bool (nat_lt y x)))
  unfolding on_integers number_of
  more = rw (← w.first, ← w.second) (sym (truth_value_is (nat_lt y x)))
