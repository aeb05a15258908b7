-- What the table of operators makes of two signed numbers of one size, which words of `w` have.
use Rattle.std.proofs.Common.{◌≡◌, ℕ, ◌+◌, ◌-◌, ◌*◌, ◌%◌, ◌^◌, ◌<◌, ◌≤◌, suc, true, false, not, eqb, Bool, ◌⊎◌, inl, inr, List, length, ℤ, pos, negsuc, ◌+ℤ◌, ◌-ℤ◌, ◌*ℤ◌, int_div, int_rem, int_lt, int_le, int_eq, FitsSigned, refl, sym, ◌∙◌, ap, arith}
use Rattle.std.specs.Int.{Width, cast_signed, cast_unsigned, CanDivide, from_bool}
use Rattle.std.proofs.lemmas.Nat.{pow-add}
use Rattle.std.proofs.lemmas.Int.{to_z-of_z}
use Rattle.std.proofs.lemmas.Bool.Decides.{nat_tests}
use mir.Val.{bits, hbits}
use borrow.Author.Tests.{lt-ltb, le-leb, ne_eqb, eqb-true, eqb-false}
use lib.Signed.{mag, mag_rem}
use Rattle.numbers.specs.declared.operator.Operator.{Operator}
use Rattle.numbers.specs.declared.operator.Operator.TheVariants.{Add, Sub, Mul, Div, Rem, Eq, Lt, Le, Ne, Ge, Gt}
use Rattle.numbers.specs.Bytes.{low_digits, residue, low_bytes, number_of, holds}
use Rattle.numbers.specs.Operators.{Computes, on_integers, kept}
use Rattle.numbers.proofs.Digits.{low_digits-mod, some_values}
use Rattle.numbers.proofs.Keeping.{complement-mod, kept-held, divided-held, truth_value_is, same_naturals}
use Rattle.mir_ops.specs.declared.made.Size.{Size}
use Rattle.mir_ops.specs.declared.made.Size.TheVariants.{One, Two, Four, Eight}
use Rattle.mir_ops.specs.Made.{bytes_in}

-- ---- the word of a number in two's complement

all_values : (w : Width) (count size : ℕ) → 2 ^ bits w ≡ 256 ^ count → size ≤ count → 2 ^ bits w ≡ 256 ^ (count - size) * 256 ^ size
all_values w count size e h =
    let total : count ≡ (count - size) + size = omega arith in
    e ∙ ap (λ m. 256 ^ m) total ∙ pow-add 256 (count - size) size

word_residue : (w : Width) (count size : ℕ) (z : ℤ) → 2 ^ bits w ≡ 256 ^ count → 2 ^ bits w ≡ 2 * 2 ^ hbits w → size ≤ count → FitsSigned w z → cast_unsigned w z % 256 ^ size ≡ residue size z
unfolding residue
word_residue w count size (pos n) e f h fits = refl
word_residue w count size (negsuc n) e f h fits =
    let below : n < 2 ^ hbits w = fits.sfits in
    let values = all_values w count size e h in
    rw values (complement-mod (256 ^ size) (256 ^ (count - size)) n (some_values size) (omega (arith, values)))

-- its lowest bytes are those of the number
pub word_bytes : (w : Width) (count size : ℕ) (z : ℤ) → 2 ^ bits w ≡ 256 ^ count → 2 ^ bits w ≡ 2 * 2 ^ hbits w → size ≤ count → FitsSigned w z → low_digits size (cast_unsigned w z) ≡ low_bytes size z
unfolding low_bytes
word_bytes w count size z e f h fits = sym (low_digits-mod size _) ∙ ap (low_digits size) (word_residue w count size z e f h fits)

pub size_below : (size : Size) → bytes_in size ≤ 8
size_below One = omega arith
size_below Two = omega arith
size_below Four = omega arith
size_below Eight = omega arith

-- the type of as many bytes as words have holds every number that they have
pub word_holds : (w : Width) (count : ℕ) (z : ℤ) → 2 ^ bits w ≡ 256 ^ count → 2 ^ bits w ≡ 2 * 2 ^ hbits w → FitsSigned w z → holds true count z ≡ true
unfolding holds
word_holds w count (pos n) e f fits = lt-ltb _ _ (omega (arith, fits.sfits))
word_holds w count (negsuc n) e f fits = le-leb _ _ (omega (arith, fits.sfits))

-- ---- numbers that calls hand on

abbrev pub passed : Width → ℤ → ℤ
passed w z = cast_signed w (cast_unsigned w z)

nonzero : (w : Width) (z : ℤ) → 0 < cast_unsigned w z → int_eq z (pos 0) ≡ false
nonzero w (pos n) h = grind (arith, nat_tests)
nonzero w (negsuc n) h = refl

cases_bool : (b : Bool) → (b ≡ true) ⊎ (b ≡ false)
cases_bool true = inl refl
cases_bool false = inr refl

-- the words of two numbers are the same where the numbers are
same_words : (w : Width) (x y : ℤ) → 2 ^ bits w ≡ 2 * 2 ^ hbits w → FitsSigned w x → FitsSigned w y → eqb (cast_unsigned w x) (cast_unsigned w y) ≡ int_eq x y
same_words w (pos m) (pos n) e f g = same_naturals m n
same_words w (pos m) (negsuc n) e f g = ne_eqb m (2 ^ bits w - suc n) (omega (arith, f.sfits, g.sfits))
same_words w (negsuc m) (pos n) e f g = ne_eqb (2 ^ bits w - suc m) n (omega (arith, f.sfits, g.sfits))
same_words w (negsuc m) (negsuc n) e f g = elim (cases_bool (eqb m n)) [
  | inl same ↦ rw (eqb-true m n same) (grind (arith, nat_tests))
  | inr other ↦ ne_eqb _ _ (omega (arith, f.sfits, g.sfits, eqb-false m n other)) ∙ sym (grind (arith, nat_tests))
]

-- the signed type of a size holds a number, which the bytes are
abbrev pub Keeps : ℕ → ℤ → List ℕ → Type 0
Keeps size z bytes = (holds true size z ≡ true) × (bytes ≡ low_bytes size z)

-- what is kept of a number that was handed on is kept of that number
kept_of : (w : Width) (size : ℕ) (v z : ℤ) (bytes : List ℕ) → FitsSigned w z → v ≡ z → Keeps size (passed w v) bytes → Keeps size z bytes
kept_of w size v z bytes fits e keeps =
    let same : passed w v ≡ z = ap (passed w) e ∙ to_z-of_z w z fits in
    rw same at keeps

kept_is : (op : Operator) (size : ℕ) (z : ℤ) (bytes : List ℕ) → Keeps size z bytes → kept op true size z ≡ Computes bytes
kept_is op size z bytes keeps = sym (kept-held op true size z _ keeps.0 (ap Computes keeps.1))

-- ---- the operators

-- two lists of `size` bytes, and the signed numbers that they are
pub record Numbers (w : Width) (size : ℕ) (x y : ℤ) (left right : List ℕ) : Type 0 where
  pub long : length left ≡ size
  pub first_fits : FitsSigned w x
  pub second_fits : FitsSigned w y
  pub first : x ≡ number_of true left
  pub second : y ≡ number_of true right

pub numbers_at : (w : Width) (size : ℕ) (x y : ℤ) (left right : List ℕ) → length left ≡ size → mag x < 2 ^ hbits w → mag y < 2 ^ hbits w → x ≡ number_of true left → y ≡ number_of true right → Numbers w size x y left right
numbers_at w size x y left right long f g first second =
    record { long = long; first_fits = record { sfits = f }; second_fits = record { sfits = g }; first = first; second = second }

module _ (w : Width) (size : ℕ) (x y : ℤ) (left right : List ℕ) (n : Numbers w size x y left right) where
  first_is : passed w x ≡ x
  first_is = to_z-of_z w x n.first_fits

  second_is : passed w y ≡ y
  second_is = to_z-of_z w y n.second_fits

  pub added : (v : ℤ) (bytes : List ℕ) → FitsSigned w (passed w x +ℤ passed w y) × (v ≡ passed w x +ℤ passed w y) → Keeps size (passed w v) bytes → on_integers Add true left right ≡ Computes bytes
  unfolding on_integers
  added v bytes made keeps =
      let sum = rw (first_is, second_is) at made in
      rw (n.long, ← n.first, ← n.second) (kept_is Add size (x +ℤ y) bytes (kept_of w size v (x +ℤ y) bytes sum.0 sum.1 keeps))

  pub subtracted : (v : ℤ) (bytes : List ℕ) → FitsSigned w (passed w x -ℤ passed w y) × (v ≡ passed w x -ℤ passed w y) → Keeps size (passed w v) bytes → on_integers Sub true left right ≡ Computes bytes
  unfolding on_integers
  subtracted v bytes made keeps =
      let difference = rw (first_is, second_is) at made in
      rw (n.long, ← n.first, ← n.second) (kept_is Sub size (x -ℤ y) bytes (kept_of w size v (x -ℤ y) bytes difference.0 difference.1 keeps))

  pub multiplied : (v : ℤ) (bytes : List ℕ) → FitsSigned w (passed w x *ℤ passed w y) × (v ≡ passed w x *ℤ passed w y) → Keeps size (passed w v) bytes → on_integers Mul true left right ≡ Computes bytes
  unfolding on_integers
  multiplied v bytes made keeps =
      let product = rw (first_is, second_is) at made in
      rw (n.long, ← n.first, ← n.second) (kept_is Mul size (x *ℤ y) bytes (kept_of w size v (x *ℤ y) bytes product.0 product.1 keeps))

  pub quotient : (v : ℤ) (bytes : List ℕ) → CanDivide w (passed w x) (passed w y) × (v ≡ int_div (passed w x) (passed w y)) → Keeps size (passed w v) bytes → on_integers Div true left right ≡ Computes bytes
  unfolding on_integers
  quotient v bytes made keeps =
      let d = rw (first_is, second_is) at made in
      let held = kept_of w size v (int_div x y) bytes d.0.1 d.1 keeps in
      rw (n.long, ← n.first, ← n.second) (sym (divided-held Div true size x y (int_div x y) _ (nonzero w y d.0.0) held.0 (ap Computes held.1)))

  -- the type has the quotient, where that was kept, or where words are as long as the type
  pub quotient_held : (v : ℤ) (bytes : List ℕ) → CanDivide w (passed w x) (passed w y) × (v ≡ int_div (passed w x) (passed w y)) → Keeps size (passed w v) bytes → holds true size (int_div x y) ≡ true
  quotient_held v bytes made keeps =
      let d = rw (first_is, second_is) at made in
      let held = kept_of w size v (int_div x y) bytes d.0.1 d.1 keeps in
      held.0

  pub word_quotient_held : CanDivide w (passed w x) (passed w y) → 2 ^ bits w ≡ 256 ^ size → 2 ^ bits w ≡ 2 * 2 ^ hbits w → holds true size (int_div x y) ≡ true
  word_quotient_held made e f =
      let d = rw (first_is, second_is) at made in
      word_holds w size (int_div x y) e f d.1

  pub rest : (v : ℤ) (bytes : List ℕ) → holds true size (int_div x y) ≡ true → CanDivide w (passed w x) (passed w y) × (v ≡ int_rem (passed w x) (passed w y)) → Keeps size (passed w v) bytes → on_integers Rem true left right ≡ Computes bytes
  unfolding on_integers
  rest v bytes held made keeps =
      let d = rw (first_is, second_is) at made in
      let fits : FitsSigned w (int_rem x y) = record { sfits = omega (arith, mag_rem x y, n.first_fits.sfits) } in
      let kept' = kept_of w size v (int_rem x y) bytes fits d.1 keeps in
      rw (n.long, ← n.first, ← n.second) (sym (divided-held Rem true size x y (int_rem x y) _ (nonzero w y d.0.0) held (ap Computes kept'.1)))

  pub equal : 2 ^ bits w ≡ 2 * 2 ^ hbits w → on_integers Eq true left right ≡ Computes (low_digits 1 (from_bool (eqb (cast_unsigned w x) (cast_unsigned w y))))
  unfolding on_integers
  equal e = rw (← n.first, ← n.second, same_words w x y e n.first_fits n.second_fits) (sym (truth_value_is (int_eq x y)))

  pub unequal : 2 ^ bits w ≡ 2 * 2 ^ hbits w → on_integers Ne true left right ≡ Computes (low_digits 1 (from_bool (not (eqb (cast_unsigned w x) (cast_unsigned w y)))))
  unfolding on_integers
  unequal e = rw (← n.first, ← n.second, same_words w x y e n.first_fits n.second_fits) (sym (truth_value_is (not (int_eq x y))))

  pub less : on_integers Lt true left right ≡ Computes (low_digits 1 (from_bool (int_lt (passed w x) (passed w y))))
  unfolding on_integers
  less = rw (← n.first, ← n.second, first_is, second_is) (sym (truth_value_is (int_lt x y)))

  pub at_most : on_integers Le true left right ≡ Computes (low_digits 1 (from_bool (int_le (passed w x) (passed w y))))
  unfolding on_integers
  at_most = rw (← n.first, ← n.second, first_is, second_is) (sym (truth_value_is (int_le x y)))

  pub at_least : on_integers Ge true left right ≡ Computes (low_digits 1 (from_bool (int_le (passed w y) (passed w x))))
  unfolding on_integers
  at_least = rw (← n.first, ← n.second, first_is, second_is) (sym (truth_value_is (int_le y x)))

  pub more : on_integers Gt true left right ≡ Computes (low_digits 1 (from_bool (int_lt (passed w y) (passed w x))))
  unfolding on_integers
  more = rw (← n.first, ← n.second, first_is, second_is) (sym (truth_value_is (int_lt y x)))
