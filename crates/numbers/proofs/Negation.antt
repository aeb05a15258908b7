-- The operators on one operand.
use Rattle.std.proofs.Common.{◌≡◌, ℕ, zero, suc, ◌+◌, ◌-◌, ◌*◌, ◌%◌, ◌^◌, ◌<◌, ◌≤◌, true, false, ltb, ◌⊎◌, inl, inr, List, length, get_or, Some, ℤ, pos, negsuc, neg_ℤ, refl, sym, ◌∙◌, ap, arith}
use Rattle.std.proofs.Math.Nat.{mod-eq_of_lt}
use Rattle.std.proofs.lemmas.Bool.{cases_lt}
use Rattle.std.proofs.lemmas.List.Elements.{All-from_get_or}
use borrow.Author.Tests.{lt-ltb, le-ltb}
use mir.Val.{Fits}
use mir.Syntax.{w8}
use Rattle.numbers.specs.declared.operator.Kind.TheVariants.{Signed, Unsigned}
use Rattle.numbers.specs.Bytes.{low_digits, low_bytes, residue, signed_reading, number_of, value_of, is_width}
use Rattle.numbers.specs.Operators.{Answer, Computes, negated, inverted}
use Rattle.numbers.proofs.Digits.{low_digits-mod, some_values, value_of_below}
use Rattle.numbers.proofs.Keeping.{all_values, complement-mod, values_mono, width_below}

-- the bytes of a slice are below the count of their values
pub value_in_range : (bytes : List ℕ) → ((i : ℕ) → Fits w8 (get_or bytes i 0)) → value_of bytes < 256 ^ length bytes
value_in_range bytes fits = value_of_below bytes (All-from_get_or (λ byte. byte < 256) bytes 0 (λ i h. (fits i).fits))

-- the low bytes of a number below 2 ^ 128 that is counted down from it
counted_down : (size n : ℕ) → size ≤ 16 → n < 256 ^ size → low_digits size (2 ^ 128 - suc n) ≡ low_digits size (256 ^ size - 1 - n)
counted_down size n h below =
    let values = all_values size h in
    let whole : n % 256 ^ size ≡ n = mod-eq_of_lt below in
    let inside : n < 256 ^ (16 - size) * 256 ^ size = omega (arith, values, values_mono size 16 h) in
    let left : (2 ^ 128 - suc n) % 256 ^ size ≡ 256 ^ size - 1 - n =
    ap (λ m. (m - suc n) % 256 ^ size) values ∙ complement-mod (256 ^ size) (256 ^ (16 - size)) n (some_values size) inside ∙ ap (λ m. 256 ^ size - 1 - m) whole in
    sym (low_digits-mod size (2 ^ 128 - suc n)) ∙ ap (low_digits size) left

pub inverted_digits : (bytes : List ℕ) (n : ℕ) → length bytes ≤ 16 → value_of bytes < 256 ^ length bytes → n ≡ value_of bytes → low_digits (length bytes) (2 ^ 128 - 1 - n) ≡ low_digits (length bytes) (256 ^ length bytes - 1 - value_of bytes)
inverted_digits bytes n h below e =
    let shape : 2 ^ 128 - 1 - n ≡ 2 ^ 128 - suc (value_of bytes) = omega arith in
    ap (low_digits (length bytes)) shape ∙ counted_down (length bytes) (value_of bytes) h below

-- the low bytes of a number's negative, where v is its unsigned reading and r the negative of that at 128 bits
negative_digits : (size v r : ℕ) (z : ℤ) → size ≤ 16 → v < 256 ^ size → v < 2 ^ 128 → r < 2 ^ 128 → (r + v) % 2 ^ 128 ≡ 0 → (z ≡ pos v) ⊎ ((0 < v) × (z ≡ negsuc (256 ^ size - 1 - v))) → low_digits size r ≡ low_bytes size (neg_ℤ z)
unfolding low_bytes residue
negative_digits size zero r z h below wide range e (inl is) =
    let none : r ≡ 0 = omega arith in
    rw (none, is) (sym (low_digits-mod size 0))
negative_digits size zero r z h below wide range e (inr other) = absurd (omega (arith, other.0))
negative_digits size (suc n) r z h below wide range e (inl is) =
    let down : r ≡ 2 ^ 128 - suc n = omega arith in
    let whole : n % 256 ^ size ≡ n = mod-eq_of_lt (omega arith) in
    rw (down, is, whole) (counted_down size n h (omega arith))
negative_digits size (suc n) r z h below wide range e (inr other) =
    let down : r ≡ 2 ^ 128 - suc n = omega arith in
    let up : suc (256 ^ size - 1 - suc n) ≡ 256 ^ size - 1 - n = omega arith in
    rw (down, other.1) (counted_down size n h (omega arith) ∙ ap (low_digits size) (sym up) ∙ sym (low_digits-mod size _))

-- a signed number is its reading, or below 0
signed_cases : (bytes : List ℕ) → value_of bytes < 256 ^ length bytes → (number_of true bytes ≡ pos (value_of bytes)) ⊎ ((0 < value_of bytes) × (number_of true bytes ≡ negsuc (256 ^ length bytes - 1 - value_of bytes)))
unfolding number_of signed_reading
signed_cases bytes below = elim (cases_lt (2 * value_of bytes) (256 ^ length bytes)) [
  | inl h ↦ let test : ltb (2 * value_of bytes) (256 ^ length bytes) ≡ true = lt-ltb _ _ h in inl (rw test refl)
  | inr h ↦ let test : ltb (2 * value_of bytes) (256 ^ length bytes) ≡ false = le-ltb _ _ h in inr (omega (arith, some_values (length bytes)), rw test refl)
]

pub negated-signed : (bytes : List ℕ) (v r : ℕ) (a : Answer) → is_width (length bytes) ≡ true → value_of bytes < 256 ^ length bytes → v ≡ value_of bytes → v < 2 ^ 128 → r < 2 ^ 128 → (r + v) % 2 ^ 128 ≡ 0 → a ≡ Computes (low_digits (length bytes) r) → a ≡ negated (Some Signed) bytes
unfolding negated
negated-signed bytes v r a width below e wide range f g =
    let e' : value_of bytes ≡ v = sym e in
    let digits = negative_digits (length bytes) (value_of bytes) r (number_of true bytes) (width_below _ width) below (omega arith) range (rw e at f) (signed_cases bytes below) in
    rw width (g ∙ ap Computes digits)

pub negated-unsigned : (bytes : List ℕ) (v r : ℕ) (a : Answer) → is_width (length bytes) ≡ true → value_of bytes < 256 ^ length bytes → v ≡ value_of bytes → v < 2 ^ 128 → r < 2 ^ 128 → (r + v) % 2 ^ 128 ≡ 0 → a ≡ Computes (low_digits (length bytes) r) → a ≡ negated (Some Unsigned) bytes
unfolding negated number_of
negated-unsigned bytes v r a width below e wide range f g =
    let e' : value_of bytes ≡ v = sym e in
    let digits = negative_digits (length bytes) (value_of bytes) r (pos (value_of bytes)) (width_below _ width) below (omega arith) range (rw e at f) (inl refl) in
    rw width (g ∙ ap Computes digits)

pub inverted-signed : (bytes : List ℕ) (v : ℕ) (a : Answer) → is_width (length bytes) ≡ true → value_of bytes < 256 ^ length bytes → v ≡ value_of bytes → a ≡ Computes (low_digits (length bytes) (2 ^ 128 - 1 - v)) → a ≡ inverted (Some Signed) bytes
unfolding inverted
inverted-signed bytes v a width below e g = rw width (g ∙ ap Computes (inverted_digits bytes v (width_below _ width) below e))

pub inverted-unsigned : (bytes : List ℕ) (v : ℕ) (a : Answer) → is_width (length bytes) ≡ true → value_of bytes < 256 ^ length bytes → v ≡ value_of bytes → a ≡ Computes (low_digits (length bytes) (2 ^ 128 - 1 - v)) → a ≡ inverted (Some Unsigned) bytes
unfolding inverted
inverted-unsigned bytes v a width below e g = rw width (g ∙ ap Computes (inverted_digits bytes v (width_below _ width) below e))
