-- Results in the bytes of their type.
use Rattle.std.proofs.Common.{◌≡◌, ℕ, zero, suc, ◌+◌, ◌-◌, ◌*◌, ◌/◌, ◌%◌, ◌^◌, ◌<◌, ◌≤◌, ◌↔◌, Bool, true, false, cond, not, ◌&&◌, ◌⊎◌, inl, inr, ltb, leb, eqb, IsTrue, take, ℤ, pos, negsuc, ◌≤ℤ◌, ◌-ℤ◌, int_div, int_eq, refl, sym, ◌∙◌, ap, arith, FitsSigned}
use Rattle.std.specs.Int.{w128, cast_unsigned, cast_signed, CanDivide, to_le_bytes, bytes_low_first, byte_at, from_bool}
use Rattle.std.proofs.Math.Nat.{div-div-eq-div-mul, div-one, add-mul, pow-le-pow_right}
use Rattle.std.proofs.lemmas.Nat.{div-add-mod', div_below, mod-mul-add, mod_below, pow-add}
use Rattle.std.proofs.lemmas.Int.{ints, to_z-of_z}
use Rattle.std.proofs.lemmas.Bool.Decides.{nat_tests, same_from_decides}
use borrow.Author.Tests.{ltb-true, leb-true, lt-ltb, le-leb, ne_eqb, eqb-true, eqb-false}
use lib.Signed.{mag}
use Rattle.numbers.specs.declared.operator.Operator.{Operator}
use Rattle.numbers.specs.Operators.{Answer, Computes, Panics, kept, divided, truth_value, panic_word}
use Rattle.numbers.specs.Bytes.{low_digits, residue, low_bytes, holds, is_width}
use Rattle.numbers.proofs.Digits.{low_digits-mod, take-low_digits, some_values, next_values}

byte_at_is : (i n : ℕ) → byte_at i n ≡ n / 256 ^ i % 256
byte_at_is zero n = ap (λ m. m % 256) (sym (div-one n))
byte_at_is (suc i) n = refl

low_first_is : (i k n : ℕ) → bytes_low_first i k n ≡ low_digits k (n / 256 ^ i)
unfolding low_digits
low_first_is i zero n = refl
low_first_is i (suc k) n =
    let next : n / 256 ^ i / 256 ≡ n / 256 ^ suc i = div-div-eq-div-mul n (256 ^ i) 256 ∙ ap (λ m. n / m) (sym (next_values i)) in
    let rest : bytes_low_first (suc i) k n ≡ low_digits k (n / 256 ^ i / 256) = low_first_is (suc i) k n ∙ ap (low_digits k) (sym next) in
    let first = byte_at_is i n in
    cc

pub take-le_bytes : (size n : ℕ) → size ≤ 16 → take size (to_le_bytes w128 n) ≡ low_digits size n
take-le_bytes size n h =
    let all : to_le_bytes w128 n ≡ low_digits 16 n = low_first_is 0 16 n ∙ ap (low_digits 16) (div-one n) in
    let more : size + (16 - size) ≡ 16 = omega arith in
    let part : take size (low_digits (size + (16 - size)) n) ≡ low_digits size n = take-low_digits size (16 - size) n in
    let part' : take size (low_digits 16 n) ≡ low_digits size n = rw more at part in
    ap (take size) all ∙ part'

-- the numbers below a multiple, counted down from it
product_of_sum : (k quot p : ℕ) → (k + 1 + quot) * p ≡ k * p + p + quot * p
product_of_sum k quot p = omega (arith, add-mul (k + 1) quot p, add-mul k 1 p)

pub complement-mod : (p q n : ℕ) → 0 < p → n < q * p → (q * p - suc n) % p ≡ p - 1 - n % p
complement-mod p q n h below =
    let quot : ℕ = n / p in
    let k : ℕ = q - 1 - quot in
    let whole : quot * p + n % p ≡ n = div-add-mod' n p in
    let rest : n % p < p = mod_below n p h in
    let smaller : quot < q = div_below n p q h below in
    let parts : q ≡ k + 1 + quot = omega arith in
    let product : q * p ≡ k * p + p + quot * p = ap (λ m. m * p) parts ∙ product_of_sum k quot p in
    let shape : q * p - suc n ≡ k * p + (p - 1 - n % p) = omega arith in
    ap (λ m. m % p) shape ∙ mod-mul-add k p (p - 1 - n % p) (omega arith)

pub all_values : (size : ℕ) → size ≤ 16 → 2 ^ 128 ≡ 256 ^ (16 - size) * 256 ^ size
all_values size h =
    let total : 16 ≡ (16 - size) + size = omega arith in
    ap (λ m. 256 ^ m) total ∙ pow-add 256 (16 - size) size

pub cast_residue : (size : ℕ) (z : ℤ) → size ≤ 16 → FitsSigned w128 z → cast_unsigned w128 z % 256 ^ size ≡ residue size z
unfolding residue
cast_residue size (pos n) h fits = refl
cast_residue size (negsuc n) h fits =
    let below : n < 2 ^ 127 = fits.sfits in
    let e = all_values size h in
    rw e (complement-mod (256 ^ size) (256 ^ (16 - size)) n (some_values size) (omega (arith, e)))

pub take-signed_bytes : (size : ℕ) (z : ℤ) → size ≤ 16 → FitsSigned w128 z → take size (to_le_bytes w128 (cast_unsigned w128 z)) ≡ low_bytes size z
unfolding low_bytes
take-signed_bytes size z h fits = take-le_bytes size (cast_unsigned w128 z) h ∙ sym (low_digits-mod size _) ∙ ap (low_digits size) (cast_residue size z h fits)

cases_bool : (b : Bool) → (b ≡ true) ⊎ (b ≡ false)
cases_bool true = inl refl
cases_bool false = inr refl

unless_true : (b : Bool) → (b ≡ true → ⊥) → b ≡ false
unless_true true refuted = absurd (refuted refl)
unless_true false refuted = refl

pub values_mono : (size more : ℕ) → size ≤ more → 256 ^ size ≤ 256 ^ more
values_mono size more h = pow-le-pow_right (omega arith) h

-- between the ends of a signed type
pub holds-between : (size half : ℕ) (z t least greatest : ℤ) (r : Bool) → t ≡ z → 256 ^ size ≡ 2 * half + 2 → least ≡ negsuc half → greatest ≡ pos half → IsTrue r ↔ ((least ≤ℤ t) × (t ≤ℤ greatest)) → r ≡ holds true size z
unfolding holds
holds-between size half (pos n) t least greatest r same e f g h =
    let ends : IsTrue r ↔ (n ≤ half) = (λ k. omega (arith, ints, h.0 k), λ k. h.1 (omega (arith, ints), omega (arith, ints))) in
    same_from_decides r _ ends (λ k. omega (arith, ltb-true _ _ k), λ k. lt-ltb _ _ (omega arith))
holds-between size half (negsuc n) t least greatest r same e f g h =
    let ends : IsTrue r ↔ (n ≤ half) = (λ k. omega (arith, ints, h.0 k), λ k. h.1 (omega (arith, ints), omega (arith, ints))) in
    same_from_decides r _ ends (λ k. omega (arith, leb-true _ _ k), λ k. le-leb _ _ (omega arith))

-- the widest types hold every number of 128 bits
pub wide_holds : (z : ℤ) → FitsSigned w128 z → holds true 16 z ≡ true
unfolding holds
wide_holds (pos n) fits = lt-ltb _ _ (omega (arith, fits.sfits))
wide_holds (negsuc n) fits = le-leb _ _ (omega (arith, fits.sfits))

pub wide_holds_unsigned : (n : ℕ) → n < 2 ^ 128 → holds false 16 (pos n) ≡ true
unfolding holds
wide_holds_unsigned n h = lt-ltb _ _ h

pub holds_up_to : (size n greatest : ℕ) → 256 ^ size ≡ suc greatest → leb n greatest ≡ holds false size (pos n)
unfolding holds
holds_up_to size n greatest h = grind (arith, nat_tests)

pub width_below : (size : ℕ) → is_width size ≡ true → size ≤ 16
width_below size h = grind (arith, nat_tests)

pub holds_fits : (size : ℕ) (z : ℤ) → size ≤ 16 → holds true size z ≡ true → FitsSigned w128 z
unfolding holds
holds_fits size (pos n) h k =
    let below : 2 * n < 256 ^ size = ltb-true _ _ k in
    let values : 256 ^ size ≤ 256 ^ 16 = values_mono size 16 h in
    record { sfits = omega arith }
holds_fits size (negsuc n) h k =
    let below : 2 * (n + 1) ≤ 256 ^ size = leb-true _ _ k in
    let values : 256 ^ size ≤ 256 ^ 16 = values_mono size 16 h in
    record { sfits = omega arith }

pub low_bytes-pos : (size n : ℕ) → low_bytes size (pos n) ≡ low_digits size n
unfolding low_bytes residue
low_bytes-pos size n = low_digits-mod size n

pub truth_value_is : (truth : Bool) → Computes (low_digits 1 (from_bool truth)) ≡ truth_value truth
unfolding truth_value low_digits
truth_value_is true = refl
truth_value_is false = refl

-- ---- the answers

pub kept-held : (op : Operator) (signed : Bool) (size : ℕ) (z : ℤ) (a : Answer) → holds signed size z ≡ true → a ≡ Computes (low_bytes size z) → a ≡ kept op signed size z
unfolding kept
kept-held op signed size z a h e = rw h e

pub kept-refused : (op : Operator) (signed : Bool) (size : ℕ) (z : ℤ) → holds signed size z ≡ false → Panics (panic_word op) ≡ kept op signed size z
unfolding kept
kept-refused op signed size z h = rw h refl

pub kept_overflow : (op : Operator) (size : ℕ) (z : ℤ) → is_width size ≡ true → (FitsSigned w128 z → ⊥) → Panics (panic_word op) ≡ kept op true size z
kept_overflow op size z h over = kept-refused op true size z (unless_true (holds true size z) (λ k. over (holds_fits size z (width_below size h) k)))

pub kept_unsigned_overflow : (op : Operator) (size n : ℕ) → is_width size ≡ true → (n < 2 ^ 128 → ⊥) → Panics (panic_word op) ≡ kept op false size (pos n)
unfolding holds
kept_unsigned_overflow op size n h over =
    let values : 256 ^ size ≤ 256 ^ 16 = values_mono size 16 (width_below size h) in
    kept-refused op false size (pos n) (unless_true (ltb n (256 ^ size)) (λ k. over (omega (arith, ltb-true n (256 ^ size) k))))

-- ---- quotients and remainders

-- a signed number as it is passed on
pub passed_is : (z n : ℤ) → mag z < 2 ^ 127 → z ≡ n → cast_signed w128 (cast_unsigned w128 z) ≡ n
passed_is z n fits e = to_z-of_z w128 z (record { sfits = fits }) ∙ e

pub nonzero_test : (z : ℤ) → 0 < cast_unsigned w128 z → int_eq z (pos 0) ≡ false
nonzero_test (pos n) h = grind (arith, nat_tests)
nonzero_test (negsuc n) h = refl

nonzero_from_test : (z : ℤ) → FitsSigned w128 z → int_eq z (pos 0) ≡ false → 0 < cast_unsigned w128 z
nonzero_from_test (pos n) fits h = grind (arith, nat_tests)
nonzero_from_test (negsuc n) fits h = omega (arith, fits.sfits)

refused : (b : Bool) (a c : Answer) → c ≡ cond (b && false) a c
refused true a c = refl
refused false a c = refl

zero_test : (n : ℕ) → n ≡ 0 → int_eq (pos n) (pos 0) ≡ true
zero_test n h = rw h refl

negative_not_held : (size n : ℕ) → holds false size (negsuc n) ≡ false
unfolding holds
negative_not_held size n = refl

pub divided-held : (op : Operator) (signed : Bool) (size : ℕ) (x y z : ℤ) (a : Answer) → int_eq y (pos 0) ≡ false → holds signed size (int_div x y) ≡ true → a ≡ Computes (low_bytes size z) → a ≡ divided op signed size x y z
unfolding divided
divided-held op signed size x y z a h k e = rw (h, k) e

pub divided-kept : (op : Operator) (signed : Bool) (size : ℕ) (x y : ℤ) (a : Answer) → int_eq y (pos 0) ≡ false → a ≡ kept op signed size (int_div x y) → a ≡ divided op signed size x y (int_div x y)
unfolding divided kept
divided-kept op signed size x y a h e = rw h e

pub divided-by_zero : (op : Operator) (signed : Bool) (size : ℕ) (x y z : ℤ) → int_eq y (pos 0) ≡ true → Panics (panic_word op) ≡ divided op signed size x y z
unfolding divided
divided-by_zero op signed size x y z h = rw h refl

pub divided-refused : (op : Operator) (signed : Bool) (size : ℕ) (x y z : ℤ) → holds signed size (int_div x y) ≡ false → Panics (panic_word op) ≡ divided op signed size x y z
unfolding divided
divided-refused op signed size x y z h = rw h (refused (not (int_eq y (pos 0))) _ _)

pub divided_overflow : (op : Operator) (size : ℕ) (x y z : ℤ) → is_width size ≡ true → FitsSigned w128 y → (CanDivide w128 x y → ⊥) → Panics (panic_word op) ≡ divided op true size x y z
divided_overflow op size x y z h fits over =
    elim (cases_bool (int_eq y (pos 0))) [
      | inl zero' ↦ divided-by_zero op true size x y z zero'
      | inr other ↦ divided-refused op true size x y z (unless_true _ (λ k. over (nonzero_from_test y fits other, holds_fits size (int_div x y) (width_below size h) k)))
    ]

pub divided_by_none : (op : Operator) (size x y : ℕ) (z : ℤ) → (0 < y → ⊥) → Panics (panic_word op) ≡ divided op false size (pos x) (pos y) z
divided_by_none op size x y z none = divided-by_zero op false size (pos x) (pos y) z (zero_test y (omega arith))

-- ---- differences of natural numbers

pub difference : (x y : ℕ) → y ≤ x → pos x -ℤ pos y ≡ pos (x - y)
difference x y h = omega (arith, ints)

pub kept_negative : (op : Operator) (size x y : ℕ) → (y ≤ x → ⊥) → Panics (panic_word op) ≡ kept op false size (pos x -ℤ pos y)
kept_negative op size x y below =
    let negative : pos x -ℤ pos y ≡ negsuc (y - x - 1) = omega (arith, ints) in
    kept-refused op false size _ (ap (holds false size) negative ∙ negative_not_held size (y - x - 1))

-- ---- equality

pub same_naturals : (m n : ℕ) → eqb m n ≡ int_eq (pos m) (pos n)
same_naturals m n = grind (arith, nat_tests)

-- the bits of two signed numbers are the same where the numbers are
same_bits : (x y : ℤ) → FitsSigned w128 x → FitsSigned w128 y → eqb (cast_unsigned w128 x) (cast_unsigned w128 y) ≡ int_eq x y
same_bits (pos m) (pos n) f g = same_naturals m n
same_bits (pos m) (negsuc n) f g = ne_eqb m (2 ^ 128 - suc n) (omega (arith, f.sfits, g.sfits))
same_bits (negsuc m) (pos n) f g = ne_eqb (2 ^ 128 - suc m) n (omega (arith, f.sfits, g.sfits))
same_bits (negsuc m) (negsuc n) f g = elim (cases_bool (eqb m n)) [
  | inl same ↦ rw (eqb-true m n same) (grind (arith, nat_tests))
  | inr other ↦ ne_eqb _ _ (omega (arith, f.sfits, g.sfits, eqb-false m n other)) ∙ sym (grind (arith, nat_tests))
]

pub same_signed : (x y m n : ℤ) → mag x < 2 ^ 127 → mag y < 2 ^ 127 → x ≡ m → y ≡ n → eqb (cast_unsigned w128 x) (cast_unsigned w128 y) ≡ int_eq m n
same_signed x y m n f g e h = rw (← e, ← h) (same_bits x y (record { sfits = f }) (record { sfits = g }))
