-- Bytes again and again.
use Rattle.std.proofs.Common.{◌≡◌, ℕ, zero, suc, ◌+◌, ◌-◌, ◌*◌, ◌<◌, List, [], ◌∷◌, ◌++◌, length, refl, sym, ap, ◌∙◌, arith, length-append}
use Rattle.numbers.specs.Aggregates.{repeated}

-- no bytes
pub repeated-nil : (count : ℕ) → repeated count [] ≡ []
unfolding repeated
repeated-nil zero = refl
repeated-nil (suc count) = repeated-nil count

pub repeated-empty : (count : ℕ) (bytes : List ℕ) → length bytes ≡ 0 → repeated count bytes ≡ []
repeated-empty count [] is = repeated-nil count
repeated-empty count (byte ∷ bytes) is = absurd (omega (arith, is))

pub repeated-none : (bytes : List ℕ) → repeated 0 bytes ≡ []
unfolding repeated
repeated-none bytes = refl

-- once, and as often as is left
pub repeated-more : (count : ℕ) (bytes : List ℕ) → 0 < count → repeated count bytes ≡ bytes ++ repeated (count - 1) bytes
unfolding repeated
repeated-more zero bytes some = absurd (omega arith)
repeated-more (suc count) bytes some = let one : count ≡ suc count - 1 = omega arith in ap (λ (n : ℕ). bytes ++ repeated n bytes) one

once-more : (count size : ℕ) → suc count * size ≡ size + count * size
once-more count size = grind arith

-- how many bytes there are
pub length-repeated : (count : ℕ) (bytes : List ℕ) → length (repeated count bytes) ≡ count * length bytes
unfolding repeated
length-repeated zero bytes = omega arith
length-repeated (suc count) bytes =
    length-append bytes (repeated count bytes) ∙ ap (λ (n : ℕ). length bytes + n) (length-repeated count bytes) ∙ sym (once-more count (length bytes))
