-- The numbers that bytes are, by the words that reading them puts together.
use Rattle.std.proofs.Common.{◌≡◌, inl, inr, ℕ, suc, ◌+◌, ◌-◌, ◌*◌, ◌^◌, ◌<◌, true, false, ltb, List, [], ◌∷◌, length, get_or, take, drop, ℤ, negsuc, refl, sym, ◌∙◌, ap, arith, length-take}
use Rattle.std.specs.Int.{w16, w32, w64, cast_signed, from_le_bytes, Width}
use mir.Val.{bits, hbits}
use Rattle.std.proofs.lemmas.List.{take-append-drop, drop_all}
use Rattle.std.proofs.Math.Seq.{drop-cons}
use Rattle.std.proofs.lemmas.Bool.{cases_lt}
use borrow.Author.Tests.{lt-ltb, le-ltb}
use Rattle.numbers.specs.Bytes.{value_of, signed_reading, number_of}
use Rattle.numbers.proofs.Digits.{value_of-append}

value_of-cons : (byte : ℕ) (bytes : List ℕ) → value_of (byte ∷ bytes) ≡ byte + 256 * value_of bytes
unfolding value_of
value_of-cons byte bytes = refl

value_of-nil : value_of [] ≡ 0
unfolding value_of
value_of-nil = refl

pub value_of-drop : (bytes : List ℕ) (i : ℕ) → i < length bytes → value_of (drop i bytes) ≡ get_or bytes i 0 + 256 * value_of (drop (suc i) bytes)
value_of-drop bytes i h = ap value_of (drop-cons bytes i 0 h) ∙ value_of-cons _ _

pub value_of-dropped : (bytes : List ℕ) (n : ℕ) → length bytes ≡ n → value_of (drop n bytes) ≡ 0
value_of-dropped bytes n h = ap value_of (drop_all n bytes (omega arith)) ∙ value_of-nil

pub word2_is : (bytes : List ℕ) → length bytes ≡ 2 → from_le_bytes w16 (get_or bytes 0 0 ∷ get_or bytes 1 0 ∷ []) ≡ value_of bytes
word2_is bytes h = omega (arith, value_of-drop bytes 0 (omega arith), value_of-drop bytes 1 (omega arith), value_of-dropped bytes 2 h)

pub word4_is : (bytes : List ℕ) → length bytes ≡ 4 → from_le_bytes w32 (get_or bytes 0 0 ∷ get_or bytes 1 0 ∷ get_or bytes 2 0 ∷ get_or bytes 3 0 ∷ []) ≡ value_of bytes
word4_is bytes h =
    omega (arith, value_of-drop bytes 0 (omega arith), value_of-drop bytes 1 (omega arith), value_of-drop bytes 2 (omega arith), value_of-drop bytes 3 (omega arith), value_of-dropped bytes 4 h)

pub word8_is : (bytes : List ℕ) → length bytes ≡ 8 → from_le_bytes w64 (get_or bytes 0 0 ∷ get_or bytes 1 0 ∷ get_or bytes 2 0 ∷ get_or bytes 3 0 ∷ get_or bytes 4 0 ∷ get_or bytes 5 0 ∷ get_or bytes 6 0 ∷ get_or bytes 7 0 ∷ []) ≡ value_of bytes
word8_is bytes h =
    omega (arith, value_of-drop bytes 0 (omega arith), value_of-drop bytes 1 (omega arith), value_of-drop bytes 2 (omega arith), value_of-drop bytes 3 (omega arith), value_of-drop bytes 4 (omega arith), value_of-drop bytes 5 (omega arith), value_of-drop bytes 6 (omega arith), value_of-drop bytes 7 (omega arith), value_of-dropped bytes 8 h)

pub word16_is : (bytes : List ℕ) → length bytes ≡ 16 → value_of (drop 8 bytes) * 2 ^ 64 + value_of (take 8 bytes) ≡ value_of bytes
word16_is bytes h =
    let parts : value_of bytes ≡ value_of (take 8 bytes) + 256 ^ length (take 8 bytes) * value_of (drop 8 bytes) = ap value_of (sym (take-append-drop 8 bytes)) ∙ value_of-append (take 8 bytes) (drop 8 bytes) in
    let size : length (take 8 bytes) ≡ 8 = simp length-take (omega arith) in
    let parts' = rw size at parts in
    omega (arith, parts')

-- a word's signed reading is the two's complement of its bits
signed_reading_is : (w : Width) (size n : ℕ) → 256 ^ size ≡ 2 ^ bits w → 2 ^ bits w ≡ 2 * 2 ^ hbits w → cast_signed w n ≡ signed_reading size n
unfolding signed_reading
signed_reading_is w size n e f =
    elim (cases_lt n (2 ^ hbits w)) [
      | inl h ↦
          let a : ltb n (2 ^ hbits w) ≡ true = lt-ltb _ _ h in
          let b : ltb (2 * n) (256 ^ size) ≡ true = lt-ltb _ _ (omega arith) in
          rw (a, b) refl
      | inr h ↦
          let a : ltb n (2 ^ hbits w) ≡ false = le-ltb _ _ h in
          let b : ltb (2 * n) (256 ^ size) ≡ false = le-ltb _ _ (omega arith) in
          let c : 2 ^ bits w - suc n ≡ 256 ^ size - 1 - n = omega arith in
          rw (a, b) (ap negsuc c)
    ]

-- what a word of the width is as a signed number
pub signed_number : (w : Width) (size n : ℕ) (z t : ℤ) (bytes : List ℕ) → t ≡ z → z ≡ cast_signed w n → n ≡ value_of bytes → length bytes ≡ size → 256 ^ size ≡ 2 ^ bits w → 2 ^ bits w ≡ 2 * 2 ^ hbits w → t ≡ number_of true bytes
unfolding number_of
signed_number w size n z t bytes same e f g h k =
    same ∙ e ∙ signed_reading_is w size n h k ∙ ap (signed_reading size) f ∙ ap (λ m. signed_reading m (value_of bytes)) (sym g)

pub word1_is : (bytes : List ℕ) → length bytes ≡ 1 → get_or bytes 0 0 ≡ value_of bytes
word1_is bytes h = omega (arith, value_of-drop bytes 0 (omega arith), value_of-dropped bytes 1 h)
