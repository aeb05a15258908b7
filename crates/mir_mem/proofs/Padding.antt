-- Numbers extended to more bytes.
use Rattle.std.proofs.Common.{◌≡◌, ℕ, zero, suc, ◌+◌, ◌-◌, ◌*◌, ◌^◌, ◌<◌, ◌≤◌, ◌↔◌, Bool, true, false, ltb, inl, inr, List, ◌++◌, length, get_or, take, drop, replicate, All, pos, refl, sym, ◌∙◌, ap, arith, length-append, length-take}
use Rattle.std.proofs.Math.Nat.{mul-le-mul_left}
use Rattle.std.proofs.lemmas.Nat.{pow-add}
use Rattle.std.proofs.lemmas.Bool.{cases_lt}
use Rattle.std.proofs.lemmas.List.{take-append-drop, length-replicate}
use Rattle.std.proofs.lemmas.List.Elements.{All-from_get_or, All-take}
use borrow.Author.Tests.{lt-ltb, le-ltb}
use mir.Val.{Fits}
use mir.Syntax.{w8}
use Rattle.numbers.specs.Bytes.{value_of, signed_reading, number_of}
use Rattle.numbers.proofs.Digits.{value_of-append, value_of_below, next_values}
use Rattle.numbers.proofs.Reading.{value_of-drop, value_of-dropped}
use Rattle.numbers.proofs.Keeping.{values_mono}
use Rattle.numbers.proofs.Negation.{value_in_range}

value_of-zeros : (k : ℕ) → value_of (replicate k 0) ≡ 0
unfolding value_of
value_of-zeros zero = refl
value_of-zeros (suc k) = omega (arith, value_of-zeros k)

value_of-ones : (k : ℕ) → value_of (replicate k 255) + 1 ≡ 256 ^ k
unfolding value_of
value_of-ones zero = refl
value_of-ones (suc k) = omega (arith, value_of-ones k, next_values k)

-- the number is negative exactly if its last byte is above 127
pub top_byte : (bytes : List ℕ) (n : ℕ) → length bytes ≡ suc n → ((i : ℕ) → Fits w8 (get_or bytes i 0)) → (127 < get_or bytes n 0) ↔ (256 ^ length bytes ≤ 2 * value_of bytes)
top_byte bytes n size fits =
    let top : ℕ = get_or bytes n 0 in
    let p : ℕ = 256 ^ n in
    let low_size : length (take n bytes) ≡ n = simp length-take (omega arith) in
    let parts : value_of bytes ≡ value_of (take n bytes) + 256 ^ length (take n bytes) * value_of (drop n bytes) = ap value_of (sym (take-append-drop n bytes)) ∙ value_of-append (take n bytes) (drop n bytes) in
    let parts' : value_of bytes ≡ value_of (take n bytes) + p * value_of (drop n bytes) = rw low_size at parts in
    let high : value_of (drop n bytes) ≡ top = omega (arith, value_of-drop bytes n (omega arith), value_of-dropped bytes (suc n) size) in
    let whole : value_of bytes ≡ value_of (take n bytes) + p * top = rw high at parts' in
    let all : All (λ byte. byte < 256) bytes = All-from_get_or (λ byte. byte < 256) bytes 0 (λ i h. (fits i).fits) in
    let low' = value_of_below (take n bytes) (All-take (λ byte. byte < 256) n bytes all) in
    let low : value_of (take n bytes) < p = rw low_size at low' in
    let next : 256 ^ length bytes ≡ p * 256 = ap (λ m. 256 ^ m) size ∙ next_values n in (
      λ h. let more : p * 128 ≤ p * top = mul-le-mul_left p h in omega arith,
      λ h. elim (cases_lt 127 top) [
        | inl more ↦ more
        | inr less ↦ let less' : p * top ≤ p * 127 = mul-le-mul_left p less in absurd (omega arith)
      ],
    )

-- zeros above a number change nothing
pub padded_with_zeros : (bytes : List ℕ) (k : ℕ) → value_of (bytes ++ replicate k 0) ≡ value_of bytes
padded_with_zeros bytes k = value_of-append bytes (replicate k 0) ∙ ap (λ m. value_of bytes + 256 ^ length bytes * m) (value_of-zeros k) ∙ omega arith

padded_with_ones : (bytes : List ℕ) (k : ℕ) → value_of (bytes ++ replicate k 255) + 256 ^ length bytes ≡ value_of bytes + 256 ^ (length bytes + k)
padded_with_ones bytes k =
    let p : ℕ = 256 ^ length bytes in
    let m : ℕ = value_of (replicate k 255) in
    let values : 256 ^ (length bytes + k) ≡ p * 256 ^ k = pow-add 256 (length bytes) k in
    let more : p * 256 ^ k ≡ p * (m + 1) = ap (λ q. p * q) (sym (value_of-ones k)) in
    let out : p * (m + 1) ≡ p * m + p = omega arith in
    omega (arith, value_of-append bytes (replicate k 255))

length-padded : (bytes : List ℕ) (k byte : ℕ) → length (bytes ++ replicate k byte) ≡ length bytes + k
length-padded bytes k byte = simp (length-append, length-replicate)

pub padded_unsigned : (bytes : List ℕ) (k byte : ℕ) → byte ≡ 0 → number_of false (bytes ++ replicate k byte) ≡ number_of false bytes
unfolding number_of
padded_unsigned bytes k byte e = rw e (ap pos (padded_with_zeros bytes k))

pub padded_signed : (bytes : List ℕ) (k byte : ℕ) → (256 ^ length bytes ≤ 2 * value_of bytes → byte ≡ 255) → (2 * value_of bytes < 256 ^ length bytes → byte ≡ 0) → value_of bytes < 256 ^ length bytes → number_of true (bytes ++ replicate k byte) ≡ number_of true bytes
unfolding number_of signed_reading
padded_signed bytes k byte negative positive below =
    let wider : 256 ^ length bytes ≤ 256 ^ (length bytes + k) = values_mono (length bytes) (length bytes + k) (omega arith) in
    elim (cases_lt (2 * value_of bytes) (256 ^ length bytes)) [
      | inl h ↦
          let a : ltb (2 * value_of bytes) (256 ^ length bytes) ≡ true = lt-ltb _ _ h in
          let b : ltb (2 * value_of bytes) (256 ^ (length bytes + k)) ≡ true = lt-ltb _ _ (omega arith) in
          rw (positive h, length-padded, padded_with_zeros, a, b) refl
      | inr h ↦
          let a : ltb (2 * value_of bytes) (256 ^ length bytes) ≡ false = le-ltb _ _ h in
          let ones = padded_with_ones bytes k in
          let b : ltb (2 * value_of (bytes ++ replicate k 255)) (256 ^ (length bytes + k)) ≡ false = le-ltb _ _ (omega arith) in
          let c : 256 ^ (length bytes + k) - 1 - value_of (bytes ++ replicate k 255) ≡ 256 ^ length bytes - 1 - value_of bytes = omega arith in
          rw (negative h, length-padded, a, b, c) refl
    ]

drop-replicated : (n k byte : ℕ) → drop n (replicate (n + k) byte) ≡ replicate k byte
drop-replicated zero k byte = ap (λ m. replicate m byte) (omega arith)
drop-replicated (suc n) k byte =
    let e : suc n + k ≡ suc (n + k) = omega arith in
    rw e (drop-replicated n k byte)

drop-sixteen : (n byte : ℕ) → n ≤ 16 → drop n (replicate 16 byte) ≡ replicate (16 - n) byte
drop-sixteen n byte h =
    let e : n + (16 - n) ≡ 16 = omega arith in
    ap (λ m. drop n (replicate m byte)) (sym e) ∙ drop-replicated n (16 - n) byte

pub padded_is : (signed : Bool) (bytes copied : List ℕ) (byte : ℕ) → copied ≡ bytes → length bytes ≤ 16 → (signed ≡ true → 256 ^ length bytes ≤ 2 * value_of bytes → byte ≡ 255) → (2 * value_of bytes < 256 ^ length bytes → byte ≡ 0) → (signed ≡ false → byte ≡ 0) → ((i : ℕ) → Fits w8 (get_or bytes i 0)) → number_of signed (copied ++ drop (length bytes) (replicate 16 byte)) ≡ number_of signed bytes
padded_is false bytes copied byte e h negative positive unsigned fits =
    ap (λ m. number_of false (m ++ drop (length bytes) (replicate 16 byte))) e ∙ ap (λ m. number_of false (bytes ++ m)) (drop-sixteen (length bytes) byte h) ∙ padded_unsigned bytes (16 - length bytes) byte (unsigned refl)
padded_is true bytes copied byte e h negative positive unsigned fits =
    ap (λ m. number_of true (m ++ drop (length bytes) (replicate 16 byte))) e ∙ ap (λ m. number_of true (bytes ++ m)) (drop-sixteen (length bytes) byte h) ∙ padded_signed bytes (16 - length bytes) byte (negative refl) positive (value_in_range bytes fits)
