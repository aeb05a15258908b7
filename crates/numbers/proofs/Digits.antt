-- Lemmas on the bytes of numbers.
use Rattle.std.proofs.Common.{◌≡◌, ℕ, zero, suc, ◌+◌, ◌-◌, ◌*◌, ◌/◌, ◌%◌, ◌^◌, ◌<◌, ◌≤◌, Bool, true, false, ltb, List, [], ◌∷◌, ◌++◌, length, take, All, ℤ, pos, negsuc, refl, ◌∙◌, ap, arith}
use Rattle.std.proofs.Math.Nat.{pow-suc, one-le-pow, mod-eq_of_lt, mul_comm, mul_assoc}
use Rattle.std.proofs.lemmas.List.Elements.{All-nil, All-cons, All-head, All-tail}
use Rattle.std.proofs.lemmas.Bool.{false≢true}
use borrow.Author.Tests.{ltb-true, leb-true, le-ltb}
use Rattle.std.proofs.Math.Arith.{mod-mul}
use Rattle.std.proofs.lemmas.Nat.{mod-mul-add, div-mul-add, mod_below}
use Rattle.numbers.specs.Bytes.{low_digits, residue, low_bytes, value_of, signed_reading, number_of, holds}

pub some_values : (size : ℕ) → 0 < 256 ^ size
some_values size = one-le-pow size 256 (omega arith)

pub next_values : (size : ℕ) → 256 ^ suc size ≡ 256 ^ size * 256
next_values size = pow-suc 256 size

pub length-low_digits : (size n : ℕ) → length (low_digits size n) ≡ size
unfolding low_digits
length-low_digits zero n = refl
length-low_digits (suc size) n = ap suc (length-low_digits size (n / 256))

pub low_digits_are_bytes : (size n : ℕ) → All (λ byte. byte < 256) (low_digits size n)
unfolding low_digits
low_digits_are_bytes zero n = All-nil (λ byte. byte < 256)
low_digits_are_bytes (suc size) n = All-cons (λ byte. byte < 256) _ _ (mod_below n 256 (omega arith)) (low_digits_are_bytes size (n / 256))

-- the bytes of a number below the count of their values
split_mod : (size n : ℕ) → n % 256 ^ suc size ≡ (n / 256 % 256 ^ size) * 256 + n % 256
split_mod size n = rw next_values (mod-mul n (some_values size) (omega arith))

low_of_mod : (size n : ℕ) → n % 256 ^ suc size % 256 ≡ n % 256
low_of_mod size n = ap (λ m. m % 256) (split_mod size n) ∙ mod-mul-add (n / 256 % 256 ^ size) 256 (n % 256) (mod_below n 256 (omega arith))

high_of_mod : (size n : ℕ) → n % 256 ^ suc size / 256 ≡ n / 256 % 256 ^ size
high_of_mod size n = ap (λ m. m / 256) (split_mod size n) ∙ div-mul-add (n / 256 % 256 ^ size) 256 (n % 256) (mod_below n 256 (omega arith))

pub low_digits-mod : (size n : ℕ) → low_digits size (n % 256 ^ size) ≡ low_digits size n
unfolding low_digits
low_digits-mod zero n = refl
low_digits-mod (suc size) n =
    let low : n % 256 ^ suc size % 256 ≡ n % 256 = low_of_mod size n in
    let high : low_digits size (n % 256 ^ suc size / 256) ≡ low_digits size (n / 256) = ap (low_digits size) (high_of_mod size n) ∙ low_digits-mod size (n / 256) in
    cc

pub value_of-low_digits : (size n : ℕ) → value_of (low_digits size n) ≡ n % 256 ^ size
unfolding low_digits value_of
value_of-low_digits zero n = omega arith
value_of-low_digits (suc size) n = omega (arith, value_of-low_digits size (n / 256), split_mod size n)

-- a given count of more bytes
pub take-low_digits : (size more n : ℕ) → take size (low_digits (size + more) n) ≡ low_digits size n
unfolding low_digits
take-low_digits zero more n = refl
take-low_digits (suc size) more n =
    let e : suc size + more ≡ suc (size + more) = omega arith in
    rw e (ap (λ r. n % 256 ∷ r) (take-low_digits size more (n / 256)))

-- bytes that are bytes are below the count of their values
pub value_of_below : (bytes : List ℕ) → All (λ byte. byte < 256) bytes → value_of bytes < 256 ^ length bytes
unfolding value_of
value_of_below [] h = omega arith
value_of_below (byte ∷ bytes) h =
    let e : byte < 256 = All-head (λ b. b < 256) byte bytes h in
    omega (arith, value_of_below bytes (All-tail (λ b. b < 256) byte bytes h), next_values (length bytes))

times_out : (byte low p high : ℕ) → byte + 256 * (low + p * high) ≡ byte + 256 * low + p * 256 * high
times_out byte low p high =
    let a : 256 * (low + p * high) ≡ 256 * low + 256 * (p * high) = omega arith in
    let b : p * 256 * high ≡ 256 * (p * high) = ap (λ x. x * high) (mul_comm p 256) ∙ mul_assoc 256 p high in
    omega arith

product_step : (byte whole low p q high : ℕ) → whole ≡ low + p * high → q ≡ p * 256 → byte + 256 * whole ≡ byte + 256 * low + q * high
product_step byte whole low p q high e f = rw (e, f) (times_out byte low p high)

pub value_of-append : (low high : List ℕ) → value_of (low ++ high) ≡ value_of low + 256 ^ length low * value_of high
unfolding value_of
value_of-append [] high = omega arith
value_of-append (byte ∷ low) high =
    product_step byte (value_of (low ++ high)) (value_of low) (256 ^ length low) (256 ^ suc (length low)) (value_of high) (value_of-append low high) (next_values (length low))

pub residue_below : (size : ℕ) (z : ℤ) → residue size z < 256 ^ size
unfolding residue
residue_below size (pos n) = mod_below n _ (some_values size)
residue_below size (negsuc n) = omega (arith, some_values size)

pub value_of-low_bytes : (size : ℕ) (z : ℤ) → value_of (low_bytes size z) ≡ residue size z
unfolding low_bytes
value_of-low_bytes size z = value_of-low_digits size (residue size z) ∙ mod-eq_of_lt (residue_below size z)

pub length-low_bytes : (size : ℕ) (z : ℤ) → length (low_bytes size z) ≡ size
unfolding low_bytes
length-low_bytes size z = length-low_digits size (residue size z)

pub low_bytes_are_bytes : (size : ℕ) (z : ℤ) → All (λ byte. byte < 256) (low_bytes size z)
unfolding low_bytes
low_bytes_are_bytes size z = low_digits_are_bytes size (residue size z)

-- the number of the residue's reading, where the type holds the number
pub signed_reading-residue : (size : ℕ) (z : ℤ) → holds true size z ≡ true → signed_reading size (residue size z) ≡ z
unfolding holds signed_reading residue
signed_reading-residue size (pos n) h =
    let below : 2 * n < 256 ^ size = ltb-true (2 * n) (256 ^ size) h in
    let whole : n % 256 ^ size ≡ n = mod-eq_of_lt (omega arith) in
    rw (whole, h)
signed_reading-residue size (negsuc n) h =
    let below : 2 * (n + 1) ≤ 256 ^ size = leb-true (2 * (n + 1)) (256 ^ size) h in
    let whole : n % 256 ^ size ≡ n = mod-eq_of_lt (omega arith) in
    let upper : ltb (2 * (256 ^ size - 1 - n)) (256 ^ size) ≡ false = le-ltb _ _ (omega arith) in
    let back : 256 ^ size - 1 - (256 ^ size - 1 - n) ≡ n = omega arith in
    rw (whole, upper, back)

pub number_of-low_bytes : (signed : Bool) (size : ℕ) (z : ℤ) → holds signed size z ≡ true → number_of signed (low_bytes size z) ≡ z
unfolding number_of holds residue
number_of-low_bytes false size (pos n) h = ap pos (value_of-low_bytes size (pos n) ∙ mod-eq_of_lt (ltb-true n (256 ^ size) h))
number_of-low_bytes false size (negsuc n) h = absurd (false≢true h)
number_of-low_bytes true size z h = rw (length-low_bytes, value_of-low_bytes) (signed_reading-residue size z h)
