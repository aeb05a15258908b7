-- Reading pairs of hexadecimal digits in a loop.
use Rattle.std.proofs.Common.{◌≡◌, ℕ, suc, ◌+◌, ◌*◌, ◌/◌, ◌%◌, ◌≤◌, ◌<◌, List, [], ◌∷◌, ◌++◌, length, get_or, drop, Option, Some, None, option_map, refl, sym, ap, ◌∙◌, append_assoc, drop-cons, length-drop, arith}
use Rattle.std.specs.Prelude.{option_and_then}
use Rattle.std.proofs.lemmas.List.{append-nil, nil_from_length}
use Rattle.json_kit.specs.declared.misfit.NotAWorld.{NotAWorld}
use Rattle.json_kit.specs.declared.misfit.NotAWorld.TheVariants.{At, NoMemory}
use Rattle.json_kit.specs.Fit.{Fails, IsHere, found}
use Rattle.json_kit.specs.Hex.{hex_byte, hex_bytes}

pub misfits : (fault : NotAWorld) (o : Option (List ℕ)) → IsHere fault → o ≡ None → Fails fault (found o)
misfits (At path) o here none = rw (here, none) refl
misfits NoMemory o here none = tt

nothing_after : (o : Option ℕ) (rest : Option (List ℕ)) → rest ≡ None → option_and_then (λ byte. option_map (λ bytes. byte ∷ bytes) rest) o ≡ None
nothing_after None rest none = refl
nothing_after (Some x) rest none = rw none refl

pub odd : (ds : List ℕ) → (length ds % 2 ≡ 0 → ⊥) → hex_bytes ds ≡ None
unfolding hex_bytes
odd [] other = absurd (other refl)
odd (c ∷ []) other = refl
odd (high ∷ low ∷ rest) other = nothing_after (hex_byte high low) (hex_bytes rest) (odd rest (λ even. other (omega (arith, even))))

-- the bytes that were read so far, followed by those of the digits that are left
abbrev pub with_front : List ℕ → Option (List ℕ) → Option (List ℕ)
with_front front rest = option_map (λ bytes. front ++ bytes) rest

abbrev pub rest_from : List ℕ → ℕ → Option (List ℕ)
rest_from ds i = hex_bytes (drop (2 * i) ds)

one_more : (front : List ℕ) (x : ℕ) (rest : Option (List ℕ)) → with_front front (option_map (λ bytes. x ∷ bytes) rest) ≡ with_front (front ++ x ∷ []) rest
one_more front x (Some xs) = ap (λ (ys : List ℕ). Some ys) (sym (append_assoc front (x ∷ []) xs))
one_more front x None = refl

unrolled : (ds : List ℕ) (i : ℕ) → i < length ds / 2
    → rest_from ds i ≡ option_and_then (λ byte. option_map (λ bytes. byte ∷ bytes) (rest_from ds (i + 1))) (hex_byte (get_or ds (2 * i) 0) (get_or ds (2 * i + 1) 0))
unfolding hex_bytes
unrolled ds i lt =
    let next : suc (2 * i) ≡ 2 * i + 1 = omega arith in
    let after : suc (suc (2 * i)) ≡ 2 * (i + 1) = omega arith in
    let second : drop (suc (2 * i)) ds ≡ get_or ds (2 * i + 1) 0 ∷ drop (2 * (i + 1)) ds =
    drop-cons ds (suc (2 * i)) 0 (omega arith) ∙ ap (λ (n : ℕ). get_or ds n 0 ∷ drop (suc (suc (2 * i))) ds) next ∙ ap (λ (n : ℕ). get_or ds (2 * i + 1) 0 ∷ drop n ds) after in
    let split : drop (2 * i) ds ≡ get_or ds (2 * i) 0 ∷ get_or ds (2 * i + 1) 0 ∷ drop (2 * (i + 1)) ds =
    drop-cons ds (2 * i) 0 (omega arith) ∙ ap (λ (rest : List ℕ). get_or ds (2 * i) 0 ∷ rest) second in
    rw split refl

pub goes_on : (front ds : List ℕ) (i x : ℕ) (total : Option (List ℕ)) → i < length ds / 2 → Some x ≡ hex_byte (get_or ds (2 * i) 0) (get_or ds (2 * i + 1) 0)
    → with_front front (rest_from ds i) ≡ total → with_front (front ++ x ∷ []) (rest_from ds (i + 1)) ≡ total
goes_on front ds i x total lt is so_far =
    let one : with_front front (rest_from ds i) ≡ with_front (front ++ x ∷ []) (rest_from ds (i + 1)) = rw (unrolled ds i lt, ← is) (one_more front x (rest_from ds (i + 1))) in
    sym one ∙ so_far

pub ends : (front ds : List ℕ) (i : ℕ) (total : Option (List ℕ)) → i < length ds / 2 → None ≡ hex_byte (get_or ds (2 * i) 0) (get_or ds (2 * i + 1) 0)
    → with_front front (rest_from ds i) ≡ total → total ≡ None
ends front ds i total lt is so_far =
    let one : with_front front (rest_from ds i) ≡ None = rw (unrolled ds i lt, ← is) refl in
    sym so_far ∙ one

pub is_done : (front ds : List ℕ) (i : ℕ) (total : Option (List ℕ)) → length ds % 2 ≡ 0 → length ds / 2 ≤ i → with_front front (rest_from ds i) ≡ total → total ≡ Some front
unfolding hex_bytes
is_done front ds i total even le so_far =
    let nothing : drop (2 * i) ds ≡ [] = nil_from_length (drop (2 * i) ds) (omega (arith, length-drop (2 * i) ds)) in
    let one : with_front front (rest_from ds i) ≡ Some front = rw nothing (ap (λ (ys : List ℕ). Some ys) (append-nil front)) in
    sym so_far ∙ one
