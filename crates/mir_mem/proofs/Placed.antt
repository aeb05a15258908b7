-- Parts that are put into a value one after another.
use Rattle.std.proofs.Common.{◌≡◌, ℕ, zero, suc, ◌+◌, ◌<◌, ◌≤◌, List, [], ◌∷◌, length, drop, get_or, slice_get, Option, Some, None, Result, Ok, Err, refl, sym, ap, ◌∙◌, arith}
use Rattle.std.proofs.lemmas.List.{drop_all}
use Rattle.mir.specs.declared.errors.MirEvalError.{MirEvalError}
use Rattle.mir.specs.Run.{part_outside, placed_parts}
use Rattle.numbers.specs.Aggregates.{with_part}
use Rattle.mir_mem.specs.Construction.{placed_at}

-- what is left of a list from a place on
pub drop-some : {A : Type 0} (xs : List A) (i : ℕ) (x : A) → slice_get xs i ≡ Some x → drop i xs ≡ x ∷ drop (suc i) xs
drop-some [] i x is = absurd cc
drop-some {A} (y ∷ xs) zero x is = let same : y ≡ x = cc in ap (λ (z : A). z ∷ xs) same
drop-some (y ∷ xs) (suc i) x is = drop-some xs i x is

pub drop-none : {A : Type 0} (xs : List A) (i : ℕ) → slice_get xs i ≡ None → drop i xs ≡ []
drop-none [] zero is = refl
drop-none [] (suc i) is = refl
drop-none (y ∷ xs) zero is = absurd cc
drop-none (y ∷ xs) (suc i) is = drop-none xs i is

-- the element at a place
pub slice_get-at : {A : Type 0} (xs : List A) (i : ℕ) (x : A) → i < length xs → x ≡ get_or xs i x → slice_get xs i ≡ Some x
slice_get-at [] i x less is = absurd (omega arith)
slice_get-at (y ∷ xs) zero x less is = ap Some (sym is)
slice_get-at (y ∷ xs) (suc i) x less is = slice_get-at xs i x (omega arith) is

-- the parts behind one that was put, or why that can't be
abbrev Then : (size : ℕ) → (offsets : List ℕ) → (parts : List (List ℕ)) → Result (List ℕ) MirEvalError → Result (List ℕ) MirEvalError
Then size offsets parts result = elim result [ Ok next ↦ placed_parts size offsets parts next | Err e ↦ Err e ]

first : (size offset : ℕ) (offsets : List ℕ) (part : List ℕ) (parts : List (List ℕ)) (bytes : List ℕ) → placed_parts size (offset ∷ offsets) (part ∷ parts) bytes ≡ Then size offsets parts (placed_at size (Some offset) part bytes)
unfolding placed_parts placed_at
first size offset offsets part parts bytes = by (with_part offset part bytes) where
  by : (next : Option (List ℕ)) →
      ◌≡◌ {A = Result (List ℕ) MirEvalError} (elim next [ Some now ↦ placed_parts size offsets parts now | None ↦ Err (part_outside size offset) ])
      (Then size offsets parts (elim next [ Some now ↦ Ok now | None ↦ Err (part_outside size offset) ]))
  by (Some now) = refl
  by None = refl

missing : (size : ℕ) (offsets : List ℕ) (part : List ℕ) (parts : List (List ℕ)) (bytes : List ℕ) → placed_parts size [] (part ∷ parts) bytes ≡ Then size offsets parts (placed_at size None part bytes)
unfolding placed_parts placed_at
missing size offsets part parts bytes = refl

module _ (size : ℕ) (offsets : List ℕ) (parts : List (List ℕ)) (bytes : List ℕ) (i : ℕ) (whole : Result (List ℕ) MirEvalError) (same : placed_parts size (drop i offsets) (drop i parts) bytes ≡ whole) where
  one : (part : List ℕ) → slice_get parts i ≡ Some part → Then size (drop (suc i) offsets) (drop (suc i) parts) (placed_at size (slice_get offsets i) part bytes) ≡ whole
  one part is = by (slice_get offsets i) refl where
    split : (given : List ℕ) → drop i offsets ≡ given → placed_parts size given (part ∷ drop (suc i) parts) bytes ≡ whole
    split given are =
        sym (ap (λ (ps : List (List ℕ)). placed_parts size (drop i offsets) ps bytes) (drop-some parts i part is)
        ∙ ap (λ (os : List ℕ). placed_parts size os (part ∷ drop (suc i) parts) bytes) are)
        ∙ same

    by : (found : Option ℕ) → slice_get offsets i ≡ found → Then size (drop (suc i) offsets) (drop (suc i) parts) (placed_at size found part bytes) ≡ whole
    by (Some offset) there = sym (first size offset (drop (suc i) offsets) part (drop (suc i) parts) bytes) ∙ split (offset ∷ drop (suc i) offsets) (drop-some offsets i offset there)
    by None there = sym (missing size (drop (suc i) offsets) part (drop (suc i) parts) bytes) ∙ split [] (drop-none offsets i there)

  -- one more part was put
  pub placed-next : (part next : List ℕ) → slice_get parts i ≡ Some part → placed_at size (slice_get offsets i) part bytes ≡ Ok next → placed_parts size (drop (i + 1) offsets) (drop (i + 1) parts) next ≡ whole
  placed-next part next is put =
      let more : i + 1 ≡ suc i = omega arith in
      ap (λ (n : ℕ). placed_parts size (drop n offsets) (drop n parts) next) more
      ∙ sym (ap (Then size (drop (suc i) offsets) (drop (suc i) parts)) put)
      ∙ one part is

  -- a part couldn't be put
  pub placed-refused : (part : List ℕ) (e : MirEvalError) → slice_get parts i ≡ Some part → placed_at size (slice_get offsets i) part bytes ≡ Err e → whole ≡ Err e
  placed-refused part e is refused = sym (one part is) ∙ ap (Then size (drop (suc i) offsets) (drop (suc i) parts)) refused

  -- no part is left
  pub placed-last : length parts ≤ i → whole ≡ Ok bytes
  unfolding placed_parts
  placed-last none = sym same ∙ ap (λ (ps : List (List ℕ)). placed_parts size (drop i offsets) ps bytes) (drop_all i parts none)
