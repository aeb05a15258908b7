-- As many numbers as their bound, all different, are each number below it.
use Rattle.std.proofs.Common.{◌≡◌, ℕ, zero, suc, ◌<◌, ◌≤◌, ◌==◌, cond, ◌⊎◌, inl, inr, ⊎_elim, List, [], ◌∷◌, map, length, slice_get, Option, Some, None, option_map, refl, sym, ap, ◌∙◌, subst, arith}
use Rattle.std.proofs.lemmas.Bool.{cases_eq, eq-eqb, ne_eqb}
use Rattle.std.proofs.lemmas.Option.{slice_get-map}
use lib.ListN.{length-map}

-- no number stands at two places
abbrev pub AreApart : List ℕ → Type 0
AreApart xs = (i j v : ℕ) → slice_get xs i ≡ Some v → slice_get xs j ≡ Some v → i ≡ j

abbrev pub AreBelow : ℕ → List ℕ → Type 0
AreBelow n xs = (i v : ℕ) → slice_get xs i ≡ Some v → v < n

abbrev pub Stands : List ℕ → ℕ → Type 0
Stands xs v = (k : ℕ) × (slice_get xs k ≡ Some v)

-- another number in place of `n`
abbrev instead : ℕ → ℕ → ℕ → ℕ
instead n other v = cond (v == n) other v

instead-same : (n other v : ℕ) → v ≡ n → instead n other v ≡ other
instead-same n other v is = ap (λ test. cond test other v) (eq-eqb v n is)

instead-else : (n other v : ℕ) → (v ≡ n → ⊥) → instead n other v ≡ v
instead-else n other v isnt = ap (λ test. cond test other v) (ne_eqb v n isnt)

-- what a mapped list has at a place comes from what the list has there
come_from : (f : ℕ → ℕ) (xs : List ℕ) (i w : ℕ) → slice_get (map f xs) i ≡ Some w → (v : ℕ) × (slice_get xs i ≡ Some v) × (f v ≡ w)
come_from f xs i w at = inside (slice_get xs i) refl (sym (slice_get-map f xs i) ∙ at)
  where
    inside : (o : Option ℕ) → slice_get xs i ≡ o → option_map f o ≡ Some w → (v : ℕ) × (slice_get xs i ≡ Some v) × (f v ≡ w)
    inside (Some v) there is = (v, there, cc)
    inside None there is = absurd cc

-- what is less than the next number, and not that number, is less than it
less-since : (a b : ℕ) → a < suc b → (a ≡ b → ⊥) → a < b
less-since zero zero less ne = absurd (ne refl)
less-since zero (suc b) less ne = omega arith
less-since (suc a) zero less ne = absurd (omega arith)
less-since (suc a) (suc b) less ne = let lower = less-since a b (omega arith) (λ e. ne (ap suc e)) in omega arith

fits : (n : ℕ) (xs : List ℕ) → AreApart xs → AreBelow n xs → length xs ≤ n
fits n [] apart below = omega arith
fits zero (x ∷ xs) apart below = absurd (omega (arith, below 0 x refl))
fits (suc n) (x ∷ xs) apart below = let shorter = fits n (map (instead n x) xs) apart-instead below-instead in omega (arith, length-map xs (instead n x))
  where
    differs : (i v : ℕ) → slice_get xs i ≡ Some v → v ≡ x → ⊥
    differs i v at is = let same = apart (suc i) 0 v at (ap Some (sym is)) in omega arith

    below-instead : AreBelow n (map (instead n x) xs)
    below-instead i w at =
        let from = come_from (instead n x) xs i w at in
        let v-below = below (suc i) from.0 from.1 in
        let x-below = below 0 x refl in
        ⊎_elim
        (λ is. subst (λ u. u < n) (sym (instead-same n x from.0 is) ∙ from.2) (less-since x n x-below (λ e. differs i from.0 from.1 (is ∙ sym e))))
        (λ isnt. subst (λ u. u < n) (sym (instead-else n x from.0 isnt) ∙ from.2) (less-since from.0 n v-below isnt))
        (cases_eq from.0 n)

    apart-instead : AreApart (map (instead n x) xs)
    apart-instead i j w one other =
        let here = come_from (instead n x) xs i w one in
        let there = come_from (instead n x) xs j w other in
        let meet : here.0 ≡ there.0 → i ≡ j = λ e. let same = apart (suc i) (suc j) here.0 here.1 (there.1 ∙ ap Some (sym e)) in omega arith in
        ⊎_elim
        (λ is. let w-is : x ≡ w = sym (instead-same n x here.0 is) ∙ here.2 in ⊎_elim
        (λ is'. meet (is ∙ sym is'))
        (λ isnt'. absurd (differs j there.0 there.1 (sym (instead-else n x there.0 isnt') ∙ there.2 ∙ sym w-is)))
        (cases_eq there.0 n))
        (λ isnt. let w-is : here.0 ≡ w = sym (instead-else n x here.0 isnt) ∙ here.2 in ⊎_elim
        (λ is'. absurd (differs i here.0 here.1 (w-is ∙ sym there.2 ∙ instead-same n x there.0 is')))
        (λ isnt'. meet (w-is ∙ sym there.2 ∙ instead-else n x there.0 isnt'))
        (cases_eq there.0 n))
        (cases_eq here.0 n)

-- whether a number stands in a list
look : (xs : List ℕ) (v : ℕ) → Stands xs v ⊎ (Stands xs v → ⊥)
look [] v = inr (λ stands. absurd cc)
look (x ∷ xs) v = ⊎_elim
    (λ is. inl (0, ap Some is))
    (λ isnt. ⊎_elim (λ stands. inl (suc stands.0, stands.1)) (λ none. inr (nowhere isnt none)) (look xs v))
    (cases_eq x v)
  where
    nowhere : (x ≡ v → ⊥) → (Stands xs v → ⊥) → Stands (x ∷ xs) v → ⊥
    nowhere isnt none (zero, at) = isnt cc
    nowhere isnt none (suc k, at) = none (k, at)

pub each-stands : (xs : List ℕ) → AreApart xs → AreBelow (length xs) xs → (v : ℕ) → v < length xs → Stands xs v
each-stands xs apart below v less = ⊎_elim (λ stands. stands) (λ none. absurd (let more = fits (length xs) (v ∷ xs) (apart-more none) below-more in omega arith)) (look xs v)
  where
    below-more : AreBelow (length xs) (v ∷ xs)
    below-more zero w at = let same : v ≡ w = cc in omega arith
    below-more (suc i) w at = below i w at

    apart-more : (Stands xs v → ⊥) → AreApart (v ∷ xs)
    apart-more none zero zero w one other = refl
    apart-more none zero (suc j) w one other = absurd (none (j, other ∙ sym one))
    apart-more none (suc i) zero w one other = absurd (none (i, one ∙ sym other))
    apart-more none (suc i) (suc j) w one other = ap suc (apart i j w one other)
