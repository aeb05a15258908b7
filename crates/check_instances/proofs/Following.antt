-- How lists whose values may be missing compare with lists, up to the index that a loop has reached.
use Rattle.std.proofs.Common.{◌≡◌, ℕ, zero, suc, ◌+◌, ◌<◌, ◌≤◌, true, false, Option, Some, None, List, [], ◌∷◌, length, get_or, map, drop, refl, sym, ◌∙◌, ap, subst, arith, add-one}
use Rattle.std.proofs.lemmas.List.{drop_all}
use Rattle.std.proofs.lemmas.Option.{none-some, same_Some}
use Rattle.std.proofs.Math.Seq.{drop-cons}
use Rattle.std.specs.Cmp.Lexicographic.{slice_cmp}
use Rattle.std.specs.Ordering.{is_ne, ordering_then}
use Rattle.std.specs.declared.cmp.Ordering.{Ordering}
use Rattle.std.specs.declared.cmp.Ordering.TheVariants.{Less, Equal, Greater}
use Rattle.check_instances.specs.Comparisons.{Compares}
use Rattle.check_instances.specs.Instances.{all_there, with_both}

pub then_differs : (o p : Ordering) → is_ne o ≡ true → ordering_then o p ≡ o
then_differs Less p h = refl
then_differs Equal p h = let e : false ≡ true = h in cc
then_differs Greater p h = refl

pub then_ties : (o p : Ordering) → is_ne o ≡ false → ordering_then o p ≡ p
then_ties Less p h = let e : true ≡ false = h in cc
then_ties Equal p h = refl
then_ties Greater p h = let e : true ≡ false = h in cc

-- the first value and the rest, where all are there
split : {B : Type 0} (first : Option B) (rest : Option (List B)) (made : List B) → with_both (λ x xs. x ∷ xs) first rest ≡ Some made → (y : B) × (ys : List B) × (first ≡ Some y) × (rest ≡ Some ys) × (made ≡ y ∷ ys)
split None rest made h = absurd (none-some made h)
split (Some y) None made h = absurd (none-some made h)
split (Some y) (Some ys) made h = (y, ys, refl, refl, sym (same_Some (y ∷ ys) made h))

module _ {A B : Type 0} (f : A → Option B) where
  -- as many are there
  there_length : (xs : List A) (made : List B) → all_there (map f xs) ≡ Some made → length made ≡ length xs
  there_length [] made h = ap length (sym (same_Some [] made h))
  there_length (x ∷ xs) made h =
      let s = split (f x) (all_there (map f xs)) made h in
      ap length s.4 ∙ ap suc (there_length xs s.1 s.3)

  -- the one at a place
  there_at : (xs : List A) (i : ℕ) (made : List B) (d : A) → i < length xs → all_there (map f xs) ≡ Some made → (y : B) × (f (get_or xs i d) ≡ Some y) × (drop i made ≡ y ∷ drop (suc i) made)
  there_at [] i made d below h = absurd (omega arith)
  there_at (x ∷ xs) zero made d below h =
      let s = split (f x) (all_there (map f xs)) made h in
      (s.0, s.2, s.4 ∙ ap (λ l. s.0 ∷ drop 1 l) (sym s.4))
  there_at (x ∷ xs) (suc i) made d below h =
      let s = split (f x) (all_there (map f xs)) made h in
      let t = there_at xs i s.1 d (omega arith) s.3 in
      (t.0, t.1, ap (drop (suc i)) s.4 ∙ t.2 ∙ ap (λ l. t.0 ∷ drop (suc (suc i)) l) (sym s.4))

  module _ (cmp : B → B → Ordering) (xs : List A) (keys : List B) where
    -- up to a place all tie
    abbrev pub Follows : ℕ → Type 0
    Follows i = (i ≤ length xs) × ((made : List B) → all_there (map f xs) ≡ Some made → slice_cmp cmp made keys ≡ slice_cmp cmp (drop i made) (drop i keys))

    pub follows_none : Follows 0
    follows_none = (omega arith, λ made there. refl)

    -- the order at a place decides, where it isn't a tie
    at_place : (i : ℕ) (d : A) (e : B) (r : Ordering) → i < length xs → i < length keys → Compares (f (get_or xs i d)) (λ y. cmp y (get_or keys i e)) r → (made : List B) → all_there (map f xs) ≡ Some made
        → slice_cmp cmp (drop i made) (drop i keys) ≡ ordering_then r (slice_cmp cmp (drop (suc i) made) (drop (suc i) keys))
    at_place i d e r below key_below compares made there =
        let t = there_at xs i made d below there in
        ap (λ l. slice_cmp cmp l (drop i keys)) t.2
        ∙ ap (slice_cmp cmp (t.0 ∷ drop (suc i) made)) (drop-cons keys i e key_below)
        ∙ ap (λ o. ordering_then o (slice_cmp cmp (drop (suc i) made) (drop (suc i) keys))) (sym (compares t.0 t.1))

    pub follows_more : (i : ℕ) (x d : A) (key e : B) (r : Ordering) → i < length xs → x ≡ get_or xs i d → i < length keys → key ≡ get_or keys i e
        → Compares (f x) (λ y. cmp y key) r → is_ne r ≡ false → Follows i → Follows (i + 1)
    follows_more i x d key e r below at key_below key_at compares ties so_far = (
      omega arith,
      λ made there.
          so_far.1 made there
          ∙ at_place i d e r below key_below (rw (sym at, sym key_at) compares) made there
          ∙ then_ties r _ ties
          ∙ ap (λ j. slice_cmp cmp (drop j made) (drop j keys)) (sym (add-one i)),
    )

    pub differs_here : (i : ℕ) (x d : A) (key e : B) (r : Ordering) → i < length xs → x ≡ get_or xs i d → i < length keys → key ≡ get_or keys i e
        → Compares (f x) (λ y. cmp y key) r → is_ne r ≡ true → Follows i → Compares (all_there (map f xs)) (λ made. slice_cmp cmp made keys) r
    differs_here i x d key e r below at key_below key_at compares differs so_far made there =
        sym (so_far.1 made there
        ∙ at_place i d e r below key_below (rw (sym at, sym key_at) compares) made there
        ∙ then_differs r _ differs)

    -- there are no more keys
    pub goes_on : (i : ℕ) (d : A) → i < length xs → length keys ≤ i → Follows i → Compares (all_there (map f xs)) (λ made. slice_cmp cmp made keys) Greater
    goes_on i d below past so_far made there =
        let t = there_at xs i made d below there in
        sym (so_far.1 made there
        ∙ ap (λ l. slice_cmp cmp l (drop i keys)) t.2
        ∙ ap (slice_cmp cmp (t.0 ∷ drop (suc i) made)) (drop_all i keys past))

    at_end : (i : ℕ) → length xs ≤ i → Follows i → (made : List B) → all_there (map f xs) ≡ Some made → slice_cmp cmp made keys ≡ slice_cmp cmp [] (drop i keys)
    at_end i past so_far made there =
        so_far.1 made there ∙ ap (λ l. slice_cmp cmp l (drop i keys)) (drop_all i made (omega (arith, there_length xs made there)))

    -- there are more keys
    pub ends_before : (i : ℕ) → length xs ≤ i → length xs < length keys → Follows i → Compares (all_there (map f xs)) (λ made. slice_cmp cmp made keys) Less
    ends_before i past more so_far made there = none_left keys i (omega (arith, so_far.0)) ∙ sym (at_end i past so_far made there)
      where
        none_left : (ks : List B) (j : ℕ) → j < length ks → Less ≡ slice_cmp cmp [] (drop j ks)
        none_left [] j below = absurd (omega arith)
        none_left (k ∷ ks) zero below = refl
        none_left (k ∷ ks) (suc j) below = none_left ks j (omega arith)

    pub ends_with : (i : ℕ) → length xs ≤ i → length keys ≤ length xs → Follows i → Compares (all_there (map f xs)) (λ made. slice_cmp cmp made keys) Equal
    ends_with i past no_more so_far made there = sym (at_end i past so_far made there ∙ ap (slice_cmp cmp []) (drop_all i keys (omega arith)))

-- the same of the lists that the loop goes over
pub whole_list : {A B : Type 0} (f : A → Option B) (cmp : B → B → Ordering) (xs items : List A) (keys others : List B) (r : Ordering) → items ≡ xs → others ≡ keys
    → Compares (all_there (map f items)) (λ made. slice_cmp cmp made others) r → Compares (all_there (map f xs)) (λ made. slice_cmp cmp made keys) r
whole_list f cmp xs items keys others r same same_keys compares =
    subst (λ l. Compares (all_there (map f l)) (λ made. slice_cmp cmp made keys) r) same (subst (λ k. Compares (all_there (map f items)) (λ made. slice_cmp cmp made k) r) same_keys compares)
