-- Reading the items of an array in a loop.
use Rattle.std.proofs.Common.{◌≡◌, ℕ, suc, ◌+◌, ◌≤◌, ◌<◌, List, [], ◌∷◌, ◌++◌, length, get_or, drop, Some, None, Ok, Err, refl, sym, ap, ◌∙◌, append_assoc, drop-cons, length-drop, arith}
use Rattle.std.proofs.lemmas.List.{append-nil, nil_from_length}
use Rattle.serde_json.specs.Data.{Data}
use Rattle.serde_json.specs.View.{view, items_view}
use Rattle.serde_json.specs.declared.value.Value.{Value}
use Rattle.json_kit.specs.declared.misfit.NotAWorld.{NotAWorld}
use Rattle.json_kit.specs.declared.misfit.NotAWorld.TheVariants.{At, NoMemory}
use Rattle.json_kit.specs.Fit.{Fit, ◌>>=◌, Fails, below, item_step}
use Rattle.json_kit.specs.Parts.{items_from, two_items, three_items}

pub two_some : (vs : List Value) (a b : Value) → length vs ≡ 2 → a ≡ get_or vs 0 a → b ≡ get_or vs 1 b → two_items (items_view vs) ≡ Some (view a, view b)
two_some [] a b len p q = absurd (omega (arith, len))
two_some (x ∷ []) a b len p q = absurd (omega (arith, len))
two_some (x ∷ y ∷ []) a b len p q = rw (p, q) refl
two_some (x ∷ y ∷ z ∷ vs) a b len p q = absurd (omega (arith, len))

pub two_none : (vs : List Value) → (length vs ≡ 2 → ⊥) → two_items (items_view vs) ≡ None
two_none [] other = refl
two_none (x ∷ []) other = refl
two_none (x ∷ y ∷ []) other = absurd (other refl)
two_none (x ∷ y ∷ z ∷ vs) other = refl

pub three_some : (vs : List Value) (a b c : Value) → length vs ≡ 3 → a ≡ get_or vs 0 a → b ≡ get_or vs 1 b → c ≡ get_or vs 2 c → three_items (items_view vs) ≡ Some (view a, view b, view c)
three_some [] a b c len p q r = absurd (omega (arith, len))
three_some (x ∷ []) a b c len p q r = absurd (omega (arith, len))
three_some (x ∷ y ∷ []) a b c len p q r = absurd (omega (arith, len))
three_some (x ∷ y ∷ z ∷ []) a b c len p q r = rw (p, q, r) refl
three_some (x ∷ y ∷ z ∷ w ∷ vs) a b c len p q r = absurd (omega (arith, len))

pub three_none : (vs : List Value) → (length vs ≡ 3 → ⊥) → three_items (items_view vs) ≡ None
three_none [] other = refl
three_none (x ∷ []) other = refl
three_none (x ∷ y ∷ []) other = refl
three_none (x ∷ y ∷ z ∷ []) other = absurd (other refl)
three_none (x ∷ y ∷ z ∷ w ∷ vs) other = refl

module _ {A : Type 0} (reads : Data → Fit A) where
  -- the values that were read so far, followed by those of the items that are left
  abbrev pub with_front : List A → Fit (List A) → Fit (List A)
  with_front front rest = rest >>= λ xs. Ok (front ++ xs)

  abbrev pub rest_from : List Value → ℕ → Fit (List A)
  rest_from vs i = items_from reads i (items_view (drop i vs))

  one_more : (front : List A) (x : A) (rest : Fit (List A)) → with_front front (rest >>= λ xs. Ok (x ∷ xs)) ≡ with_front (front ++ x ∷ []) rest
  one_more front x (Ok xs) = ap (λ (ys : List A). Ok ys) (sym (append_assoc front (x ∷ []) xs))
  one_more front x (Err path) = refl

  unrolled : (vs : List Value) (i : ℕ) (v : Value) → i < length vs → v ≡ get_or vs i v
      → rest_from vs i ≡ (below (item_step i) (reads (view v)) >>= λ x. rest_from vs (i + 1) >>= λ xs. Ok (x ∷ xs))
  unfolding items_from
  unrolled vs i v lt is =
      let next : suc i ≡ i + 1 = omega arith in
      let split : drop i vs ≡ v ∷ drop (i + 1) vs = drop-cons vs i v lt ∙ ap (λ (n : ℕ). get_or vs i v ∷ drop n vs) next ∙ ap (λ (y : Value). y ∷ drop (i + 1) vs) (sym is) in
      rw split refl

  pub goes_on : (front : List A) (vs : List Value) (i : ℕ) (v : Value) (x : A) (total : Fit (List A)) → i < length vs → v ≡ get_or vs i v
      → below (item_step i) (reads (view v)) ≡ Ok x → with_front front (rest_from vs i) ≡ total → with_front (front ++ x ∷ []) (rest_from vs (i + 1)) ≡ total
  goes_on front vs i v x total lt is fit so_far =
      let one : with_front front (rest_from vs i) ≡ with_front (front ++ x ∷ []) (rest_from vs (i + 1)) = rw (unrolled vs i v lt is, fit) (one_more front x (rest_from vs (i + 1))) in
      sym one ∙ so_far

  pub ends : (fault : NotAWorld) (front : List A) (vs : List Value) (i : ℕ) (v : Value) (total : Fit (List A)) → i < length vs → v ≡ get_or vs i v
      → Fails fault (below (item_step i) (reads (view v))) → with_front front (rest_from vs i) ≡ total → Fails fault total
  ends (At path) front vs i v total lt is fit so_far =
      let one : with_front front (rest_from vs i) ≡ Err path = rw (unrolled vs i v lt is, fit) refl in
      sym so_far ∙ one
  ends NoMemory front vs i v total lt is fit so_far = tt

  pub is_done : (front : List A) (vs : List Value) (i : ℕ) (total : Fit (List A)) → length vs ≤ i → with_front front (rest_from vs i) ≡ total → total ≡ Ok front
  unfolding items_from
  is_done front vs i total le so_far =
      let nothing : drop i vs ≡ [] = nil_from_length (drop i vs) (omega (arith, length-drop i vs)) in
      let one : with_front front (rest_from vs i) ≡ Ok front = rw nothing (ap (λ (ys : List A). Ok ys) (append-nil front)) in
      sym so_far ∙ one
