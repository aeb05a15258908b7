-- Reading the entries of a map in a loop.
use Rattle.std.proofs.Common.{◌≡◌, ℕ, suc, ◌+◌, ◌≤◌, ◌<◌, List, [], ◌∷◌, ◌++◌, length, get_or, drop, Option, Some, None, Ok, Err, Bool, true, false, cond, Ordering, Less, Equal, Greater, refl, sym, ap, ◌∙◌, append_assoc, drop-cons, length-drop, arith}
use Rattle.std.proofs.lemmas.List.{append-nil, nil_from_length}
use Rattle.std.specs.BTreeMap.{insert_entry}
use Rattle.std.specs.Cmp.{IsTotalOrder}
use Rattle.std.specs.List.{AllByRecursion}
use Rattle.std.specs.Ordering.{is_lt, ordering_reverse}
use Rattle.serde_json.specs.Data.{Data}
use Rattle.serde_json.specs.View.{view, items_view}
use Rattle.serde_json.specs.declared.value.Value.{Value}
use Rattle.json_kit.specs.declared.misfit.NotAWorld.{NotAWorld}
use Rattle.json_kit.specs.declared.misfit.NotAWorld.TheVariants.{At, NoMemory}
use Rattle.json_kit.specs.Fit.{Fit, ◌>>=◌, Fails, below, item_step}
use Rattle.json_kit.specs.Maps.{rises, entry_after, entries_from}

is_less : (o : Ordering) → is_lt o ≡ true → o ≡ Less
is_less Less e = refl
is_less Equal e = absurd cc
is_less Greater e = absurd cc

module _ {K V : Type 0} (cmp : K → K → Ordering) (reads : Data → Fit (K × V)) where
  -- a key that is greater than the last one is greater than each one before
  pub record Stands (entries : List (K × V)) (last : Option K) : Type 0 where
    pub above : (key : K) → rises cmp last key ≡ true → AllByRecursion (λ (e : K × V). cmp key e.0 ≡ Greater) entries

  pub stands_empty : Stands [] None
  stands_empty = record { above = λ key rising. tt }

  appends : (entries : List (K × V)) (key : K) (value : V) → AllByRecursion (λ (e : K × V). cmp key e.0 ≡ Greater) entries
      → insert_entry cmp entries key value ≡ entries ++ (key, value) ∷ []
  appends [] key value above = refl
  appends (e ∷ es) key value above = rw (above.0, appends es key value above.1) refl

  all_append : (P : K × V → Type 0) (xs : List (K × V)) (x : K × V) → AllByRecursion P xs → P x → AllByRecursion P (xs ++ x ∷ [])
  all_append P [] x all one = (one, tt)
  all_append P (y ∷ ys) x all one = (all.0, all_append P ys x all.1 one)

  rises_on : IsTotalOrder cmp → (last : Option K) (key next : K) → rises cmp last key ≡ true → rises cmp (Some key) next ≡ true → rises cmp last next ≡ true
  rises_on order None key next first second = refl
  rises_on order (Some last) key next first second = rw (order.trans last key next (is_less _ first) (is_less _ second)) refl

  pub inserts : (entries : List (K × V)) (last : Option K) (key : K) (value : V) → Stands entries last → rises cmp last key ≡ true
      → insert_entry cmp entries key value ≡ entries ++ (key, value) ∷ []
  inserts entries last key value stands rising = appends entries key value (stands.above key rising)

  pub stands_on : IsTotalOrder cmp → (entries : List (K × V)) (last : Option K) (key : K) (value : V) → Stands entries last → rises cmp last key ≡ true
      → Stands (entries ++ (key, value) ∷ []) (Some key)
  stands_on order entries last key value stands rising = record {
    above = λ next higher.
        all_append (λ (e : K × V). cmp next e.0 ≡ Greater) entries (key, value)
        (stands.above next (rises_on order last key next rising higher))
        (order.antisymm next key ∙ ap ordering_reverse (is_less (cmp key next) higher));
  }

  abbrev pub with_front : List (K × V) → Fit (List (K × V)) → Fit (List (K × V))
  with_front front rest = rest >>= λ xs. Ok (front ++ xs)

  abbrev pub rest_from : List Value → Option K → ℕ → Fit (List (K × V))
  rest_from vs last i = entries_from cmp reads last i (items_view (drop i vs))

  -- the loop's invariant
  pub record Reading (front : List (K × V)) (vs : List Value) (last : Option K) (i : ℕ) : Type 0 where
    pub whole : with_front front (rest_from vs last i) ≡ entries_from cmp reads None 0 (items_view vs)
    pub stands : Stands front last

  one_more : (front : List (K × V)) (x : K × V) (rest : Fit (List (K × V))) → with_front front (rest >>= λ xs. Ok (x ∷ xs)) ≡ with_front (front ++ x ∷ []) rest
  one_more front x (Ok xs) = ap (λ (ys : List (K × V)). Ok ys) (sym (append_assoc front (x ∷ []) xs))
  one_more front x (Err path) = refl

  unrolled : (vs : List Value) (last : Option K) (i : ℕ) (v : Value) → i < length vs → v ≡ get_or vs i v
      → rest_from vs last i ≡ (below (item_step i) (entry_after cmp reads last (view v)) >>= λ x. rest_from vs (Some x.0) (i + 1) >>= λ xs. Ok (x ∷ xs))
  unfolding entries_from
  unrolled vs last i v lt is =
      let next : suc i ≡ i + 1 = omega arith in
      let split : drop i vs ≡ v ∷ drop (i + 1) vs = drop-cons vs i v lt ∙ ap (λ (n : ℕ). get_or vs i v ∷ drop n vs) next ∙ ap (λ (y : Value). y ∷ drop (i + 1) vs) (sym is) in
      rw split refl

  entry_rises : (last : Option K) (fit : Fit (K × V)) (i : ℕ) (x : K × V)
      → below (item_step i) (fit >>= λ entry. cond (rises cmp last entry.0) (Ok entry) (Err [])) ≡ Ok x → rises cmp last x.0 ≡ true
  entry_rises last (Ok entry) i x e = found (rises cmp last entry.0) refl e
    where
      found : (b : Bool) → rises cmp last entry.0 ≡ b → below (item_step i) (cond b (Ok entry) (Err [])) ≡ Ok x → rises cmp last x.0 ≡ true
      found true is h = let same : entry ≡ x = cc in rw (← same) is
      found false is h = absurd cc
  entry_rises last (Err path) i x e = absurd cc

  pub rises_as_read : (last : Option K) (d : Data) (i : ℕ) (x : K × V) → below (item_step i) (entry_after cmp reads last d) ≡ Ok x → rises cmp last x.0 ≡ true
  unfolding entry_after
  rises_as_read last d i x e = entry_rises last (reads d) i x e

  pub goes_on : IsTotalOrder cmp → (front after : List (K × V)) (vs : List Value) (last : Option K) (i : ℕ) (v : Value) (x : K × V) → i < length vs → v ≡ get_or vs i v
      → below (item_step i) (entry_after cmp reads last (view v)) ≡ Ok x → after ≡ insert_entry cmp front x.0 x.1
      → Reading front vs last i → Reading after vs (Some x.0) (i + 1)
  goes_on order front after vs last i v x lt is fit inserted reading =
      let rising = rises_as_read last (view v) i x fit in
      let grown : after ≡ front ++ x ∷ [] = inserted ∙ inserts front last x.0 x.1 reading.stands rising in
      let one : with_front front (rest_from vs last i) ≡ with_front (front ++ x ∷ []) (rest_from vs (Some x.0) (i + 1)) = rw (unrolled vs last i v lt is, fit) (one_more front x (rest_from vs (Some x.0) (i + 1))) in
      rw grown (record { whole = sym one ∙ reading.whole; stands = stands_on order front last x.0 x.1 reading.stands rising })

  pub ends : (fault : NotAWorld) (front : List (K × V)) (vs : List Value) (last : Option K) (i : ℕ) (v : Value) → i < length vs → v ≡ get_or vs i v
      → Fails fault (below (item_step i) (entry_after cmp reads last (view v))) → Reading front vs last i → Fails fault (entries_from cmp reads None 0 (items_view vs))
  ends (At path) front vs last i v lt is fit reading =
      let one : with_front front (rest_from vs last i) ≡ Err path = rw (unrolled vs last i v lt is, fit) refl in
      sym reading.whole ∙ one
  ends NoMemory front vs last i v lt is fit reading = tt

  pub is_done : (front : List (K × V)) (vs : List Value) (last : Option K) (i : ℕ) → length vs ≤ i → Reading front vs last i → entries_from cmp reads None 0 (items_view vs) ≡ Ok front
  unfolding entries_from
  is_done front vs last i le reading =
      let nothing : drop i vs ≡ [] = nil_from_length (drop i vs) (omega (arith, length-drop i vs)) in
      let one : with_front front (rest_from vs last i) ≡ Ok front = rw nothing (ap (λ (ys : List (K × V)). Ok ys) (append-nil front)) in
      sym reading.whole ∙ one

  pub begins : (vs : List Value) → Reading [] vs None 0
  begins vs = record { whole = same (entries_from cmp reads None 0 (items_view vs)); stands = stands_empty }
    where
      same : (rest : Fit (List (K × V))) → with_front [] rest ≡ rest
      same (Ok xs) = refl
      same (Err path) = refl
