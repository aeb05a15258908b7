-- Entries in order, inserted one after another, stay as they are.
use Rattle.std.proofs.Common.{◌≡◌, List, [], ◌∷◌, ◌++◌, refl, sym, ◌∙◌, ap, subst, append_assoc}
use Rattle.std.specs.BTreeMap.{insert_entry}
use Rattle.std.specs.Cmp.{IsTotalOrder}
use Rattle.std.specs.List.{AllByRecursion}
use Rattle.std.specs.List.Sorted.{IsStrictlySortedBy}
use Rattle.std.specs.Map.{keys_of}
use Rattle.std.specs.Ordering.{ordering_reverse}
use Rattle.std.specs.declared.cmp.Ordering.{Ordering}
use Rattle.std.specs.declared.cmp.Ordering.TheVariants.{Less}

module _ {K V : Type 0} where
  holds_of_key : (P : K → Type 0) (es rest : List (K × V)) (k : K) (v : V) → AllByRecursion P (keys_of (es ++ (k, v) ∷ rest)) → P k
  holds_of_key P [] rest k v h = h.0
  holds_of_key P (e ∷ es) rest k v h = holds_of_key P es rest k v h.1

  -- an entry whose key is above all those before it goes to the end
  pub insert_at_end : {cmp : K → K → Ordering} → IsTotalOrder cmp → (es rest : List (K × V)) (k : K) (v : V)
      → IsStrictlySortedBy cmp (keys_of (es ++ (k, v) ∷ rest)) → insert_entry cmp es k v ≡ es ++ (k, v) ∷ []
  unfolding IsStrictlySortedBy
  insert_at_end total [] rest k v h = refl
  insert_at_end {cmp = cmp} total (e ∷ es) rest k v h =
      let above = total.antisymm k e.0 ∙ ap ordering_reverse (holds_of_key (λ y. cmp e.0 y ≡ Less) es rest k v h.0) in
      rw (above, insert_at_end total es rest k v h.1)

  -- a walk over all entries inserts each into a copy of those before it
  pub copied_further : {cmp : K → K → Ordering} → IsTotalOrder cmp → (all copy left rest grown : List (K × V)) (k key : K) (v value : V)
      → IsStrictlySortedBy cmp (keys_of all) → copy ++ left ≡ all → left ≡ (k, v) ∷ rest → key ≡ k → value ≡ v
      → grown ≡ insert_entry cmp copy key value → grown ++ rest ≡ all
  copied_further {cmp = cmp} total all copy left rest grown k key v value ascends so_far next same_key same_value inserted =
      let whole : copy ++ (k, v) ∷ rest ≡ all = ap (λ l. copy ++ l) (sym next) ∙ so_far in
      let ordered = subst (λ (es : List (K × V)). IsStrictlySortedBy cmp (keys_of es)) (sym whole) ascends in
      let put : insert_entry cmp copy key value ≡ copy ++ (k, v) ∷ [] = rw (same_key, same_value) (insert_at_end total copy rest k v ordered) in
      ap (λ l. l ++ rest) (inserted ∙ put) ∙ append_assoc copy ((k, v) ∷ []) rest ∙ whole
