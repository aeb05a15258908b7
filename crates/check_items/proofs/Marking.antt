-- A walk over the enums' lists marks the variants that stand at a place other than their row's, and a variant's mark and place tell whether it is listed right.
use Rattle.std.proofs.Common.{◌≡◌, ℕ, ◌+◌, ◌<◌, ◌≤◌, ◌⊎◌, Bool, true, false, inl, inr, List, length, get_or, set, Option, Some, None, slice_get, IfSome, refl, sym, ◌∙◌, ap, subst, arith, below_more}
use Rattle.std.proofs.lemmas.Bool.{cases_eq, cases_lt}
use Rattle.std.proofs.lemmas.List.{get_or-set_other, get_or-set_same}
use Rattle.std.proofs.lemmas.Option.{slice_get_past, slice_get_within}
use Rattle.std.specs.Option.{option_and_then, option_map}
use Rattle.types.specs.declared.ids.EnumVariantId.{EnumVariantId}
use Rattle.world.specs.declared.database.HirDatabase.{HirDatabase}
use Rattle.world.specs.declared.items.EnumRow.{EnumRow}
use Rattle.world.specs.declared.items.VariantRow.{VariantRow}
use Rattle.check_items.specs.Agree.{IsListedRight, IsRowListedRight, listed_at}

pub there : {X : Type 0} (fact : X → Type 0) (found : Option X) → ((x : X) → found ≡ Some x → fact x) → IfSome found fact
there fact None h = tt
there fact (Some x) h = h x refl

pub of_there : {X : Type 0} (fact : X → Type 0) (found : Option X) (x : X) → found ≡ Some x → IfSome found fact → fact x
of_there fact None x at h = cc
of_there fact (Some y) x at h = let e : y ≡ x = cc in subst fact e h

none_there : {X : Type 0} (fact : X → Type 0) (found : Option X) → found ≡ None → IfSome found fact
none_there fact None e = tt
none_there fact (Some x) e = cc

-- variant `v`, if there is one, has enum `e` and index `i` in its row
abbrev pub HasPlace : HirDatabase → ℕ → ℕ → ℕ → Type 0
HasPlace world v e i = IfSome (slice_get world.variants v) (λ row. (e ≡ row.parent.0) × (i ≡ row.index))

-- a marked variant isn't listed right, and an unmarked one stands at no place before index `n` of enum `last`'s list but its row's
pub record AreMarks (world : HirDatabase) (last n : ℕ) (marks : List Bool) : Type 0 where
  pub wrong : (v : ℕ) → get_or marks v false ≡ true → IsRowListedRight world v → ⊥
  pub own : (v e i : ℕ) → get_or marks v false ≡ false → e ≤ last → (e ≡ last → i < n) → listed_at world e i ≡ Some v → HasPlace world v e i

module _ (world : HirDatabase) where
  -- what stands in an enum's list
  pub listed_in : (e i : ℕ) (row : EnumRow) (id : EnumVariantId) → slice_get world.enums e ≡ Some row → slice_get row.variants i ≡ Some id → listed_at world e i ≡ Some id.0
  listed_in e i row id at_row at =
      ap (option_and_then (λ (r : EnumRow). option_map (λ (x : EnumVariantId). x.0) (slice_get r.variants i))) at_row ∙ ap (option_map (λ (x : EnumVariantId). x.0)) at

  in_list : (found : Option EnumVariantId) (v : ℕ) → option_map (λ (id : EnumVariantId). id.0) found ≡ Some v → (id : EnumVariantId) × (found ≡ Some id)
  in_list None v h = cc
  in_list (Some id) v h = (id, refl)

  in_enum : (e i v : ℕ) (found : Option EnumRow) → slice_get world.enums e ≡ found → option_and_then (λ (r : EnumRow). option_map (λ (x : EnumVariantId). x.0) (slice_get r.variants i)) found ≡ Some v → (row : EnumRow) × (slice_get world.enums e ≡ Some row) × (i < length row.variants)
  in_enum e i v None at h = cc
  in_enum e i v (Some row) at h = let id = in_list (slice_get row.variants i) v h in (row, at, slice_get_within row.variants i id.0 id.1)

  -- a place with a variant is in an enum's list
  listed_within : (e i v : ℕ) → listed_at world e i ≡ Some v → (row : EnumRow) × (slice_get world.enums e ≡ Some row) × (i < length row.variants)
  listed_within e i v h = in_enum e i v (slice_get world.enums e) refl h

  -- at another place than its row's a variant isn't listed right
  misplaced_wrong : (v e i : ℕ) → listed_at world e i ≡ Some v → (HasPlace world v e i → ⊥) → IsRowListedRight world v → ⊥
  misplaced_wrong v e i listed elsewhere right =
      elsewhere (there _ (slice_get world.variants v) (λ row at. (of_there (IsListedRight world v) (slice_get world.variants v) row at right e i).0 listed))

  pub listed_right : (v : ℕ) (row : VariantRow) → slice_get world.variants v ≡ Some row → listed_at world row.parent.0 row.index ≡ Some v → ((e i : ℕ) → listed_at world e i ≡ Some v → HasPlace world v e i) → IsListedRight world v row
  listed_right v row at listed own e i = (
    λ found. of_there (λ row. (e ≡ row.parent.0) × (i ≡ row.index)) (slice_get world.variants v) row at (own e i found),
    λ same. ap (λ p. listed_at world p i) same.0 ∙ ap (listed_at world row.parent.0) same.1 ∙ listed,
  )

  -- one more place: it is the variant's own, or the variant is marked
  pub own_next : (last n v : ℕ) (marks : List Bool) → AreMarks world last n marks → listed_at world last n ≡ Some v → HasPlace world v last n ⊎ (get_or marks v false ≡ true) → AreMarks world last (n + 1) marks
  own_next last n v marks are listed known = record { wrong = are.wrong; own = own }
    where
      here : (w : ℕ) → get_or marks w false ≡ false → w ≡ v → HasPlace world v last n ⊎ (get_or marks v false ≡ true) → HasPlace world w last n
      here w unmarked same (inl own) = subst (λ u. HasPlace world u last n) (sym same) own
      here w unmarked same (inr marked) = let again = ap (λ u. get_or marks u false) same in cc

      at : (w e i : ℕ) → get_or marks w false ≡ false → listed_at world e i ≡ Some w → e ≡ last → i ≡ n → HasPlace world w e i
      at w e i unmarked found p q =
          let moved : listed_at world last n ≡ Some w = ap (λ p. listed_at world p n) (sym p) ∙ ap (listed_at world e) (sym q) ∙ found in
          let same : w ≡ v = cc in
          subst (λ p. HasPlace world w p i) (sym p) (subst (HasPlace world w last) (sym q) (here w unmarked same known))

      own : (w e i : ℕ) → get_or marks w false ≡ false → e ≤ last → (e ≡ last → i < n + 1) → listed_at world e i ≡ Some w → HasPlace world w e i
      own w e i unmarked within before found =
          elim (cases_eq e last) [
            | inl same ↦ elim (cases_eq i n) [
              | inl last_one ↦ at w e i unmarked found same last_one
              | inr other ↦ let smaller : i < n + 1 = before same in are.own w e i unmarked within (λ _. omega arith) found
            ]
            | inr other ↦ are.own w e i unmarked within (λ same. absurd (other same)) found
          ]

  pub marked_next : (last n v : ℕ) (marks : List Bool) → AreMarks world last n marks → listed_at world last n ≡ Some v → v < length marks → (HasPlace world v last n → ⊥) → AreMarks world last (n + 1) (set marks v true)
  marked_next last n v marks are listed inside elsewhere = own_next last n v (set marks v true) (record { wrong = wrong; own = own }) listed (inr (get_or-set_same marks v true false inside))
    where
      wrong : (w : ℕ) → get_or (set marks v true) w false ≡ true → IsRowListedRight world w → ⊥
      wrong w marked =
          elim (cases_eq w v) [
            | inl same ↦ subst (λ u. IsRowListedRight world u → ⊥) (sym same) (misplaced_wrong v last n listed elsewhere)
            | inr other ↦ are.wrong w (sym (get_or-set_other marks v w true false other) ∙ marked)
          ]

      own : (w e i : ℕ) → get_or (set marks v true) w false ≡ false → e ≤ last → (e ≡ last → i < n) → listed_at world e i ≡ Some w → HasPlace world w e i
      own w e i unmarked within before found =
          elim (cases_eq w v) [
            | inl same ↦ let marked = ap (λ u. get_or (set marks v true) u false) same ∙ get_or-set_same marks v true false inside in cc
            | inr other ↦ are.own w e i (sym (get_or-set_other marks v w true false other) ∙ unmarked) within before found
          ]

  -- a variant at another place than its row's has a row
  pub elsewhere_inside : (v e i : ℕ) → (HasPlace world v e i → ⊥) → v < length world.variants
  elsewhere_inside v e i elsewhere =
      elim (cases_lt v (length world.variants)) [
        | inl inside ↦ inside
        | inr past ↦ absurd (elsewhere (none_there _ (slice_get world.variants v) (slice_get_past world.variants v past)))
      ]

  -- the next enum
  pub enum_next : (last : ℕ) (row : EnumRow) (n : ℕ) (marks : List Bool) → slice_get world.enums last ≡ Some row → length row.variants ≤ n → AreMarks world last n marks → AreMarks world (last + 1) 0 marks
  enum_next last row n marks at all are = record { wrong = are.wrong; own = own }
    where
      inside : (e i v : ℕ) → listed_at world e i ≡ Some v → e ≡ last → i < n
      inside e i v found same =
          let there = listed_within e i v found in
          let there_at : slice_get world.enums e ≡ Some there.0 = there.1 in
          let moved = ap (slice_get world.enums) same in
          let one : there.0 ≡ row = cc in
          let shorter : i < length row.variants = subst (λ (r : EnumRow). i < length r.variants) one there.2 in
          omega arith

      own : (v e i : ℕ) → get_or marks v false ≡ false → e ≤ last + 1 → (e ≡ last + 1 → i < 0) → listed_at world e i ≡ Some v → HasPlace world v e i
      own v e i unmarked within before found =
          elim (cases_eq e (last + 1)) [
            | inl same ↦ absurd (omega (arith, before same))
            | inr other ↦ are.own v e i unmarked (omega arith) (inside e i v found) found
          ]

  -- after the last enum every place was seen
  pub all_own : (last : ℕ) (marks : List Bool) → length world.enums ≤ last → AreMarks world last 0 marks → (v e i : ℕ) → get_or marks v false ≡ false → listed_at world e i ≡ Some v → HasPlace world v e i
  all_own last marks all are v e i unmarked found =
      let there = listed_within e i v found in
      let inside : e < length world.enums = slice_get_within world.enums e there.0 there.1 in
      are.own v e i unmarked (omega arith) (λ same. absurd (omega arith)) found

  -- the variants with ids below `n` are listed right
  abbrev pub AreRightBelow : ℕ → Type 0
  AreRightBelow n = (v : ℕ) → v < n → IsRowListedRight world v

  pub right_next : (n : ℕ) (row : VariantRow) → slice_get world.variants n ≡ Some row → IsListedRight world n row → AreRightBelow n → AreRightBelow (n + 1)
  right_next n row at right before = below_more (IsRowListedRight world) n before (subst (λ o. IfSome o (IsListedRight world n)) (sym at) right)

  pub all_right : (n : ℕ) → length world.variants ≤ n → AreRightBelow n → (v : ℕ) → IsRowListedRight world v
  all_right n past before v =
      elim (cases_lt v n) [
        | inl inside ↦ before v inside
        | inr out ↦ none_there _ (slice_get world.variants v) (slice_get_past world.variants v (omega arith))
      ]
