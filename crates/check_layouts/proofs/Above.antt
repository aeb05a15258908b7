-- The first row of a key among the first rows of a table, by the place of the key in the whole table.
use Rattle.std.proofs.Common.{◌≡◌, ℕ, zero, suc, ◌+◌, ◌<◌, ◌≤◌, Bool, true, false, cond, inl, inr, List, [], ◌∷◌, take, Option, None, Some, slice_get, refl, sym, ◌∙◌, ap, arith}
use Rattle.std.proofs.lemmas.Bool.{cases_lt}
use Rattle.std.proofs.lemmas.Option.{none-some}
use Rattle.std.specs.BTreeMap.{is_at}
use Rattle.std.specs.List.{find, position, position_or_len}
use Rattle.std.specs.Option.{option_and_then, option_map}
use Rattle.std.specs.Prelude.{not}
use Rattle.types.specs.Orders.{ty_cmp}
use Rattle.types.specs.Places.{place_at, row_at}
use Rattle.types.specs.declared.ty.Ty.{Ty}
use Rattle.world.specs.declared.database.HirDatabase.{HirDatabase}
use Rattle.world.specs.declared.layout.Layout.{Layout}
use Rattle.types.proofs.Places.{found_at, no_position}
use Rattle.check_layouts.specs.inner.Fields.{IsPlaceOf}
use Rattle.check_layouts.specs.Sizes.{layout_above}

module _ {R : Type 0} (test : R → Bool) where
  step_below : (row : R) (n i : ℕ) (some whole : Option R) (b : Bool) → cond (not b) (1 + n) 0 < suc i → (n < i → some ≡ whole) → cond b (Some row) some ≡ cond b (Some row) whole
  step_below row n i some whole true h f = refl
  step_below row n i some whole false h f = f (omega arith)

  -- the first row that passes stands below i
  find_below : (rows : List R) (i : ℕ) → position_or_len test rows < i → find test (take i rows) ≡ find test rows
  find_below [] zero h = refl
  find_below [] (suc i) h = refl
  find_below (row ∷ rows) zero h = absurd (omega arith)
  find_below (row ∷ rows) (suc i) h = step_below row (position_or_len test rows) i (find test (take i rows)) (find test rows) (test row) h (find_below rows i)

  step_past : (row : R) (n i : ℕ) (some : Option R) (b : Bool) → suc i ≤ cond (not b) (1 + n) 0 → (i ≤ n → some ≡ None) → cond b (Some row) some ≡ None
  step_past row n i some true h f = absurd (omega arith)
  step_past row n i some false h f = f (omega arith)

  -- none of the first i rows passes
  find_past : (rows : List R) (i : ℕ) → i ≤ position_or_len test rows → find test (take i rows) ≡ None
  find_past [] zero h = refl
  find_past [] (suc i) h = refl
  find_past (row ∷ rows) zero h = refl
  find_past (row ∷ rows) (suc i) h = step_past row (position_or_len test rows) i (find test (take i rows)) (test row) h (find_past rows i)

  place_first : (n i : ℕ) (b : Bool) → Some i ≡ cond b (Some n) None → i ≡ n
  place_first n i true h = cc
  place_first n i false h = cc

  at_place : (rows : List R) (place : ℕ) → Some place ≡ position test rows → place ≡ position_or_len test rows
  at_place rows place h = place_first (position_or_len test rows) place _ h

  find_nowhere : (rows : List R) (i : ℕ) → None ≡ position test rows → find test (take i rows) ≡ None
  find_nowhere rows i h =
      elim (cases_lt (position_or_len test rows) i) [
        | inl below ↦ find_below rows i below ∙ sym (no_position test rows h)
        | inr past ↦ find_past rows i past
      ]

module _ (world : HirDatabase) (i : ℕ) (ty : Ty) where
  abbrev has_type : Ty × Layout → Bool
  has_type row = is_at (ty_cmp ty) row.0

  abbrev place_is : Option ℕ → Type 0
  place_is place = place ≡ place_at {R = Ty × Layout} (λ row. row.0) (ty_cmp ty) world.layouts

  above : (place : ℕ) → place_is (Some place) → place < i → slice_get world.layouts place ≡ row_at {R = Ty × Layout} (λ row. row.0) (ty_cmp ty) (take i world.layouts)
  above place is below =
      let first : place ≡ position_or_len has_type world.layouts = at_place has_type world.layouts place is in
      found_at {R = Ty × Layout} (λ row. row.0) (ty_cmp ty) world.layouts place is ∙ sym (find_below has_type world.layouts i (omega arith))

  -- the row of the type stands below i
  layout_here : (place : ℕ) (row : Ty × Layout) → place_is (Some place) → place < i → Some row ≡ slice_get world.layouts place → Some row.1 ≡ layout_above world i ty
  layout_here place row is below at = ap (option_map (λ (found : Ty × Layout). found.1)) (at ∙ above place is below)

  -- no row stands at the place
  layout_missing : (place : ℕ) → place_is (Some place) → place < i → None ≡ slice_get world.layouts place → None ≡ layout_above world i ty
  layout_missing place is below at = ap (option_map (λ (found : Ty × Layout). found.1)) (at ∙ above place is below)

  -- the row of the type stands further down
  layout_past : (place : ℕ) → place_is (Some place) → i ≤ place → None ≡ layout_above world i ty
  layout_past place is past =
      let first : place ≡ position_or_len has_type world.layouts = at_place has_type world.layouts place is in
      sym (ap (option_map (λ (found : Ty × Layout). found.1)) (find_past has_type world.layouts i (omega arith)))

  -- no row is of the type
  layout_nowhere : place_is None → None ≡ layout_above world i ty
  layout_nowhere is = sym (ap (option_map (λ (found : Ty × Layout). found.1)) (find_nowhere has_type world.layouts i is))

abbrev pub field_layout : HirDatabase → ℕ → Option Ty → Option Layout
field_layout world i found = option_and_then (layout_above world i) found

-- the same of a type that there may be
module _ (world : HirDatabase) (i : ℕ) where
  pub found_here : (found : Option Ty) (place : ℕ) (row : Ty × Layout) → IsPlaceOf world found (Some place) → place < i → Some row ≡ slice_get world.layouts place → Some row.1 ≡ field_layout world i found
  found_here None place row is below at = absurd (none-some place (sym is))
  found_here (Some ty) place row is below at = layout_here world i ty place row is below at

  pub found_missing : (found : Option Ty) (place : ℕ) → IsPlaceOf world found (Some place) → place < i → None ≡ slice_get world.layouts place → None ≡ field_layout world i found
  found_missing None place is below at = absurd (none-some place (sym is))
  found_missing (Some ty) place is below at = layout_missing world i ty place is below at

  pub found_past : (found : Option Ty) (place : ℕ) → IsPlaceOf world found (Some place) → i ≤ place → None ≡ field_layout world i found
  found_past None place is past = absurd (none-some place (sym is))
  found_past (Some ty) place is past = layout_past world i ty place is past

  pub found_nowhere : (found : Option Ty) → IsPlaceOf world found None → None ≡ field_layout world i found
  found_nowhere None is = refl
  found_nowhere (Some ty) is = layout_nowhere world i ty is
