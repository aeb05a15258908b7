-- A loop over bodies that looks for the first place that lacks a property.
use Rattle.std.proofs.Common.{◌≡◌, ℕ, ◌+◌, ◌<◌, ◌≤◌, Some, None, List, length, ◌⊎◌, inl, inr, get_or, sym, ◌∙◌, ap, subst, arith}
use Rattle.std.proofs.lemmas.Bool.{cases_lt}
use Rattle.std.proofs.lemmas.Option.{slice_get-get_or, slice_get_within}
use Rattle.std.specs.List.{slice_get}
use Rattle.world.specs.declared.database.BodyRow.{BodyRow}
use Rattle.check_trees.specs.First.{FindsFailing}
use Rattle.world_check.specs.WorldPlaces.{of_bodies, of_body}
use Rattle.world_check.specs.declared.place.Place.{Place}
use Rattle.world_check.proofs.Segments.{bodies_none, bodies_some}

-- no body before the `i`th has such a place
abbrev pub ArePassed : (Place → Type 0) → List BodyRow → ℕ → Type 0
ArePassed P rows i = (k : ℕ) (row : BodyRow) → k < i → slice_get rows k ≡ Some row → FindsFailing P (of_body k row.body) None

-- the row at the loop's index
pub row_at : (rows all : List BodyRow) (i : ℕ) (row d : BodyRow) → i < length rows → row ≡ get_or rows i d → rows ≡ all → slice_get all i ≡ Some row
row_at rows all i row d h is same = ap (λ xs. slice_get xs i) (sym same) ∙ slice_get-get_or rows i d h ∙ ap Some (sym is)

-- no place in the row lacks the property: the loop goes on
pub passes_body : (P : Place → Type 0) (rows : List BodyRow) (i : ℕ) (row : BodyRow) → slice_get rows i ≡ Some row → FindsFailing P (of_body i row.body) None → ArePassed P rows i → ArePassed P rows (i + 1)
passes_body P rows i row at none before k other h there = by (cases_lt k i)
  where
    by : (k < i) ⊎ (i ≤ k) → FindsFailing P (of_body k other.body) None
    by (inl lower) = before k other lower there
    by (inr past) =
        let same : k ≡ i = omega arith in
        let alike : Some row ≡ Some other = sym at ∙ ap (slice_get rows) (sym same) ∙ there in
        let is : row ≡ other = cc in
        subst (λ j. FindsFailing P (of_body j other.body) None) (sym same) (subst (λ (r : BodyRow). FindsFailing P (of_body i r.body) None) is none)

-- a place in the row is the first of all bodies
pub found_in_body : (P : Place → Type 0) (rows : List BodyRow) (i : ℕ) (row : BodyRow) (place : Place) → slice_get rows i ≡ Some row → FindsFailing P (of_body i row.body) (Some place) → ArePassed P rows i → FindsFailing P (of_bodies 0 rows) (Some place)
found_in_body P rows i row place at found before =
    bodies_some P 0 i rows row place at (λ k other h there. subst (λ j. FindsFailing P (of_body j other.body) None) (from k) (before k other h there)) (subst (λ j. FindsFailing P (of_body j row.body) (Some place)) (from i) found)
  where
    from : (k : ℕ) → k ≡ 0 + k
    from k = omega arith

-- the loop reaches the end: no body has such a place
pub passed_bodies : (P : Place → Type 0) (rows : List BodyRow) (i : ℕ) → length rows ≤ i → ArePassed P rows i → FindsFailing P (of_bodies 0 rows) None
passed_bodies P rows i h before = bodies_none P 0 rows each
  where
    each : (k : ℕ) (row : BodyRow) → slice_get rows k ≡ Some row → FindsFailing P (of_body (0 + k) row.body) None
    each k row there =
        let from : k ≡ 0 + k = omega arith in
        let within : k < length rows = slice_get_within rows k row there in
        subst (λ j. FindsFailing P (of_body j row.body) None) from (before k row (omega arith) there)
