-- Stores whose cells have the sizes of their types.
use Rattle.std.proofs.Common.{◌≡◌, ℕ, Bool, true, false, cond, List, length, refl, ap, ◌∙◌, eqb-true}
use Rattle.std.proofs.lemmas.Bool.{false≢true}
use Rattle.std.proofs.lemmas.List.{length-replicate}
use Rattle.source_meaning.specs.Source.{Source, Store, IsSized, Cell, IndexOf, Result, Node, Binding, Never, same_cell, zeroed, with_cell_bytes, cell_size}

pub zeroed_is_sized : (source : Source) → IsSized source (zeroed source)
zeroed_is_sized source = record { holds_all = λ cell. length-replicate (cell_size source cell) 0 }

pub same_cell_from_test : (cell other : Cell) → same_cell cell other ≡ true → cell ≡ other
same_cell_from_test Result Result is = refl
same_cell_from_test Result (Node f) is = absurd (false≢true is)
same_cell_from_test Result (Binding c) is = absurd (false≢true is)
same_cell_from_test Result (Never f) is = absurd (false≢true is)
same_cell_from_test Result (IndexOf f) is = absurd (false≢true is)
same_cell_from_test (Node e) Result is = absurd (false≢true is)
same_cell_from_test (Node e) (Node f) is = ap Node (eqb-true e f is)
same_cell_from_test (Node e) (Binding c) is = absurd (false≢true is)
same_cell_from_test (Node e) (Never f) is = absurd (false≢true is)
same_cell_from_test (Node e) (IndexOf f) is = absurd (false≢true is)
same_cell_from_test (Binding b) Result is = absurd (false≢true is)
same_cell_from_test (Binding b) (Node f) is = absurd (false≢true is)
same_cell_from_test (Binding b) (Binding c) is = ap Binding (eqb-true b c is)
same_cell_from_test (Binding b) (Never f) is = absurd (false≢true is)
same_cell_from_test (Binding b) (IndexOf f) is = absurd (false≢true is)
same_cell_from_test (Never e) Result is = absurd (false≢true is)
same_cell_from_test (Never e) (Node f) is = absurd (false≢true is)
same_cell_from_test (Never e) (Binding c) is = absurd (false≢true is)
same_cell_from_test (Never e) (Never f) is = ap Never (eqb-true e f is)
same_cell_from_test (Never e) (IndexOf f) is = absurd (false≢true is)
same_cell_from_test (IndexOf e) Result is = absurd (false≢true is)
same_cell_from_test (IndexOf e) (Node f) is = absurd (false≢true is)
same_cell_from_test (IndexOf e) (Binding c) is = absurd (false≢true is)
same_cell_from_test (IndexOf e) (Never f) is = absurd (false≢true is)
same_cell_from_test (IndexOf e) (IndexOf f) is = ap IndexOf (eqb-true e f is)

written_is_sized : (source : Source) (store : Store) (cell other : Cell) (bytes : List ℕ) (test : Bool) → IsSized source store → length bytes ≡ cell_size source cell → same_cell cell other ≡ test → length (cond test bytes (store other)) ≡ cell_size source other
written_is_sized source store cell other bytes true sized fits is = fits ∙ ap (cell_size source) (same_cell_from_test cell other is)
written_is_sized source store cell other bytes false sized fits is = sized.holds_all other

pub with_bytes_is_sized : (source : Source) (store : Store) (cell : Cell) (bytes : List ℕ) → IsSized source store → length bytes ≡ cell_size source cell → IsSized source (with_cell_bytes store cell bytes)
with_bytes_is_sized source store cell bytes sized fits = record { holds_all = λ other. written_is_sized source store cell other bytes (same_cell cell other) sized fits refl }
