-- Rows by their keys: what a look-up finds and where, and an index of a table, from each key to the place of its first row.
use Rattle.std.specs.Prelude.{◌≡◌, ℕ, List, Option}
use Rattle.std.specs.BTreeMap.{is_at}
use Rattle.std.specs.List.{find, position}
use Rattle.std.specs.Map.{lookup}
use Rattle.std.specs.declared.cmp.Ordering.{Ordering}

-- the first row whose key ties
abbrev pub row_at : {K R : Type 0} → (R → K) → (K → Ordering) → List R → Option R
row_at key compare rows = find (λ row. is_at compare (key row)) rows

-- the place of the first row whose key ties
abbrev pub place_at : {K R : Type 0} → (R → K) → (K → Ordering) → List R → Option ℕ
place_at key compare rows = position (λ row. is_at compare (key row)) rows

-- the index has the place of the first row of each key
abbrev pub IsIndex : {K R : Type 0} → (K → K → Ordering) → (R → K) → List R → List (K × ℕ) → Type 0
IsIndex {K} cmp key rows places = (k : K) → lookup (is_at (cmp k)) places ≡ place_at key (cmp k) rows
