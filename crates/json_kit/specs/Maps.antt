-- Readers of maps: an array of pairs with rising keys.
use Rattle.std.specs.Prelude.{ℕ, ◌+◌, List, [], ◌∷◌, Option, Some, None, Ok, Bool, true, if◌then◌else◌}
use Rattle.std.specs.declared.cmp.Ordering.{Ordering}
use Rattle.std.specs.Ordering.{is_lt}
use Rattle.serde_json.specs.Data.{Data, null, boolean, number, string, array, object, Items, no_items, item}
use Rattle.json_kit.specs.Fit.{Fit, misfit, ◌>>=◌, below, item_step}

-- whether a key is greater than the one before it, if there is one
abbrev pub rises : {K : Type 0} → (K → K → Ordering) → Option K → K → Bool
rises cmp None key = true
rises cmp (Some last) key = is_lt (cmp last key)

-- an entry, whose key has to be greater than the one before it
unfoldable pub entry_after : {K V : Type 0} → (K → K → Ordering) → (Data → Fit (K × V)) → Option K → Data → Fit (K × V)
entry_after cmp reads last d = reads d >>= λ entry. if rises cmp last entry.0 then Ok entry else misfit

-- the entries of the items from index `i` on
unfoldable pub entries_from : {K V : Type 0} → (K → K → Ordering) → (Data → Fit (K × V)) → Option K → ℕ → Items → Fit (List (K × V))
entries_from cmp reads last i no_items = Ok []
entries_from cmp reads last i (item d ds) = do
  entry ← below (item_step i) (entry_after cmp reads last d)
  entries ← entries_from cmp reads (Some entry.0) (i + 1) ds
  Ok (entry ∷ entries)

abbrev pub map_of : {K V : Type 0} → (K → K → Ordering) → (Data → Fit (K × V)) → Data → Fit (List (K × V))
map_of cmp reads null = misfit
map_of cmp reads (boolean b) = misfit
map_of cmp reads (number n) = misfit
map_of cmp reads (string s) = misfit
map_of cmp reads (array ds) = entries_from cmp reads None 0 ds
map_of cmp reads (object ms) = misfit
