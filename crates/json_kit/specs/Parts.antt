-- Readers of arrays, pairs, triples and options, made from readers of their parts.
use Rattle.std.specs.Prelude.{ℕ, ◌+◌, List, [], ◌∷◌, Option, Some, None, Ok}
use Rattle.serde_json.specs.Data.{Data, null, boolean, number, string, array, object, Items, no_items, item}
use Rattle.json_kit.specs.Fit.{Fit, misfit, found, ◌>>=◌, below, item_step}

-- the values of the items from index `i` on
unfoldable pub items_from : {A : Type 0} → (Data → Fit A) → ℕ → Items → Fit (List A)
items_from reads i no_items = Ok []
items_from reads i (item d ds) = do
  x ← below (item_step i) (reads d)
  xs ← items_from reads (i + 1) ds
  Ok (x ∷ xs)

-- the values of an array's items
abbrev pub list_of : {A : Type 0} → (Data → Fit A) → Data → Fit (List A)
list_of reads null = misfit
list_of reads (boolean b) = misfit
list_of reads (number n) = misfit
list_of reads (string s) = misfit
list_of reads (array ds) = items_from reads 0 ds
list_of reads (object ms) = misfit

-- `None` for `null`, else the value
abbrev pub option_of : {A : Type 0} → (Data → Fit A) → Data → Fit (Option A)
option_of reads null = Ok None
option_of reads (boolean b) = reads (boolean b) >>= λ x. Ok (Some x)
option_of reads (number n) = reads (number n) >>= λ x. Ok (Some x)
option_of reads (string s) = reads (string s) >>= λ x. Ok (Some x)
option_of reads (array ds) = reads (array ds) >>= λ x. Ok (Some x)
option_of reads (object ms) = reads (object ms) >>= λ x. Ok (Some x)

-- exactly two items
abbrev pub two_items : Items → Option (Data × Data)
two_items no_items = None
two_items (item d no_items) = None
two_items (item d (item e no_items)) = Some (d, e)
two_items (item d (item e (item f ds))) = None

abbrev pub two_of : Data → Fit (Data × Data)
two_of null = misfit
two_of (boolean b) = misfit
two_of (number n) = misfit
two_of (string s) = misfit
two_of (array ds) = found (two_items ds)
two_of (object ms) = misfit

-- an array of two values
unfoldable pub pair_of : {A B : Type 0} → (Data → Fit A) → (Data → Fit B) → Data → Fit (A × B)
pair_of reads_first reads_second d = do
  both ← two_of d
  x ← below (item_step 0) (reads_first both.0)
  y ← below (item_step 1) (reads_second both.1)
  Ok (x, y)

-- exactly three items
abbrev pub three_items : Items → Option (Data × Data × Data)
three_items no_items = None
three_items (item d no_items) = None
three_items (item d (item e no_items)) = None
three_items (item d (item e (item f no_items))) = Some (d, e, f)
three_items (item d (item e (item f (item g ds)))) = None

abbrev pub three_of : Data → Fit (Data × Data × Data)
three_of null = misfit
three_of (boolean b) = misfit
three_of (number n) = misfit
three_of (string s) = misfit
three_of (array ds) = found (three_items ds)
three_of (object ms) = misfit

-- an array of three values
unfoldable pub triple_of : {A B C : Type 0} → (Data → Fit A) → (Data → Fit B) → (Data → Fit C) → Data → Fit (A × B × C)
triple_of reads_first reads_second reads_third d = do
  all ← three_of d
  x ← below (item_step 0) (reads_first all.0)
  y ← below (item_step 1) (reads_second all.1)
  z ← below (item_step 2) (reads_third all.2)
  Ok (x, y, z)
