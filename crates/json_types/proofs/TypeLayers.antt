-- The parts of a tree have fewer levels than the tree: the measures of the readers of types.
use Rattle.std.proofs.Common.{◌≡◌, ℕ, zero, suc, ◌+◌, ◌*◌, ◌<◌, ◌≤◌, List, [], ◌∷◌, length, get_or, Option, Some, None, Ok, Bool, true, false, cond, bytes_eq, refl, sym, subst, arith}
use Rattle.serde_json.specs.Data.{Data, null, boolean, number, string, array, object, Items, no_members, member, depth, items_depth}
use Rattle.serde_json.specs.Find.{get, as_array}
use Rattle.serde_json.specs.View.{view, items_view}
use Rattle.serde_json.specs.declared.value.Value.{Value}
use Rattle.json_kit.specs.Fit.{Fit, below, found, key_step}
use Rattle.json_kit.specs.Parts.{items_from, list_of}
use Rattle.json_kit.specs.Variants.{Named, variant_of, payload_part}
use Rattle.json_types.proofs.Alike.{Within, get_within}

-- the measure of reading a payload
abbrev pub payload_size : Option Data → ℕ
payload_size None = 0
payload_size (Some d) = 4 * depth d + 3

named_smaller : (d : Data) (v : Named) → variant_of d ≡ Ok v → payload_size v.1 < 4 * depth d + 1
named_smaller null v e = absurd cc
named_smaller (boolean b) v e = absurd cc
named_smaller (number n) v e = absurd cc
named_smaller (string s) v e = let same : (s, None) ≡ v = cc in subst (λ (w : Named). payload_size w.1 < 1) same (omega arith)
named_smaller (array ds) v e = absurd cc
named_smaller (object no_members) v e = absurd cc
named_smaller (object (member key e' no_members)) v e =
    let same : (key, Some e') ≡ v = cc in
    subst (λ (w : Named). payload_size w.1 < 4 * depth (object (member key e' no_members)) + 1) same (omega arith)
named_smaller (object (member key e' (member other f ms))) v e = absurd cc

pub payload_smaller : (d : Data) (name : List ℕ) (part : Option Data) → variant_of d ≡ Ok (name, part) → payload_size part < 4 * depth d + 1
payload_smaller d name part e = named_smaller d (name, part) e

chosen : (b : Bool) (o : Option Data) (d : Data) → Some d ≡ cond b o None → 4 * depth d + 3 ≤ payload_size o
chosen true o d e = rw (← e) (omega arith)
chosen false o d e = absurd cc

-- the payload of a variant with this name has fewer levels than the tree
pub part_size : (name : List ℕ) (v : Named) (d : Data) → Some d ≡ payload_part name v → 4 * depth d + 3 ≤ payload_size v.1
part_size name v d e = chosen (bytes_eq v.0 name) v.1 d e

pub part_smaller : (d : Data) (name of : List ℕ) (part : Option Data) (inner : Data) → variant_of d ≡ Ok (of, part) → Some inner ≡ payload_part name (of, part) → 4 * depth inner + 3 < 4 * depth d + 1
part_smaller d name of part inner e p = omega (arith, payload_smaller d of part e, part_size name (of, part) inner p)

within_some : (k : ℕ) (o : Option Data) (d : Data) → o ≡ Some d → Within k o → depth d < k
within_some k None d e h = absurd cc
within_some k (Some c) d e h = let same : c ≡ d = cc in rw (← same) h

pub get_smaller : (name : List ℕ) (d inner : Data) → Some inner ≡ get name d → 4 * depth inner + 3 < 4 * depth d + 1
get_smaller name d inner e = let h : depth inner < depth d = within_some (depth d) (get name d) inner (sym e) (get_within name d) in omega (arith, h)

found_some : (step : List ℕ) (o : Option Data) (d : Data) → below step (found o) ≡ Ok d → Some d ≡ o
found_some step None d e = absurd cc
found_some step (Some c) d e = cc

pub part_at_smaller : (name : List ℕ) (d inner : Data) → below (key_step name) (found (get name d)) ≡ Ok inner → 4 * depth inner + 3 < 4 * depth d + 1
part_at_smaller name d inner e = get_smaller name d inner (found_some (key_step name) (get name d) inner e)

items_smaller : (d : Data) (ds : Items) → found (as_array d) ≡ Ok ds → items_depth ds < depth d
items_smaller null ds e = absurd cc
items_smaller (boolean b) ds e = absurd cc
items_smaller (number n) ds e = absurd cc
items_smaller (string s) ds e = absurd cc
items_smaller (array ds') ds e = let same : ds' ≡ ds = cc in rw same (omega arith)
items_smaller (object ms) ds e = absurd cc

item_within : (vs : List Value) (i : ℕ) (v : Value) → i < length vs → v ≡ get_or vs i v → depth (view v) ≤ items_depth (items_view vs)
item_within [] i v lt is = absurd (omega (arith, lt))
item_within (x ∷ vs) zero v lt is = rw is (omega arith)
item_within (x ∷ vs) (suc i) v lt is = let h = item_within vs i v (omega (arith, lt)) is in omega (arith, h)

pub item_smaller : (d : Data) (vs : List Value) (i : ℕ) (v : Value) → found (as_array d) ≡ Ok (items_view vs) → i < length vs → v ≡ get_or vs i v → 4 * depth (view v) + 3 < 4 * depth d + 1
item_smaller d vs i v e lt is = omega (arith, items_smaller d (items_view vs) e, item_within vs i v lt is)

-- the list of an array is read from its items
pub list_of_items : {A : Type 0} (reads : Data → Fit A) (d : Data) (ds : Items) → found (as_array d) ≡ Ok ds → list_of reads d ≡ items_from reads 0 ds
list_of_items reads null ds e = absurd cc
list_of_items reads (boolean b) ds e = absurd cc
list_of_items reads (number n) ds e = absurd cc
list_of_items reads (string s) ds e = absurd cc
list_of_items reads (array ds') ds e = let same : ds' ≡ ds = cc in rw same refl
list_of_items reads (object ms) ds e = absurd cc
