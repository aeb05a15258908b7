-- Readers of objects whose keys are the fields of a struct.
use Rattle.std.specs.Prelude.{ℕ, List, Option, Some, None, Ok, Err, Bool, if◌then◌else◌}
use Rattle.std.specs.List.{list_any}
use Rattle.std.specs.Str.{bytes_eq}
use Rattle.serde_json.specs.Data.{Data, Members, no_members, member}
use Rattle.serde_json.specs.Find.{get, as_object}
use Rattle.json_kit.specs.Fit.{Fit, misfit, found, below, key_step}

-- the members of an object
abbrev pub members_of : Data → Fit Members
members_of d = found (as_object d)

abbrev pub value_or : {A : Type 0} → Fit A → (Data → Fit A) → Option Data → Fit A
value_or left_out reads None = left_out
value_or left_out reads (Some d) = reads d

-- the value at a key that has to be there
abbrev pub required : {A : Type 0} → List ℕ → (Data → Fit A) → Data → Fit A
required name reads d = below (key_step name) (value_or misfit reads (get name d))

-- the value at a key that may be left out
abbrev pub optional : {A : Type 0} → A → List ℕ → (Data → Fit A) → Data → Fit A
optional left_out name reads d = below (key_step name) (value_or (Ok left_out) reads (get name d))

-- whether a key is one of these names
abbrev pub is_among : List (List ℕ) → List ℕ → Bool
is_among names key = list_any (λ name. bytes_eq name key) names

-- the first key, in the order of their bytes, that isn't one of these names
abbrev pub unknown_key : List (List ℕ) → Members → Option (List ℕ)
unknown_key names no_members = None
unknown_key names (member key d ms) = if is_among names key then unknown_key names ms else Some key

abbrev pub no_key : {A : Type 0} → A → Option (List ℕ) → Fit A
no_key x None = Ok x
no_key x (Some key) = Err (key_step key)

-- a value, unless the object has a key that isn't one of these names
abbrev pub with_no_other : {A : Type 0} → List (List ℕ) → Members → A → Fit A
with_no_other names ms x = no_key x (unknown_key names ms)
