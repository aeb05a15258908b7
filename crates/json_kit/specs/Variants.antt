-- Readers of enums: a variant is its name as a string, or an object with its name as the only key.
use Rattle.std.specs.Prelude.{ℕ, List, [], ◌∷◌, ◌&&◌, Option, Some, None, is_none, option_map, Ok, Err, Bool, if◌then◌else◌}
use Rattle.std.specs.Str.{bytes_eq}
use Rattle.serde_json.specs.Data.{Data, null, boolean, number, string, array, object, Members, no_members, member}
use Rattle.json_kit.specs.Fit.{Fit, misfit, found, ◌>>=◌, below, key_step}

-- a variant's name, and its payload where there is one
abbrev pub Named : Type 0
Named = List ℕ × Option Data

-- the name and the payload of an object with one member
abbrev pub only_member : Members → Option Named
only_member no_members = None
only_member (member key d no_members) = Some (key, Some d)
only_member (member key d (member other e ms)) = None

abbrev pub variant_of : Data → Fit Named
variant_of null = misfit
variant_of (boolean b) = misfit
variant_of (number n) = misfit
variant_of (string s) = Ok (s, None)
variant_of (array ds) = misfit
variant_of (object ms) = found (only_member ms)

-- whether this is the variant with this name, without a payload
abbrev pub is_unit : List ℕ → Named → Bool
is_unit name v = bytes_eq v.0 name && is_none v.1

abbrev pub payload_of : {A : Type 0} → List ℕ → (Data → Fit A) → Option Data → Fit (Option A)
payload_of name reads None = Ok None
payload_of name reads (Some d) = below (key_step name) (reads d >>= λ x. Ok (Some x))

-- the JSON value of the payload, if the variant has this name
abbrev pub payload_part : List ℕ → Named → Option Data
payload_part name v = if bytes_eq v.0 name then v.1 else None

-- the payload, if the variant has this name
abbrev pub payload_at : {A : Type 0} → List ℕ → (Data → Fit A) → Named → Fit (Option A)
payload_at name reads v = payload_of name reads (payload_part name v)

-- A row of an enum: the value, if this is the variant with this name.
abbrev pub unit : {A : Type 0} → List ℕ → A → Named → Fit (Option A)
unit name x v = Ok (if is_unit name v then Some x else None)

-- a row for a variant with a payload, from which `make` makes the value
abbrev pub payload : {A B : Type 0} → List ℕ → (Data → Fit A) → (A → B) → Named → Fit (Option B)
payload name reads make v = payload_at name reads v >>= λ o. Ok (option_map make o)

abbrev pub or_else : {A : Type 0} → Fit (Option A) → Fit (Option A) → Fit (Option A)
or_else (Ok None) next = next
or_else (Ok (Some x)) next = Ok (Some x)
or_else (Err path) next = Err path

-- the value of the first row that has one
abbrev pub first_of : {A : Type 0} → List (Named → Fit (Option A)) → Named → Fit (Option A)
first_of [] v = Ok None
first_of (row ∷ rows) v = or_else (row v) (first_of rows v)

-- a value of the enum with these rows
abbrev pub enum_of : {A : Type 0} → List (Named → Fit (Option A)) → Data → Fit A
enum_of rows d = variant_of d >>= λ v. first_of rows v >>= found
