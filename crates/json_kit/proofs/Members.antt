-- The members of an object, as a map of values has them.
use Rattle.std.proofs.Common.{◌≡◌, ℕ, List, [], ◌∷◌, length, map, Option, Some, None, option_map, Bool, true, false, not, cond, bytes_eq, String, Global, string_bytes, Bor, refl, ap, ◌∙◌, arith}
use Rattle.std.specs.Prelude.{slice_get}
use Rattle.std.specs.List.{find, list_any}
use Rattle.std.specs.Map.{keys_of}
use Rattle.serde_json.specs.View.{view, members_view}
use Rattle.serde_json.specs.declared.value.Value.{Value}
use Rattle.json_kit.specs.Keys.{is_among, unknown_key}
use Rattle.json_kit.specs.Variants.{only_member}

abbrev Entry : Type 0
Entry = String Global × Value

pub only_none : (es : List Entry) → (length es ≡ 1 → ⊥) → only_member (members_view es) ≡ None
only_none [] other = refl
only_none (e ∷ []) other = absurd (other refl)
only_none (e ∷ f ∷ es) other = refl

pub only_some : (es : List Entry) (name : String Global) (part : Value) → length es ≡ 1 → slice_get es 0 ≡ Some (name, part)
    → only_member (members_view es) ≡ Some (string_bytes name, Some (view part))
only_some [] name part len is = absurd (omega (arith, len))
only_some (e ∷ []) name part len is =
    let same : e ≡ (name, part) = cc in
    rw same refl
only_some (e ∷ f ∷ es) name part len is = absurd (omega (arith, len))

is_among-map : (names : List (Bor (List ℕ))) (key : List ℕ) → is_among (map (λ name. name.now) names) key ≡ list_any (λ name. bytes_eq name.now key) names
is_among-map [] key = refl
is_among-map (name ∷ names) key = rw (is_among-map names key) refl

step : (names : List (Bor (List ℕ))) (es : List Entry) (e : Entry) (any : Bool) (rest : Option (String Global))
    → option_map string_bytes rest ≡ unknown_key (map (λ name. name.now) names) (members_view es)
    → option_map string_bytes (cond (not any) (Some e.0) rest) ≡ cond any (unknown_key (map (λ name. name.now) names) (members_view es)) (Some (string_bytes e.0))
step names es e true rest h = h
step names es e false rest h = refl

key_found : (names : List (Bor (List ℕ))) (es : List Entry)
    → option_map string_bytes (find (λ key. not (list_any (λ name. bytes_eq name.now (string_bytes key)) names)) (keys_of es))
    ≡ unknown_key (map (λ name. name.now) names) (members_view es)
key_found names [] = refl
key_found names (e ∷ es) = rw (is_among-map names (string_bytes e.0)) (step names es e (list_any (λ name. bytes_eq name.now (string_bytes e.0)) names) _ (key_found names es))

twice : (o : Option (Bor (String Global))) → option_map (λ key. string_bytes key.now) o ≡ option_map string_bytes (option_map (λ key. key.now) o)
twice None = refl
twice (Some key) = refl

pub found_key : (o : Option (Bor (String Global))) (names : List (Bor (List ℕ))) (es : List Entry)
    → option_map (λ key. key.now) o ≡ find (λ key. not (list_any (λ name. bytes_eq name.now (string_bytes key)) names)) (keys_of es)
    → option_map (λ key. string_bytes key.now) o ≡ unknown_key (map (λ name. name.now) names) (members_view es)
found_key o names es h = twice o ∙ ap (option_map string_bytes) h ∙ key_found names es
