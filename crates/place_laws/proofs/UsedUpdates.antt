-- Nothing that is written in a struct literal with a base is lost.
use Rattle.std.proofs.Common.{◌≡◌, ℕ, zero, suc, ◌<◌, ◌==◌, Bool, true, false, List, [], ◌∷◌, length, slice_get, Option, Some, None, if◌then◌else◌, refl, sym, ap, ◌∙◌, subst, eqb-true, arith}
use Rattle.std.specs.Prelude.{filter}
use Rattle.std.proofs.lemmas.Option.{slice_get_within}
use Rattle.types.specs.declared.ids.StructId.{StructId}
use Rattle.world.specs.declared.expr.RecordLitField.{RecordLitField}
use Rattle.world.specs.declared.items.FieldRow.{FieldRow}
use Rattle.source_meaning.specs.Structs.{FieldSource, Written, OfBase, field_sources, is_written, place_named, source_by}
use Rattle.place_laws.specs.Literals.{HaveOwnNames, UpdatesUseEachField}
use Rattle.place_laws.proofs.Literals.{HasName, has-name}
use Rattle.place_laws.proofs.Pigeonhole.{AreApart, each-stands}

-- the places of the written fields among what gives fields
taken : List FieldSource → List ℕ
taken [] = []
taken (Written place ∷ sources) = place ∷ taken sources
taken (OfBase field ∷ sources) = taken sources

as-many : (sources : List FieldSource) → length (taken sources) ≡ length (filter is_written sources)
unfolding taken
as-many [] = refl
as-many (Written place ∷ sources) = ap suc (as-many sources)
as-many (OfBase field ∷ sources) = as-many sources

-- the field at an index is given by the written field at a place, which has its name
record IsTaken (rows : List FieldRow) (written : List RecordLitField) (sources : List FieldSource) (place : ℕ) : Type 0 where
  index : ℕ
  row : FieldRow
  at : slice_get rows index ≡ Some row
  named : HasName row.name written place
  gives : slice_get sources index ≡ Some (Written place)

later-taken : (field : FieldRow) (rows : List FieldRow) (written : List RecordLitField) (source : FieldSource) (sources : List FieldSource) (place : ℕ) → IsTaken rows written sources place → IsTaken (field ∷ rows) written (source ∷ sources) place
later-taken field rows written source sources place is = record { index = suc is.index; row = is.row; at = is.at; named = is.named; gives = is.gives }

is-taken : (id : StructId) (index : ℕ) (rows : List FieldRow) (written : List RecordLitField) (k place : ℕ) → slice_get (taken (field_sources id index rows written)) k ≡ Some place →
    IsTaken rows written (field_sources id index rows written) place
unfolding field_sources taken
is-taken id index [] written k place at = absurd cc
is-taken id index (field ∷ rows) written k place at = by (is-taken id (suc index) rows written) (place_named field.name written) refl k at
  where
    others : List FieldSource
    others = field_sources id (suc index) rows written

    by : ((k place : ℕ) → slice_get (taken others) k ≡ Some place → IsTaken rows written others place) →
        (first : Option ℕ) → place_named field.name written ≡ first → (k : ℕ) → slice_get (taken (source_by id index first ∷ others)) k ≡ Some place → IsTaken (field ∷ rows) written (source_by id index first ∷ others) place
    by rest (Some first) named zero there =
        let same : first ≡ place = cc in
        record { index = 0; row = field; at = refl; named = has-name field.name written place (subst (λ p. place_named field.name written ≡ Some p) same named); gives = ap (λ p. Some (Written p)) same }
    by rest (Some first) named (suc k) there = later-taken field rows written (Written first) others place (rest k place there)
    by rest None named k there = later-taken field rows written (source_by id index None) others place (rest k place there)

own-rest : (field : FieldRow) (rows : List FieldRow) → HaveOwnNames (field ∷ rows) → HaveOwnNames rows
own-rest field rows own i j one other here there same = let equal = own (suc i) (suc j) one other here there same in omega arith

are-apart : (id : StructId) (index : ℕ) (rows : List FieldRow) (written : List RecordLitField) → HaveOwnNames rows → AreApart (taken (field_sources id index rows written))
unfolding field_sources taken
are-apart id index [] written own = λ i j v one other. absurd cc
are-apart id index (field ∷ rows) written own = by (are-apart id (suc index) rows written (own-rest field rows own)) (place_named field.name written) refl
  where
    -- the first field's place isn't that of a later one
    once : (first : ℕ) → place_named field.name written ≡ Some first → (k : ℕ) → slice_get (taken (field_sources id (suc index) rows written)) k ≡ Some first → ⊥
    once first named k at =
        let name = has-name field.name written first named in
        let other = is-taken id (suc index) rows written k first at in
        let read : Some name.one ≡ Some other.named.one = sym name.stands ∙ other.named.stands in
        let same : name.one ≡ other.named.one = cc in
        let equal = own 0 (suc other.index) field other.row refl other.at (sym name.named ∙ ap (λ (one : RecordLitField). one.name) same ∙ other.named.named) in
        omega arith

    by : AreApart (taken (field_sources id (suc index) rows written)) → (first : Option ℕ) → place_named field.name written ≡ first → AreApart (taken (source_by id index first ∷ field_sources id (suc index) rows written))
    by later (Some first) named zero zero v one other = refl
    by later (Some first) named zero (suc j) v one other = absurd (once first named j (other ∙ sym one))
    by later (Some first) named (suc i) zero v one other = absurd (once first named i (one ∙ sym other))
    by later (Some first) named (suc i) (suc j) v one other = ap suc (later i j v one other)
    by later None named i j v one other = later i j v one other

pub each-given : UpdatesUseEachField
each-given id rows written sources own is place less = by_test (length (filter is_written all) == length written) refl is
  where
    all : List FieldSource
    all = field_sources id 0 rows written

    found : length (filter is_written all) ≡ length written → IsTaken rows written all place
    found many =
        let long = as-many all ∙ many in
        let below : (k v : ℕ) → slice_get (taken all) k ≡ Some v → v < length (taken all) = λ k v at. let given = is-taken id 0 rows written k v at in subst (λ n. v < n) (sym long) (slice_get_within written v given.named.one given.named.stands) in
        let stands = each-stands (taken all) (are-apart id 0 rows written own) below place (subst (λ n. place < n) (sym long) less) in
        is-taken id 0 rows written stands.0 place stands.1

    by_test : (test : Bool) → length (filter is_written all) == length written ≡ test → if test then Some all else None ≡ Some sources → (k : ℕ) × (slice_get sources k ≡ Some (Written place))
    by_test true many same =
        let are : all ≡ sources = cc in
        let given = found (eqb-true (length (filter is_written all)) (length written) many) in
        (given.index, subst (λ ss. slice_get ss given.index ≡ Some (Written place)) are given.gives)
    by_test false many same = absurd cc
