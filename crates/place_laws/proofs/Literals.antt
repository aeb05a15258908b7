-- What the fields of a struct literal are given.
use Rattle.std.proofs.Common.{◌≡◌, ℕ, zero, suc, ◌<◌, ◌==◌, Bool, true, false, List, [], ◌∷◌, length, get_or, slice_get, Option, Some, None, option_map, option_and_then, if◌then◌else◌, refl, sym, ap, ◌∙◌, subst, eqb-true, arith}
use Rattle.std.specs.Cmp.{unsigned_Decides}
use Rattle.std.specs.Cmp.Lexicographic.{pointwise, pointwise_decides}
use Rattle.std.proofs.lemmas.List.Quantifiers.{position-Some}
use Rattle.std.proofs.lemmas.Option.{slice_get-get_or, slice_get_within}
use Rattle.world.specs.declared.expr.RecordLitField.{RecordLitField}
use Rattle.world.specs.declared.items.FieldRow.{FieldRow}
use Rattle.source_meaning.specs.Source.{Operand}
use Rattle.source_meaning.specs.Structs.{picked, place_named, places_named}
use Rattle.source_meaning.proofs.Structs.{picked-more, picked-none}
use Rattle.place_laws.specs.Literals.{AreFieldsFilled, HaveOwnNames, IsWritten, LiteralsGiveTheirFields, LiteralsUseEachField}
use Rattle.place_laws.proofs.Pigeonhole.{AreApart, each-stands}

-- the written field at the place of a name has that name
pub record HasName (name : List ℕ) (written : List RecordLitField) (place : ℕ) : Type 0 where
  pub one : RecordLitField
  pub stands : slice_get written place ≡ Some one
  pub named : one.name ≡ name

pub has-name : (name : List ℕ) (written : List RecordLitField) (place : ℕ) → place_named name written ≡ Some place → HasName name written place
has-name name [] place is = absurd cc
has-name name (first ∷ rest) place is =
    let found = position-Some (λ (field : RecordLitField). pointwise ◌==◌ field.name name) (first ∷ rest) place first is in
    let one = get_or (first ∷ rest) place first in
    record { one = one; stands = slice_get-get_or (first ∷ rest) place first found.0; named = (pointwise_decides unsigned_Decides one.name name).0 found.1 }

-- there is an element below a list's length
pub element-at : {A : Type 0} (xs : List A) (k : ℕ) → k < length xs → (x : A) × (slice_get xs k ≡ Some x)
element-at [] k below = absurd (omega arith)
element-at (x ∷ xs) zero below = (x, refl)
element-at (x ∷ xs) (suc k) below = element-at xs k (omega arith)

both : {A : Type 0} (first : Option ℕ) (rest : Option (List ℕ)) (places : List ℕ) → option_and_then (λ place. option_map (λ others. place ∷ others) rest) first ≡ Some places →
    ((place : ℕ) (others : List ℕ) → first ≡ Some place → rest ≡ Some others → places ≡ place ∷ others → A) → A
both (Some place) (Some others) places is goal = goal place others refl refl (let same : place ∷ others ≡ places = cc in sym same)
both (Some place) None places is goal = absurd cc
both None rest places is goal = absurd cc

are-filled : (rows : List FieldRow) (written : List RecordLitField) (places : List ℕ) (given : List Operand) → places_named rows written ≡ Some places → length given ≡ length written → AreFieldsFilled rows written places given
unfolding places_named
are-filled [] written places given is many =
    let same : places ≡ [] = cc in
    record { fields = []; picks = subst (λ ps. picked ps given ≡ Some []) (sym same) (picked-none given); many = refl; each = λ k row at. absurd cc }
are-filled (field ∷ rows) written places given is many =
    both (place_named field.name written) (places_named rows written) places is (λ place others at rest same.
    let named = has-name field.name written place at in
    let operand = element-at given place (subst (λ n. place < n) (sym many) (slice_get_within written place named.one named.stands)) in
    let later = are-filled rows written others given rest many in
    record {
      fields = operand.0 ∷ later.fields;
      picks = subst (λ ps. picked ps given ≡ Some (operand.0 ∷ later.fields)) (sym same) (picked-more place others given operand.0 later.fields operand.1 later.picks);
      many = ap suc later.many;
      each = each-of place named operand later;
    })
  where
    each-of : (place : ℕ) → HasName field.name written place → (operand : (one : Operand) × (slice_get given place ≡ Some one)) → {others : List ℕ} (later : AreFieldsFilled rows written others given) →
        (k : ℕ) (row : FieldRow) → slice_get (field ∷ rows) k ≡ Some row → IsWritten written given (operand.0 ∷ later.fields) k row.name
    each-of place named operand later zero row at =
        let same : field ≡ row = cc in
        record { place = place; one = named.one; stands = named.stands; named = subst (λ (r : FieldRow). named.one.name ≡ r.name) same named.named; operand = operand.0; evaluated = operand.1; there = refl }
    each-of place named operand later (suc k) row at =
        let found = later.each k row at in
        record { place = found.place; one = found.one; stands = found.stands; named = found.named; operand = found.operand; evaluated = found.evaluated; there = found.there }

pub literals : LiteralsGiveTheirFields
literals rows written places given is many = by_test (length rows == length written) is
  where
    by_test : (test : Bool) → if test then places_named rows written else None ≡ Some places → AreFieldsFilled rows written places given
    by_test true found = are-filled rows written places given found many
    by_test false found = absurd cc

-- the place at an index is that of a written field which has the name of the row there
record IsPlaced (rows : List FieldRow) (written : List RecordLitField) (k place : ℕ) : Type 0 where
  row : FieldRow
  at : slice_get rows k ≡ Some row
  named : HasName row.name written place

placed : (rows : List FieldRow) (written : List RecordLitField) (places : List ℕ) → places_named rows written ≡ Some places →
    (length places ≡ length rows) × ((k place : ℕ) → slice_get places k ≡ Some place → IsPlaced rows written k place)
unfolding places_named
placed [] written places is =
    let same : places ≡ [] = cc in
    (ap length same, λ k place at. absurd (let none : slice_get [] k ≡ Some place = subst (λ ps. slice_get ps k ≡ Some place) same at in cc))
placed (field ∷ rows) written places is =
    both (place_named field.name written) (places_named rows written) places is (λ first others at rest same.
    let later = placed rows written others rest in
    (ap length same ∙ ap suc later.0, λ k place there. each-of first others at later.1 k place (subst (λ ps. slice_get ps k ≡ Some place) same there)))
  where
    each-of : (first : ℕ) (others : List ℕ) → place_named field.name written ≡ Some first → ((k place : ℕ) → slice_get others k ≡ Some place → IsPlaced rows written k place) →
        (k place : ℕ) → slice_get (first ∷ others) k ≡ Some place → IsPlaced (field ∷ rows) written k place
    each-of first others at later zero place there =
        let same : first ≡ place = cc in
        record { row = field; at = refl; named = has-name field.name written place (subst (λ p. place_named field.name written ≡ Some p) same at) }
    each-of first others at later (suc k) place there =
        let found = later k place there in
        record { row = found.row; at = found.at; named = found.named }

use-each : (rows : List FieldRow) (written : List RecordLitField) (places : List ℕ) → HaveOwnNames rows → length rows ≡ length written → places_named rows written ≡ Some places →
    (place : ℕ) → place < length written → (k : ℕ) × (slice_get places k ≡ Some place)
use-each rows written places own many is place less = each-stands places apart (λ k v at. subst (λ n. v < n) (sym long) (within k v at)) place (subst (λ n. place < n) (sym long) less)
  where
    all : (length places ≡ length rows) × ((k v : ℕ) → slice_get places k ≡ Some v → IsPlaced rows written k v)
    all = placed rows written places is

    long : length places ≡ length written
    long = all.0 ∙ many

    within : (k v : ℕ) → slice_get places k ≡ Some v → v < length written
    within k v at = let found = all.1 k v at in slice_get_within written v found.named.one found.named.stands

    apart : AreApart places
    apart i j v one other =
        let here = all.1 i v one in
        let there = all.1 j v other in
        let same : here.named.one ≡ there.named.one = (let read : Some here.named.one ≡ Some there.named.one = sym here.named.stands ∙ there.named.stands in cc) in
        own i j here.row there.row here.at there.at (sym here.named.named ∙ ap (λ (field : RecordLitField). field.name) same ∙ there.named.named)

pub each-used : LiteralsUseEachField
each-used rows written places own is place less = by_test (length rows == length written) refl is
  where
    by_test : (test : Bool) → length rows == length written ≡ test → if test then places_named rows written else None ≡ Some places → (k : ℕ) × (slice_get places k ≡ Some place)
    by_test true many found = use-each rows written places own (eqb-true (length rows) (length written) many) found place less
    by_test false many found = absurd cc
