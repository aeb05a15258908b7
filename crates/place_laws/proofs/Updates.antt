-- What the fields of a struct literal with a base are given.
use Rattle.std.proofs.Common.{◌≡◌, ◌≢◌, ◌⊎◌, inl, inr, ℕ, zero, suc, ◌+◌, ◌<◌, ◌≤◌, ◌==◌, Bool, true, false, cond, not, List, [], ◌∷◌, length, get_or, slice_get, Option, Some, None, if◌then◌else◌, refl, sym, ap, ◌∙◌, subst, arith}
use Rattle.std.specs.Prelude.{filter, nat_lt}
use Rattle.std.specs.List.{prefix_len}
use Rattle.std.specs.Cmp.{unsigned_Decides}
use Rattle.std.specs.Cmp.Lexicographic.{pointwise, pointwise_decides}
use Rattle.std.proofs.lemmas.Bool.{false≢true}
use Rattle.std.proofs.lemmas.List.Sums.{prefix_len_passes}
use Rattle.std.proofs.lemmas.Option.{slice_get-get_or, slice_get_within}
use Rattle.std.proofs.Common.{ltb-false}
use Rattle.types.specs.declared.ids.FieldId.{FieldId}
use Rattle.types.specs.declared.ids.StructId.{StructId}
use Rattle.types.specs.declared.ids.VariantId.TheVariants as variant
use Rattle.world.specs.declared.expr.RecordLitField.{RecordLitField}
use Rattle.world.specs.declared.items.FieldRow.{FieldRow}
use Rattle.source_meaning.specs.Core.{FieldOf}
use Rattle.source_meaning.specs.Source.{Operand, At, Place, projected}
use Rattle.source_meaning.specs.Structs.{Written, OfBase, field_sources, is_written, place_named, source_by}
use Rattle.source_meaning.specs.Updates.{field_operands}
use Rattle.source_meaning.proofs.Updates.{field_operands-more, no_field_operands}
use Rattle.place_laws.specs.Literals.{AreUpdated, IsKept, IsWritten, UpdatesGiveTheirFields}
use Rattle.place_laws.proofs.Literals.{element-at, has-name}

-- where no place is found for a name, no written field has it
tests-fail : (name : List ℕ) (written : List RecordLitField) (many : ℕ) → cond (nat_lt many (length written)) (Some many) None ≡ None → length written ≤ many
tests-fail name written many is = by (nat_lt many (length written)) refl is
  where
    by : (test : Bool) → nat_lt many (length written) ≡ test → cond test (Some many) None ≡ None → length written ≤ many
    by true less same = absurd cc
    by false less same = ltb-false many (length written) less

unnamed : (name : List ℕ) (written : List RecordLitField) → place_named name written ≡ None → (place : ℕ) (one : RecordLitField) → slice_get written place ≡ Some one → one.name ≢ name
unnamed name written none place one stands same =
    let test : RecordLitField → Bool = λ field. pointwise ◌==◌ field.name name in
    let past = tests-fail name written (prefix_len (λ field. not (test field)) written) none in
    let within = slice_get_within written place one stands in
    let passes : not (test (get_or written place one)) ≡ true = prefix_len_passes (λ field. not (test field)) written place one (omega (arith, past, within)) in
    let there : Some (get_or written place one) ≡ Some one = sym (slice_get-get_or written place one within) ∙ stands in
    let is : get_or written place one ≡ one = cc in
    let equal : test one ≡ true = (pointwise_decides unsigned_Decides one.name name).1 same in
    let never : false ≡ true = sym (ap (λ (t : Bool). not t) equal) ∙ ap (λ (field : RecordLitField). not (test field)) (sym is) ∙ passes in
    false≢true never

-- what gives the field at an index
abbrev IsOne : (base : Place) (id : StructId) (written : List RecordLitField) (given fields : List Operand) (index k : ℕ) (name : List ℕ) → Type 0
IsOne base id written given fields index k name =
    IsWritten written given fields k name
    ⊎ (((place : ℕ) (one : RecordLitField) → slice_get written place ≡ Some one → one.name ≢ name) × (slice_get fields k ≡ Some (At (projected (FieldOf (record { parent = variant.StructId id; local_id = index + k })) base))))

record AreAll (base : Place) (id : StructId) (index : ℕ) (rows : List FieldRow) (written : List RecordLitField) (given : List Operand) : Type 0 where
  fields : List Operand
  found : field_operands base given (field_sources id index rows written) ≡ Some fields
  many : length fields ≡ length rows
  each : (k : ℕ) (row : FieldRow) → slice_get rows k ≡ Some row → IsOne base id written given fields index k row.name

are-all : (base : Place) (id : StructId) (index : ℕ) (rows : List FieldRow) (written : List RecordLitField) (given : List Operand) → length given ≡ length written → AreAll base id index rows written given
unfolding field_sources
are-all base id index [] written given many = record { fields = []; found = no_field_operands base given; many = refl; each = λ k row at. absurd cc }
are-all base id index (field ∷ rows) written given many = with-first (place_named field.name written) refl (are-all base id (suc index) rows written given many)
  where
    -- one behind another
    next : (first : Operand) (later : AreAll base id (suc index) rows written given) (k : ℕ) (row : FieldRow) → IsOne base id written given later.fields (suc index) k row.name → IsOne base id written given (first ∷ later.fields) index (suc k) row.name
    next first later k row (inl is) = inl (record { place = is.place; one = is.one; stands = is.stands; named = is.named; operand = is.operand; evaluated = is.evaluated; there = is.there })
    next first later k row (inr is) = inr (is.0, is.1 ∙ ap (λ n. Some (At (projected (FieldOf (record { parent = variant.StructId id; local_id = n })) base))) (let same : suc index + k ≡ index + suc k = omega arith in same))

    each-of : (first : Operand) (later : AreAll base id (suc index) rows written given) → IsOne base id written given (first ∷ later.fields) index zero field.name → (k : ℕ) (row : FieldRow) → slice_get (field ∷ rows) k ≡ Some row → IsOne base id written given (first ∷ later.fields) index k row.name
    each-of first later is zero row at = let same : field ≡ row = cc in subst (λ (r : FieldRow). IsOne base id written given (first ∷ later.fields) index zero r.name) same is
    each-of first later is (suc k) row at = next first later k row (later.each k row at)

    with-first : (place : Option ℕ) → place_named field.name written ≡ place → AreAll base id (suc index) rows written given → AreAll base id index (field ∷ rows) written given
    with-first (Some place) named later =
        let name = has-name field.name written place named in
        let value = element-at given place (subst (λ n. place < n) (sym many) (slice_get_within written place name.one name.stands)) in
        let from : source_by id index (place_named field.name written) ≡ Written place = ap (source_by id index) named in
        record {
          fields = value.0 ∷ later.fields;
          found = ap (λ source. field_operands base given (source ∷ field_sources id (suc index) rows written)) from ∙ field_operands-more base given (Written place) (field_sources id (suc index) rows written) value.0 later.fields value.1 later.found;
          many = ap suc later.many;
          each = each-of value.0 later (inl (record { place = place; one = name.one; stands = name.stands; named = name.named; operand = value.0; evaluated = value.1; there = refl }));
        }
    with-first None named later =
        let kept : FieldId = record { parent = variant.StructId id; local_id = index } in
        let first = At (projected (FieldOf kept) base) in
        let from : source_by id index (place_named field.name written) ≡ OfBase kept = ap (source_by id index) named in
        record {
          fields = first ∷ later.fields;
          found = ap (λ source. field_operands base given (source ∷ field_sources id (suc index) rows written)) from ∙ field_operands-more base given (OfBase kept) (field_sources id (suc index) rows written) first later.fields refl later.found;
          many = ap suc later.many;
          each = each-of first later (inr (unnamed field.name written named, ap (λ n. Some (At (projected (FieldOf (record { parent = variant.StructId id; local_id = n })) base))) (let same : index ≡ index + zero = omega arith in same)));
        }

pub updates : UpdatesGiveTheirFields
updates base id rows written sources given is many = by_test (length (filter is_written (field_sources id 0 rows written)) == length written) is
  where
    by_test : (test : Bool) → if test then Some (field_sources id 0 rows written) else None ≡ Some sources → AreUpdated base id rows written sources given
    by_test true same =
        let are : field_sources id 0 rows written ≡ sources = cc in
        let all = are-all base id 0 rows written given many in
        record {
          fields = all.fields;
          found = ap (field_operands base given) (sym are) ∙ all.found;
          many = all.many;
          each = λ k row at. kept-or-written all k row (all.each k row at);
        }
      where
        kept-or-written : (all : AreAll base id 0 rows written given) (k : ℕ) (row : FieldRow) → IsOne base id written given all.fields 0 k row.name → IsWritten written given all.fields k row.name ⊎ IsKept base id written all.fields k row.name
        kept-or-written all k row (inl one) = inl one
        kept-or-written all k row (inr one) = inr (record { unwritten = one.0; there = one.1 ∙ ap (λ n. Some (At (projected (FieldOf (record { parent = variant.StructId id; local_id = n })) base))) (let same : 0 + k ≡ k = omega arith in same) })
    by_test false same = absurd cc
