-- What gives the fields of a struct literal with a base: as many are written as are found by their names.
use Rattle.std.proofs.Common.{◌≡◌, ℕ, suc, ◌+◌, ◌<◌, ◌≤◌, ◌==◌, Bool, true, false, cond, List, [], ◌∷◌, ◌++◌, length, drop, get_or, map, filter, Option, Some, None, if◌then◌else◌, refl, sym, ap, ◌∙◌, arith, append-nil, append_assoc}
use Rattle.std.specs.Prelude.{count_by, is_some}
use Rattle.std.proofs.lemmas.List.{drop_all, map-append}
use Rattle.std.proofs.lemmas.List.Sums.{length-filter}
use Rattle.types.specs.declared.ids.StructId.{StructId}
use Rattle.world.specs.declared.expr.RecordLitField.{RecordLitField}
use Rattle.world.specs.declared.items.FieldRow.{FieldRow}
use Rattle.source_meaning.specs.Structs.{FieldSource as CoreSource, all_sources, field_sources, is_written, place_named, source_by}
use Rattle.body_forms.specs.Form.{core_source}
use Rattle.body_forms.specs.declared.structs.FieldSource.{FieldSource}
use Rattle.body_forms.proofs.Arranged.{from-here}

written-by : (id : StructId) (index : ℕ) (place : Option ℕ) → is_written (source_by id index place) ≡ is_some place
written-by id index (Some place) = refl
written-by id index None = refl

longer-alike : {X Y : Type 0} (test : Bool) (x : X) (xs : List X) (y : Y) (ys : List Y) → length xs ≡ length ys → length (cond test (x ∷ xs) xs) ≡ length (cond test (y ∷ ys) ys)
longer-alike true x xs y ys same = ap suc same
longer-alike false x xs y ys same = same

count-same : (id : StructId) (index : ℕ) (fields : List FieldRow) (written : List RecordLitField) →
    length (filter (λ (field : FieldRow). is_some (place_named field.name written)) fields) ≡ length (filter is_written (field_sources id index fields written))
unfolding field_sources
count-same id index [] written = refl
count-same id index (field ∷ fields) written =
    let place = place_named field.name written in
    let rest = filter is_written (field_sources id (suc index) fields written) in
    longer-alike (is_some place) field (filter (λ (one : FieldRow). is_some (place_named one.name written)) fields) (source_by id index place) rest (count-same id (suc index) fields written)
    ∙ ap (λ test. length (cond test (source_by id index place ∷ rest) rest)) (sym (written-by id index place))

-- whether each written field gives one of the struct's
pub known-is : (id : StructId) (fields : List FieldRow) (written : List RecordLitField) → (count_by (λ (field : FieldRow). is_some (place_named field.name written)) fields == length written) ≡ is_some (all_sources id fields written)
known-is id fields written = ap (λ count. count == length written) (sym (length-filter (λ (field : FieldRow). is_some (place_named field.name written)) fields) ∙ count-same id 0 fields written) ∙ by_test (length (filter is_written (field_sources id 0 fields written)) == length written)
  where
    by_test : (test : Bool) → test ≡ is_some (if test then Some (field_sources id 0 fields written) else None)
    by_test true = refl
    by_test false = refl

-- with those of the fields from here on they are those of all
module _ (id : StructId) (fields : List FieldRow) (written : List RecordLitField) (i : ℕ) where
  pub sources-next : (field : FieldRow) (source : FieldSource) (done all : List FieldSource) (whole : List CoreSource) → i < length fields → field ≡ get_or fields i field → core_source source ≡ source_by id i (place_named field.name written) → all ≡ done ++ source ∷ [] →
      map core_source done ++ field_sources id i (drop i fields) written ≡ whole → map core_source all ++ field_sources id (i + 1) (drop (i + 1) fields) written ≡ whole
  unfolding field_sources
  sources-next field source done all whole less is made pushed same =
      let rest = field_sources id (suc i) (drop (i + 1) fields) written in
      let here : field_sources id i (drop i fields) written ≡ source_by id i (place_named field.name written) ∷ rest = ap (λ (fs : List FieldRow). field_sources id i fs written) (from-here fields i field less is) in
      let next : i + 1 ≡ suc i = omega arith in
      ap (λ (a : List FieldSource). map core_source a ++ field_sources id (i + 1) (drop (i + 1) fields) written) pushed
      ∙ ap (λ n. map core_source (done ++ source ∷ []) ++ field_sources id n (drop (i + 1) fields) written) next
      ∙ ap (λ (m : List CoreSource). m ++ rest) (map-append core_source done (source ∷ []))
      ∙ append_assoc (map core_source done) (core_source source ∷ []) rest
      ∙ ap (λ (one : CoreSource). map core_source done ++ one ∷ rest) made
      ∙ ap (λ (m : List CoreSource). map core_source done ++ m) (sym here)
      ∙ same

  pub sources-last : (done : List FieldSource) (whole : List CoreSource) → length fields ≤ i → map core_source done ++ field_sources id i (drop i fields) written ≡ whole → map core_source done ≡ whole
  unfolding field_sources
  sources-last done whole none same =
      sym (append-nil (map core_source done)) ∙ ap (λ (fs : List FieldRow). map core_source done ++ field_sources id i fs written) (sym (drop_all i fields none)) ∙ same
