-- What the fields of a struct literal are given, and that nothing which is written in it is lost.
use Rattle.std.specs.Prelude.{◌≡◌, ◌≢◌, ◌⊎◌, ℕ, ◌<◌, List, length, slice_get, Some}
use Rattle.types.specs.declared.ids.StructId.{StructId}
use Rattle.types.specs.declared.ids.VariantId.TheVariants as variant
use Rattle.world.specs.declared.expr.RecordLitField.{RecordLitField}
use Rattle.world.specs.declared.items.FieldRow.{FieldRow}
use Rattle.source_meaning.specs.Core.{FieldOf}
use Rattle.source_meaning.specs.Source.{Operand, At, Place, projected}
use Rattle.source_meaning.specs.Structs.{FieldSource, Written, all_places, all_sources, picked}
use Rattle.source_meaning.specs.Updates.{field_operands}

-- the operand at an index among those of the fields is that of a written field of a name
pub record IsWritten (written : List RecordLitField) (given fields : List Operand) (k : ℕ) (name : List ℕ) : Type 0 where
  pub place : ℕ
  pub one : RecordLitField
  pub stands : slice_get written place ≡ Some one
  pub named : one.name ≡ name
  pub operand : Operand
  pub evaluated : slice_get given place ≡ Some operand
  pub there : slice_get fields k ≡ Some operand

-- there is an operand for each field of a struct, and each is that of a written field of its name
pub record AreFieldsFilled (rows : List FieldRow) (written : List RecordLitField) (places : List ℕ) (given : List Operand) : Type 0 where
  pub fields : List Operand
  pub picks : picked places given ≡ Some fields
  pub many : length fields ≡ length rows
  pub each : (k : ℕ) (row : FieldRow) → slice_get rows k ≡ Some row → IsWritten written given fields k row.name

-- What a struct literal puts into the fields of its struct, in the order of their rows, are the operands of written fields of their names.
abbrev pub LiteralsGiveTheirFields : Type 0
LiteralsGiveTheirFields =
    (rows : List FieldRow) (written : List RecordLitField) (places : List ℕ) (given : List Operand) →
    all_places rows written ≡ Some places → length given ≡ length written → AreFieldsFilled rows written places given

-- no two of a struct's fields have one name
abbrev pub HaveOwnNames : List FieldRow → Type 0
HaveOwnNames rows = (i j : ℕ) (one other : FieldRow) → slice_get rows i ≡ Some one → slice_get rows j ≡ Some other → one.name ≡ other.name → i ≡ j

-- Where a struct's fields have names of their own, a literal has a field for each value that is written in it.
abbrev pub LiteralsUseEachField : Type 0
LiteralsUseEachField =
    (rows : List FieldRow) (written : List RecordLitField) (places : List ℕ) → HaveOwnNames rows → all_places rows written ≡ Some places →
    (place : ℕ) → place < length written → (k : ℕ) × (slice_get places k ≡ Some place)

-- no written field has a name, and the operand at an index among those of the fields is the field of the base at that index
pub record IsKept (base : Place) (id : StructId) (written : List RecordLitField) (fields : List Operand) (k : ℕ) (name : List ℕ) : Type 0 where
  pub unwritten : (place : ℕ) (one : RecordLitField) → slice_get written place ≡ Some one → one.name ≢ name
  pub there : slice_get fields k ≡ Some (At (projected (FieldOf (record { parent = variant.StructId id; local_id = k })) base))

-- there is an operand for each field of a struct: that of a written field of its name, or else that field of the base
pub record AreUpdated (base : Place) (id : StructId) (rows : List FieldRow) (written : List RecordLitField) (sources : List FieldSource) (given : List Operand) : Type 0 where
  pub fields : List Operand
  pub found : field_operands base given sources ≡ Some fields
  pub many : length fields ≡ length rows
  pub each : (k : ℕ) (row : FieldRow) → slice_get rows k ≡ Some row → IsWritten written given fields k row.name ⊎ IsKept base id written fields k row.name

-- What a struct literal with a base puts into the fields of its struct, in the order of their rows, are the written fields of their names, and
-- the fields of the base for all others.
abbrev pub UpdatesGiveTheirFields : Type 0
UpdatesGiveTheirFields =
    (base : Place) (id : StructId) (rows : List FieldRow) (written : List RecordLitField) (sources : List FieldSource) (given : List Operand) →
    all_sources id rows written ≡ Some sources → length given ≡ length written → AreUpdated base id rows written sources given

-- Where a struct's fields have names of their own, a literal with a base has a field for each operand that is written in it.
abbrev pub UpdatesUseEachField : Type 0
UpdatesUseEachField =
    (id : StructId) (rows : List FieldRow) (written : List RecordLitField) (sources : List FieldSource) → HaveOwnNames rows → all_sources id rows written ≡ Some sources →
    (place : ℕ) → place < length written → (k : ℕ) × (slice_get sources k ≡ Some (Written place))
