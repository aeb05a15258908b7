-- What gives the fields of a struct literal: values of their types.
use Rattle.std.proofs.Common.{◌≡◌, ℕ, zero, suc, false, List, [], ◌∷◌, slice_get, Option, Some, option_and_then, option_map, refl, sym, ap, ◌∙◌, subst}
use Rattle.types.specs.declared.ty.GenericArgs.{GenericArgs}
use Rattle.types.specs.declared.ty.Ty.{Ty}
use Rattle.world.specs.Checked.{IsChecked}
use Rattle.world.specs.declared.items.FieldRow.{FieldRow}
use Rattle.source_meaning.specs.Aggregates.{HasAggregates}
use Rattle.source_meaning.specs.Core.{FieldOf}
use Rattle.source_meaning.specs.Meaning.{Value, operand_kind, values_of}
use Rattle.source_meaning.specs.Places.{operand_out, some_out}
use Rattle.source_meaning.specs.Source.{Source, Store, IsSized, Operand, At, Place, node_type, projected}
use Rattle.source_meaning.specs.Structs.{AreFieldTypes, FieldSource, Written, OfBase, field_type, picked}
use Rattle.source_meaning.specs.Updates.{field_operand, field_operands}
use Rattle.source_meaning.specs.Valid.{HaveTypes, IsGiven, AreGiven}
use Rattle.source_meaning.proofs.Places.{IsPlaceOf, IsOperandOf, AreOperandsOf, HasValue, neither, operand_is_value, operands_are_values, part_is_place, place_has_value, values_of-more}
use Rattle.source_meaning.proofs.Structs.{picked-more, picked-none, picks-first}
use Rattle.source_meaning.proofs.Values.{AreValues}

-- the operands of fields, where the first one and the others are there
pub field_operands-more : (base : Place) (given : List Operand) (source : FieldSource) (sources : List FieldSource) (first : Operand) (others : List Operand) →
    field_operand base given source ≡ Some first → field_operands base given sources ≡ Some others → field_operands base given (source ∷ sources) ≡ Some (first ∷ others)
unfolding field_operands
field_operands-more base given source sources first others is rest =
    ap (option_and_then (λ (one : Operand). option_map (λ (more : List Operand). one ∷ more) (field_operands base given sources))) is
    ∙ ap (option_map (λ (more : List Operand). first ∷ more)) rest

pub no_field_operands : (base : Place) (given : List Operand) → field_operands base given [] ≡ Some []
unfolding field_operands
no_field_operands base given = refl

no_values : (source : Source) (store : Store) → values_of source store [] ≡ Some []
unfolding values_of
no_values source store = refl

-- the operand at an index is that of an expression of a type
record IsOperandAt (source : Source) (given : List Operand) (k : ℕ) (ty : Ty) : Type 0 where
  e : ℕ
  operand : Operand
  is : slice_get given k ≡ Some operand
  has : node_type source e ≡ Some ty
  fits : IsOperandOf source e operand

operand-at : (source : Source) (operands : List ℕ) (types : List Ty) (given : List Operand) → HaveTypes source operands types → AreOperandsOf source operands given → (k : ℕ) (ty : Ty) → slice_get types k ≡ Some ty → IsOperandAt source given k ty
operand-at source [] [] given have fits k ty at = absurd cc
operand-at source [] (first ∷ types) given have fits k ty at = absurd have
operand-at source (e ∷ rest) [] given have fits k ty at = absurd have
operand-at source (e ∷ rest) (first ∷ types) [] have fits k ty at = absurd fits
operand-at source (e ∷ rest) (first ∷ types) (one ∷ others) have fits zero ty at =
    let same : first ≡ ty = cc in record { e = e; operand = one; is = refl; has = have.0 ∙ ap Some same; fits = fits.0 }
operand-at source (e ∷ rest) (first ∷ types) (one ∷ others) have fits (suc k) ty at =
    let later = operand-at source rest types others have.1 fits.1 k ty at in record { e = later.e; operand = later.operand; is = later.is; has = later.has; fits = later.fits }

-- and those at places are those of expressions of the types there
pub record ArePicked (source : Source) (places : List ℕ) (given : List Operand) (chosen : List Ty) : Type 0 where
  pub from : List ℕ
  pub operands : List Operand
  pub is : picked places given ≡ Some operands
  pub have : HaveTypes source from chosen
  pub fit : AreOperandsOf source from operands

pub picked-operands : (source : Source) (operands : List ℕ) (types : List Ty) (given : List Operand) → HaveTypes source operands types → AreOperandsOf source operands given → (places : List ℕ) (chosen : List Ty) → picked places types ≡ Some chosen → ArePicked source places given chosen
picked-operands source operands types given have fits [] chosen picks =
    let none : Some chosen ≡ Some [] = sym picks ∙ picked-none types in
    let same : chosen ≡ [] = cc in
    subst (ArePicked source [] given) (sym same) (record { from = []; operands = []; is = picked-none given; have = tt; fit = tt })
picked-operands source operands types given have fits (place ∷ places) chosen picks =
    let first = picks-first place places types chosen picks in
    let one = operand-at source operands types given have fits place first.first first.there in
    let rest = picked-operands source operands types given have fits places first.others first.rest in
    subst (ArePicked source (place ∷ places) given) (sym first.are)
    (record { from = one.e ∷ rest.from; operands = one.operand ∷ rest.operands; is = picked-more place places given one.operand rest.operands one.is rest.is; have = (one.has, rest.have); fit = (one.fits, rest.fit) })

-- an operand is there, and reads as a value where it isn't out of bounds
record IsRead (source : Source) (store : Store) (found : Option Operand) (ty : Ty) : Type 0 where
  operand : Operand
  is : found ≡ Some operand
  has : operand_out source store operand ≡ false → HasValue source store operand ty

-- operands of some fields are values of the fields' types
pub record AreRead (source : Source) (store : Store) (args : GenericArgs) (rows : List FieldRow) (operands : List Operand) : Type 0 where
  pub types : List Ty
  pub typed : AreFieldTypes source.world args rows types
  pub values : List Value
  pub read : values_of source store operands ≡ Some values
  pub are : AreValues source types values

-- there is an operand for each of some fields, and these are such values where none is out of bounds
pub record AreFields (source : Source) (store : Store) (args : GenericArgs) (rows : List FieldRow) (found : Option (List Operand)) : Type 0 where
  pub operands : List Operand
  pub is : found ≡ Some operands
  pub are : some_out source store operands ≡ false → AreRead source store args rows operands

module _ (source : Source) (checked : IsChecked source.world) (aggregates : HasAggregates source.world) (store : Store) (sized : IsSized source store) where
  -- operands at places are values of the types there, which are those of some fields
  pub picked-are-read : (operands : List ℕ) (types : List Ty) (given : List Operand) → HaveTypes source operands types → AreOperandsOf source operands given → (args : GenericArgs) (rows : List FieldRow) (places : List ℕ) (chosen : List Ty) → picked places types ≡ Some chosen →
      AreFieldTypes source.world args rows chosen → AreFields source store args rows (picked places given)
  picked-are-read operands types given have fits args rows places chosen picks typed =
      let found = picked-operands source operands types given have fits places chosen picks in
      record {
        operands = found.operands;
        is = found.is;
        are = λ within. (let read = operands_are_values source checked found.from chosen found.operands store sized found.have found.fit within in record { types = chosen; typed = typed; values = read.0; read = read.1; are = read.2 });
      }

  -- the operand at the place of a type reads as a value of it
  reads-at : (operands : List ℕ) (types : List Ty) (given : List Operand) → HaveTypes source operands types → AreOperandsOf source operands given → (k : ℕ) (ty : Ty) → slice_get types k ≡ Some ty → IsRead source store (slice_get given k) ty
  reads-at operands types given have fits k ty at =
      let one = operand-at source operands types given have fits k ty at in
      record { operand = one.operand; is = one.is; has = λ within. operand_is_value source checked one.e ty one.operand store sized one.has one.fits within }

  module _ (base : Place) (base_ty : Ty) (fits : IsPlaceOf source base (Some base_ty)) (operands : List ℕ) (types : List Ty) (given : List Operand) (have : HaveTypes source operands types) (fit : AreOperandsOf source operands given) (args : GenericArgs) where
    -- what gives a field is a value of a type that the field has
    field-read : (row : FieldRow) (from : FieldSource) → IsGiven source.world args base_ty types row from → (ty : Ty) × (field_type source.world args row ≡ Some ty) × IsRead source store (field_operand base given from) ty
    field-read row (Written place) is = (is.0, is.2, reads-at operands types given have fit place is.0 is.1)
    field-read row (OfBase field) is =
        let at = projected (FieldOf field) base in
        (is.0, is.2, record { operand = At at; is = refl; has = place_has_value source checked store at is.0 sized (part_is_place source checked aggregates base base_ty (FieldOf field) is.0 fits is.1 tt) })

    -- and so is what gives each field
    pub fields-are-read : (rows : List FieldRow) (sources : List FieldSource) → AreGiven source.world args base_ty types rows sources → AreFields source store args rows (field_operands base given sources)
    unfolding some_out
    fields-are-read [] [] are = record {
      operands = [];
      is = no_field_operands base given;
      are = λ within. record { types = []; typed = tt; values = []; read = no_values source store; are = tt };
    }
    fields-are-read [] (from ∷ sources) are = absurd are
    fields-are-read (row ∷ rows) [] are = absurd are
    fields-are-read (row ∷ rows) (from ∷ sources) are = with-others (field-read row from are.0) (fields-are-read rows sources are.1)
      where
        with-others : (ty : Ty) × (field_type source.world args row ≡ Some ty) × IsRead source store (field_operand base given from) ty → AreFields source store args rows (field_operands base given sources) →
            AreFields source store args (row ∷ rows) (field_operands base given (from ∷ sources))
        with-others first rest =
            let one = first.2 in
            record {
              operands = one.operand ∷ rest.operands;
              is = field_operands-more base given from sources one.operand rest.operands one.is rest.is;
              are = λ within. both-read first.0 first.1 one.operand rest.operands one.has rest.are within;
            }
          where
            both-read : (ty : Ty) → field_type source.world args row ≡ Some ty → (operand : Operand) (others : List Operand) → (operand_out source store operand ≡ false → HasValue source store operand ty) →
                (some_out source store others ≡ false → AreRead source store args rows others) → some_out source store (operand ∷ others) ≡ false → AreRead source store args (row ∷ rows) (operand ∷ others)
            both-read ty typed operand others reads others_read within =
                let both = neither (operand_out source store operand) (some_out source store others) within in
                let value = reads both.0 in
                let rest = others_read both.1 in
                record {
                  types = ty ∷ rest.types;
                  typed = (typed, rest.typed);
                  values = record { kind = operand_kind source operand; bytes = value.bytes } ∷ rest.values;
                  read = values_of-more source store operand others value.bytes rest.values value.is rest.read;
                  are = (value.value, rest.are);
                }
