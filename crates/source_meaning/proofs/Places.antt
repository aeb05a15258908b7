-- What lies at a place: as many bytes as its type's layout says, which are all inside the cell. So an operand has a value of its type
-- when the operation runs.
use Rattle.std.proofs.Common.{⊎_elim, ◌⊎◌, inl, ◌≡◌, ℕ, ◌+◌, ◌≤◌, ◌==◌, Bool, true, false, ◌||◌, List, [], ◌∷◌, ◌++◌, length, take, drop, if◌then◌else◌, Option, Some, None, unwrap_or, option_map, option_and_then, refl, sym, ap, ◌∙◌, subst, arith, le-leb, eq-eqb, length-drop, length-take-le}
use Rattle.types.specs.declared.scalars.UintTy.TheVariants.{Usize}
use Rattle.types.specs.declared.ty.Ty.{Ty, Bool as BoolTy, Uint as UintTy}
use Rattle.world.specs.declared.layout.Layout.{Layout}
use Rattle.world.specs.declared.database.HirDatabase.{HirDatabase}
use Rattle.world.specs.Checked.{IsChecked}
use Rattle.world.specs.Lookups.{layout_of}
use Rattle.numbers.specs.Aggregates.{with_part}
use Rattle.numbers.specs.Bytes.{value_of}
use Rattle.numbers.specs.Constants.{number_of_bytes}
use Rattle.numbers.specs.Operators.{kind_of}
use Rattle.source_meaning.specs.Aggregates.{HasAggregates}
use Rattle.source_meaning.specs.Meaning.{Value, operand_kind, values_of, is_byte}
use Rattle.source_meaning.specs.Places.{elem_type, elem_offset, elem_past, type_behind, added, offset_behind, leads_past, part_of, bytes_behind, bytes_with, place_type, place_bytes, is_out_of_bounds, cell_with, operand_bytes, operand_out, operands_bytes, some_out}
use Rattle.source_meaning.specs.Core.{ElementAt, FieldOf, Part, PlaceElem}
use Rattle.source_meaning.specs.Source.{Source, Store, IsSized, Cell, IndexOf, Place, number_held, whole, projected, Binding, Operand, Literally, At, node_type, binding_type, cell_type, cell_size}
use Rattle.source_meaning.specs.Valid.{HasElem, IsNumber, IsBool, HaveTypes, AreBound, IsLaidOut, AreLaidOut}
use Rattle.source_meaning.proofs.Aggregates.{AreBytes, with_part-there}
use Rattle.source_meaning.proofs.Calls.{AreFor}
use Rattle.source_meaning.proofs.Elements.{HasNumber, elem-inside, elem-laid, elem-type}
use Rattle.source_meaning.proofs.Indices.{HasIndexCell}
use Rattle.source_meaning.proofs.Layouts.{bool_is_number, bool_length_is_one, number_has_size}
use Rattle.source_meaning.proofs.Operators.{IsLengthOf}
use Rattle.source_meaning.proofs.Values.{size_at, IsValueOf, AreValues, number_is_long}

-- the type behind one element more
pub type_behind-more : (world : HirDatabase) (elems : List PlaceElem) (elem : PlaceElem) (ty : Option Ty) → type_behind world (elems ++ elem ∷ []) ty ≡ option_and_then (elem_type world elem) (type_behind world elems ty)
unfolding type_behind
type_behind-more world [] elem ty = refl
type_behind-more world (first ∷ rest) elem ty = type_behind-more world rest elem (option_and_then (elem_type world first) ty)

added-nothing : (some : Option ℕ) → added some (Some 0) ≡ added (Some 0) some
added-nothing (Some n) = ap Some (omega arith)
added-nothing None = refl

added-grouped : (first second third : Option ℕ) → added first (added second third) ≡ added (added first second) third
added-grouped (Some a) (Some b) (Some c) = ap Some (omega arith)
added-grouped (Some a) (Some b) None = refl
added-grouped (Some a) None third = refl
added-grouped None second third = refl

-- where it begins
pub offset_behind-more : (world : HirDatabase) (numbers : ℕ → Option ℕ) (elems : List PlaceElem) (elem : PlaceElem) (ty : Option Ty) →
    offset_behind world numbers (elems ++ elem ∷ []) ty ≡ added (offset_behind world numbers elems ty) (option_and_then (elem_offset world numbers elem) (type_behind world elems ty))
unfolding offset_behind type_behind
offset_behind-more world numbers [] elem ty = added-nothing (option_and_then (elem_offset world numbers elem) ty)
offset_behind-more world numbers (first ∷ rest) elem ty =
    let next = option_and_then (elem_type world first) ty in
    ap (added (option_and_then (elem_offset world numbers first) ty)) (offset_behind-more world numbers rest elem next)
    ∙ added-grouped (option_and_then (elem_offset world numbers first) ty) (offset_behind world numbers rest next) (option_and_then (elem_offset world numbers elem) (type_behind world rest next))

-- of two tests neither holds
pub neither : (one other : Bool) → one || other ≡ false → (one ≡ false) × (other ≡ false)
neither true other is = absurd cc
neither false other is = (refl, is)

or-nothing : (test : Bool) → test ≡ test || false
or-nothing true = refl
or-nothing false = refl

or-grouped : (first second third : Bool) → first || (second || third) ≡ (first || second) || third
or-grouped true second third = refl
or-grouped false second third = refl

-- whether it is out of bounds
pub leads_past-more : (world : HirDatabase) (numbers : ℕ → Option ℕ) (elems : List PlaceElem) (elem : PlaceElem) (ty : Option Ty) →
    leads_past world numbers (elems ++ elem ∷ []) ty ≡ leads_past world numbers elems ty || elem_past numbers elem (type_behind world elems ty)
unfolding leads_past type_behind
leads_past-more world numbers [] elem ty = sym (or-nothing (elem_past numbers elem ty))
leads_past-more world numbers (first ∷ rest) elem ty =
    let next = option_and_then (elem_type world first) ty in
    ap (λ later. elem_past numbers first ty || later) (leads_past-more world numbers rest elem next)
    ∙ or-grouped (elem_past numbers first ty) (leads_past world numbers rest next) (elem_past numbers elem (type_behind world rest next))

-- a part that ends within bytes is there
pub part_of-there : (offset size : ℕ) (bytes : List ℕ) → offset + size ≤ length bytes → AreBytes size (part_of offset size bytes)
part_of-there offset size bytes within = record {
  bytes = take size (drop offset bytes);
  is = ap (λ fits. if fits then Some (take size (drop offset bytes)) else None) (le-leb (offset + size) (length bytes) within);
  long = length-take-le size (drop offset bytes) (omega (arith, length-drop offset bytes));
}

-- Where the value of a place of a type lies in its cell, by the indices that a store holds: it ends within the cell.
pub record LiesIn (source : Source) (store : Store) (place : Place) (ty : Option Ty) : Type 0 where
  pub offset : ℕ
  pub begins : offset_behind source.world (number_held store) place.projection (cell_type source place.cell) ≡ Some offset
  pub ends : offset + size_at source ty ≤ cell_size source place.cell

-- A place of a type that has a layout: its elements lead to that type, and where it isn't out of bounds, the value there lies in the cell.
pub record IsPlaceOf (source : Source) (place : Place) (ty : Option Ty) : Type 0 where
  pub typed : place_type source place ≡ ty
  pub laid : IsLaidOut source ty
  pub lies : (store : Store) → IsSized source store → is_out_of_bounds source store place ≡ false → LiesIn source store place ty

-- bytes that a literal of a type may have
pub record IsLiteralOf (source : Source) (ty : Ty) (bytes : List ℕ) : Type 0 where
  pub long : IsNumber ty → IsLengthOf ty (length bytes)
  pub size : (length bytes ≡ size_at source (Some ty)) ⊎ IsBool ty

-- an operand of the type of an expression's value
abbrev pub IsOperandOf : Source → ℕ → Operand → Type 0
IsOperandOf source e (Literally ty bytes) = (node_type source e ≡ Some ty) × IsLiteralOf source ty bytes
IsOperandOf source e (At place) = IsPlaceOf source place (node_type source e)

-- and operands, one of each expression's
abbrev pub AreOperandsOf : Source → List ℕ → List Operand → Type 0
AreOperandsOf source [] [] = Unit {0}
AreOperandsOf source (e ∷ rest) (one ∷ others) = IsOperandOf source e one × AreOperandsOf source rest others
AreOperandsOf source _ _ = ⊥

-- one byte is a number or is none
pub byte_decides : (number : ℕ) (given : Option (List ℕ)) → AreBytes 1 given → (test : Bool) × (is_byte number given ≡ Some test)
byte_decides number given one = let decided = of_bytes one.bytes one.long in (decided.0, ap (is_byte number) one.is ∙ decided.1)
  where
    of_bytes : (bytes : List ℕ) → length bytes ≡ 1 → (test : Bool) × (is_byte number (Some bytes) ≡ Some test)
    of_bytes [] long = absurd (omega arith)
    of_bytes (byte ∷ []) long = (byte == number, refl)
    of_bytes (byte ∷ other ∷ rest) long = absurd (omega arith)

-- an operand is a value of a type when the operation runs
pub record HasValue (source : Source) (store : Store) (operand : Operand) (ty : Ty) : Type 0 where
  pub bytes : List ℕ
  pub is : operand_bytes source store operand ≡ Some bytes
  pub value : IsValueOf source ty (record { kind = operand_kind source operand; bytes = bytes })

-- a cell that has at most 16 bytes holds a number
number-of-bytes : (bytes : List ℕ) → length bytes ≤ 16 → number_of_bytes bytes ≡ Some (value_of bytes)
number-of-bytes bytes short = ap (λ fits. if fits then Some (value_of bytes) else None) (le-leb (length bytes) 16 short)

module _ (source : Source) where
  -- a `usize` has at most 16 bytes
  usize-is-short : IsChecked source.world → size_at source (Some (UintTy Usize)) ≤ 16
  usize-is-short checked = by_layout (layout_of source.world (UintTy Usize)) refl
    where
      by_layout : (found : Option Layout) → layout_of source.world (UintTy Usize) ≡ found → unwrap_or (option_map (λ layout. layout.size) found) 0 ≤ 16
      by_layout (Some layout) found =
          let sized = number_has_size source.world (UintTy Usize) layout checked tt found in
          let same : 8 ≡ layout.size = cc in
          omega (arith, same)
      by_layout None found = omega arith

  -- so the index that an element is by is a number in each store
  has-number : IsChecked source.world → (elem : PlaceElem) → HasIndexCell source elem → (store : Store) → IsSized source store → HasNumber (number_held store) elem
  has-number checked (Part index) cell store sized = tt
  has-number checked (FieldOf field) cell store sized = tt
  has-number checked (ElementAt e index) cell store sized =
      let long : length (store (IndexOf e)) ≡ size_at source (Some (UintTy Usize)) = sized.holds_all (IndexOf e) ∙ ap (size_at source) cell in
      (value_of (store (IndexOf e)), number-of-bytes (store (IndexOf e)) (omega (arith, long, usize-is-short checked)))

  -- a cell is a place of its type
  pub whole_is_place : (cell : Cell) (ty : Option Ty) → cell_type source cell ≡ ty → IsLaidOut source ty → IsPlaceOf source (whole cell) ty
  unfolding place_type type_behind offset_behind
  whole_is_place cell ty is laid = record {
    typed = is;
    laid = laid;
    lies = λ store sized within. record { offset = 0; begins = refl; ends = let same = ap (size_at source) is in omega (arith, same) };
  }

  -- what an element leads to from a place lies in the cell, from where its base does on
  part_lies : IsChecked source.world → HasAggregates source.world → (place : Place) (base : Ty) (elem : PlaceElem) (ty : Ty) → IsPlaceOf source place (Some base) → HasElem source.world elem base ty → HasIndexCell source elem →
      (store : Store) → IsSized source store → is_out_of_bounds source store (projected elem place) ≡ false → LiesIn source store (projected elem place) (Some ty)
  unfolding place_type is_out_of_bounds
  part_lies checked aggregates place base elem ty fits has cell store sized within =
      let layout = fits.laid.layout in
      let found : layout_of source.world base ≡ Some layout = fits.laid.found in
      let whole_type = cell_type source place.cell in
      let numbers = number_held store in
      let both = neither (leads_past source.world numbers place.projection whole_type) (elem_past numbers elem (type_behind source.world place.projection whole_type)) (sym (leads_past-more source.world numbers place.projection elem whole_type) ∙ within) in
      let around = fits.lies store sized both.0 in
      let lies = elem-inside source.world aggregates numbers layout elem base ty found has (has-number checked elem cell store sized) (ap (elem_past numbers elem) (sym fits.typed) ∙ both.1) in
      let part = lies.inside in
      let size : size_at source (Some base) ≡ layout.size = ap (λ given. unwrap_or (option_map (λ l. l.size) given) 0) found in
      let size' : size_at source (Some ty) ≡ part.layout.size = ap (λ given. unwrap_or (option_map (λ l. l.size) given) 0) part.has in
      record {
        offset = around.offset + lies.offset;
        begins = offset_behind-more source.world numbers place.projection elem whole_type
            ∙ ap (λ given. added given (option_and_then (elem_offset source.world numbers elem) (type_behind source.world place.projection whole_type))) around.begins
            ∙ ap (λ given. added (Some around.offset) (option_and_then (elem_offset source.world numbers elem) given)) fits.typed
            ∙ ap (added (Some around.offset)) lies.begins;
        ends = omega (arith, around.ends, part.ends, size, size');
      }

  -- and is a place, of the type that it leads to
  pub part_is_place : IsChecked source.world → HasAggregates source.world → (place : Place) (base : Ty) (elem : PlaceElem) (ty : Ty) → IsPlaceOf source place (Some base) → HasElem source.world elem base ty → HasIndexCell source elem → IsPlaceOf source (projected elem place) (Some ty)
  unfolding place_type is_out_of_bounds
  part_is_place checked aggregates place base elem ty fits has cell =
      let layout = fits.laid.layout in
      let found : layout_of source.world base ≡ Some layout = fits.laid.found in
      let part = elem-laid source.world aggregates layout elem base ty found has in
      let whole_type = cell_type source place.cell in
      record {
        typed = type_behind-more source.world place.projection elem whole_type ∙ ap (option_and_then (elem_type source.world elem)) fits.typed ∙ elem-type source.world elem base ty has;
        laid = record { layout = part.0; found = part.1 };
        lies = λ store sized within. part_lies checked aggregates place base elem ty fits has cell store sized within;
      }

  -- what elements lead to in the bytes of a value
  behind-there : (numbers : ℕ → Option ℕ) (elems : List PlaceElem) (from ty : Option Ty) (offset : ℕ) (bytes : List ℕ) → type_behind source.world elems from ≡ ty → IsLaidOut source ty → offset_behind source.world numbers elems from ≡ Some offset →
      offset + size_at source ty ≤ length bytes → length bytes ≡ size_at source from → AreBytes (size_at source ty) (bytes_behind source.world numbers elems from bytes)
  unfolding bytes_behind type_behind
  behind-there numbers [] from ty offset bytes typed laid begins ends long = record { bytes = bytes; is = refl; long = long ∙ ap (size_at source) typed }
  behind-there numbers (elem ∷ rest) from ty offset bytes typed laid begins ends long =
      let size : option_map (λ layout. layout.size) (option_and_then (layout_of source.world) ty) ≡ Some (size_at source ty) =
      ap (option_map (λ layout. layout.size)) laid.found ∙ ap Some (sym (ap (λ given. unwrap_or (option_map (λ layout. layout.size) given) 0) laid.found)) in
      let there = part_of-there offset (size_at source ty) bytes ends in
      record {
        bytes = there.bytes;
        is = ap (option_and_then (λ start. option_and_then (λ count. part_of start count bytes) (option_map (λ layout. layout.size) (option_and_then (layout_of source.world) (type_behind source.world (elem ∷ rest) from))))) begins
            ∙ ap (λ given. option_and_then (λ count. part_of offset count bytes) (option_map (λ layout. layout.size) (option_and_then (layout_of source.world) given))) typed
            ∙ ap (option_and_then (λ count. part_of offset count bytes)) size
            ∙ there.is;
        long = there.long;
      }

  -- bytes of the size of what lies behind elements can be put there, and the value has as many bytes as before
  behind-put : (numbers : ℕ → Option ℕ) (elems : List PlaceElem) (from ty : Option Ty) (offset : ℕ) (put bytes : List ℕ) → type_behind source.world elems from ≡ ty → IsLaidOut source ty → offset_behind source.world numbers elems from ≡ Some offset →
      offset + size_at source ty ≤ length bytes → length bytes ≡ size_at source from → length put ≡ size_at source ty → AreBytes (length bytes) (bytes_with source.world numbers elems from put bytes)
  unfolding bytes_with type_behind
  behind-put numbers [] from ty offset put bytes typed laid begins ends long fits =
      let same : length put ≡ length bytes = fits ∙ sym (long ∙ ap (size_at source) typed) in
      record { bytes = put; is = ap (λ test. if test then Some put else None) (eq-eqb (length put) (length bytes) same); long = same }
  behind-put numbers (elem ∷ rest) from ty offset put bytes typed laid begins ends long fits =
      let size : option_map (λ layout. layout.size) (option_and_then (layout_of source.world) ty) ≡ Some (size_at source ty) =
      ap (option_map (λ layout. layout.size)) laid.found ∙ ap Some (sym (ap (λ given. unwrap_or (option_map (λ layout. layout.size) given) 0) laid.found)) in
      let there = with_part-there offset put bytes (omega (arith, ends, fits)) in
      record {
        bytes = there.bytes;
        is = ap (option_and_then (λ start. option_and_then (λ count. if length put == count then with_part start put bytes else None) (option_map (λ layout. layout.size) (option_and_then (layout_of source.world) (type_behind source.world (elem ∷ rest) from))))) begins
            ∙ ap (λ given. option_and_then (λ count. if length put == count then with_part offset put bytes else None) (option_map (λ layout. layout.size) (option_and_then (layout_of source.world) given))) typed
            ∙ ap (option_and_then (λ count. if length put == count then with_part offset put bytes else None)) size
            ∙ ap (λ test. if test then with_part offset put bytes else None) (eq-eqb (length put) (size_at source ty) fits)
            ∙ there.is;
        long = there.long;
      }

  -- what lies at a place of a type that isn't out of bounds has the size of the type
  pub place_has_bytes : (store : Store) (place : Place) (ty : Option Ty) → IsSized source store → IsPlaceOf source place ty → is_out_of_bounds source store place ≡ false → AreBytes (size_at source ty) (place_bytes source store place)
  unfolding place_bytes place_type
  place_has_bytes store place ty sized fits within =
      let all = sized.holds_all place.cell in
      let lies = fits.lies store sized within in
      behind-there (number_held store) place.projection (cell_type source place.cell) ty lies.offset (store place.cell) fits.typed fits.laid lies.begins (omega (arith, lies.ends, all)) all

  -- and bytes of that size can be put there, so that the cell has as many bytes as its type has
  pub place_takes_bytes : (store : Store) (place : Place) (ty : Option Ty) (put : List ℕ) → IsSized source store → IsPlaceOf source place ty → is_out_of_bounds source store place ≡ false → length put ≡ size_at source ty → AreBytes (cell_size source place.cell) (cell_with source store place put)
  unfolding cell_with place_type
  place_takes_bytes store place ty put sized fits within long =
      let all = sized.holds_all place.cell in
      let lies = fits.lies store sized within in
      subst (λ size. AreBytes size (bytes_with source.world (number_held store) place.projection (cell_type source place.cell) put (store place.cell))) all
      (behind-put (number_held store) place.projection (cell_type source place.cell) ty lies.offset put (store place.cell) fits.typed fits.laid lies.begins (omega (arith, lies.ends, all)) all long)

  -- which is a value of it
  pub place_has_value : IsChecked source.world → (store : Store) (place : Place) (ty : Ty) → IsSized source store → IsPlaceOf source place (Some ty) → is_out_of_bounds source store place ≡ false → HasValue source store (At place) ty
  place_has_value checked store place ty sized fits within =
      let there = place_has_bytes store place (Some ty) sized fits within in
      record {
        bytes = there.bytes;
        is = there.is;
        value = record {
          kind = ap (option_and_then kind_of) fits.typed;
          long = λ number. subst (IsLengthOf ty) (sym there.long) (number_is_long source checked ty fits.laid number);
          size = inl there.long;
        };
      }

  -- the values of operands, where each has bytes
  pub values_of-more : (store : Store) (first : Operand) (rest : List Operand) (bytes : List ℕ) (others : List Value) → operand_bytes source store first ≡ Some bytes → values_of source store rest ≡ Some others →
      values_of source store (first ∷ rest) ≡ Some (record { kind = operand_kind source first; bytes = bytes } ∷ others)
  unfolding values_of
  values_of-more store first rest bytes others is is' =
      ap (λ given. option_and_then (λ (value : Value). option_map (λ all. value ∷ all) (values_of source store rest)) (option_map (λ read. record { kind = operand_kind source first; bytes = read }) given)) is
      ∙ ap (option_map (λ all. record { kind = operand_kind source first; bytes = bytes } ∷ all)) is'

  -- and their bytes
  pub operands_bytes-more : (store : Store) (first : Operand) (rest : List Operand) (bytes : List ℕ) (others : List (List ℕ)) → operand_bytes source store first ≡ Some bytes → operands_bytes source store rest ≡ Some others →
      operands_bytes source store (first ∷ rest) ≡ Some (bytes ∷ others)
  unfolding operands_bytes
  operands_bytes-more store first rest bytes others is is' =
      ap (option_and_then (λ (read : List ℕ). option_map (λ all. read ∷ all) (operands_bytes source store rest))) is ∙ ap (option_map (λ all. bytes ∷ all)) is'

  -- a source in the same world has types of the same sizes
  pub same_size : (called : Source) → called.world ≡ source.world → (ty : Option Ty) → size_at called ty ≡ size_at source ty
  same_size called same ty = ap (λ world. unwrap_or (option_map (λ layout. layout.size) (option_and_then (layout_of world) ty)) 0) same

  -- and with the same layouts
  pub same_layout : (called : Source) → called.world ≡ source.world → (ty : Option Ty) → IsLaidOut called ty → IsLaidOut source ty
  same_layout called same ty laid = record { layout = laid.layout; found = ap (λ world. option_and_then (layout_of world) ty) (sym same) ∙ laid.found }

  module _ (checked : IsChecked source.world) where
    -- what an operand's bytes are when the operation runs, where it isn't out of bounds then
    pub operand_is_value : (e : ℕ) (ty : Ty) (operand : Operand) (store : Store) → IsSized source store → node_type source e ≡ Some ty → IsOperandOf source e operand → operand_out source store operand ≡ false → HasValue source store operand ty
    operand_is_value e ty (Literally given bytes) store sized is fits within =
        let same : given ≡ ty = (let one = fits.0 in cc) in
        record {
          bytes = bytes;
          is = refl;
          value = record {
            kind = ap kind_of same;
            long = subst (λ t. IsNumber t → IsLengthOf t (length bytes)) same fits.1.long;
            size = subst (λ t. (length bytes ≡ size_at source (Some t)) ⊎ IsBool t) same fits.1.size;
          };
        }
    operand_is_value e ty (At place) store sized is fits within = place_has_value checked store place ty sized (subst (IsPlaceOf source place) is fits) within

    -- the one byte of an operand of type `bool`
    pub truth_has_byte : (e : ℕ) (operand : Operand) (store : Store) → IsSized source store → node_type source e ≡ Some BoolTy → IsOperandOf source e operand → operand_out source store operand ≡ false → AreBytes 1 (operand_bytes source store operand)
    truth_has_byte e operand store sized is fits within = let read = operand_is_value e BoolTy operand store sized is fits within in record { bytes = read.bytes; is = read.is; long = read.value.long tt }

    -- what an operation reads of operands when it runs
    pub operands_are_values : (operands : List ℕ) (types : List Ty) (given : List Operand) (store : Store) → IsSized source store → HaveTypes source operands types → AreOperandsOf source operands given → some_out source store given ≡ false →
        (values : List Value) × (values_of source store given ≡ Some values) × AreValues source types values
    unfolding values_of some_out
    operands_are_values [] [] [] store sized have fits within = ([], refl, tt)
    operands_are_values [] [] (one ∷ others) store sized have fits within = absurd fits
    operands_are_values [] (ty ∷ types) given store sized have fits within = absurd have
    operands_are_values (e ∷ rest) [] given store sized have fits within = absurd have
    operands_are_values (e ∷ rest) (ty ∷ types) [] store sized have fits within = absurd fits
    operands_are_values (e ∷ rest) (ty ∷ types) (one ∷ others) store sized have fits within =
        let both = neither (operand_out source store one) (some_out source store others) within in
        let read = operand_is_value e ty one store sized have.0 fits.0 both.0 in
        let later = operands_are_values rest types others store sized have.1 fits.1 both.1 in
        (record { kind = operand_kind source one; bytes = read.bytes } ∷ later.0, values_of-more store one others read.bytes later.0 read.is later.1, (read.value, later.2))

    -- operands have bytes when a call runs
    pub operands_have_bytes : (types : List Ty) (args : List ℕ) (given : List Operand) (store : Store) → IsSized source store → HaveTypes source args types → AreOperandsOf source args given → some_out source store given ≡ false →
        (all : List (List ℕ)) × (operands_bytes source store given ≡ Some all)
    unfolding operands_bytes some_out
    operands_have_bytes [] [] [] store sized have fits within = ([], refl)
    operands_have_bytes [] [] (one ∷ others) store sized have fits within = absurd fits
    operands_have_bytes [] (e ∷ rest) given store sized have fits within = absurd have
    operands_have_bytes (ty ∷ types) [] given store sized have fits within = absurd have
    operands_have_bytes (ty ∷ types) (e ∷ rest) [] store sized have fits within = absurd fits
    operands_have_bytes (ty ∷ types) (e ∷ rest) (one ∷ others) store sized have fits within =
        let both = neither (operand_out source store one) (some_out source store others) within in
        let read = operand_is_value e ty one store sized have.0 fits.0 both.0 in
        let later = operands_have_bytes types rest others store sized have.1 fits.1 both.1 in
        (read.bytes ∷ later.0, operands_bytes-more store one others read.bytes later.0 read.is later.1)

    -- an argument has as many bytes as the cell of a parameter of its type
    argument_fits : (called : Source) → called.world ≡ source.world → AreLaidOut called → (e b : ℕ) (ty : Ty) (operand : Operand) (store : Store) → IsSized source store → node_type source e ≡ Some ty → binding_type called b ≡ Some ty → IsOperandOf source e operand → operand_out source store operand ≡ false →
        AreBytes (cell_size called (Binding b)) (operand_bytes source store operand)
    argument_fits called same laid_out e b ty operand store sized is is' fits within =
        let read = operand_is_value e ty operand store sized is fits within in
        let size : cell_size called (Binding b) ≡ size_at source (Some ty) = ap (size_at called) is' ∙ same_size called same (Some ty) in
        let laid = same_layout called same (Some ty) (laid_out.bindings b ty is') in
        record {
          bytes = read.bytes;
          is = read.is;
          long = ⊎_elim (λ long. long ∙ sym size)
              (λ is_bool.
              let scalar = bool_is_number ty is_bool in
              bool_length_is_one ty (length read.bytes) is_bool (read.value.long scalar) ∙ sym (bool_length_is_one ty (size_at source (Some ty)) is_bool (number_is_long source checked ty laid scalar)) ∙ sym size)
              read.value.size;
        }

    -- and arguments that of all parameters
    pub arguments_fit : (called : Source) → called.world ≡ source.world → AreLaidOut called → (types : List Ty) (args bound : List ℕ) (given : List Operand) (store : Store) → IsSized source store → HaveTypes source args types → AreBound called bound types → AreOperandsOf source args given → some_out source store given ≡ false →
        (all : List (List ℕ)) × (operands_bytes source store given ≡ Some all) × AreFor called bound all
    unfolding operands_bytes some_out
    arguments_fit called same laid_out [] [] [] [] store sized have bound_have fits within = ([], refl, tt)
    arguments_fit called same laid_out [] [] (b ∷ bound) given store sized have bound_have fits within = absurd bound_have
    arguments_fit called same laid_out [] [] [] (one ∷ others) store sized have bound_have fits within = absurd fits
    arguments_fit called same laid_out [] (e ∷ rest) bound given store sized have bound_have fits within = absurd have
    arguments_fit called same laid_out (ty ∷ types) [] bound given store sized have bound_have fits within = absurd have
    arguments_fit called same laid_out (ty ∷ types) (e ∷ rest) [] given store sized have bound_have fits within = absurd bound_have
    arguments_fit called same laid_out (ty ∷ types) (e ∷ rest) (b ∷ bound) [] store sized have bound_have fits within = absurd fits
    arguments_fit called same laid_out (ty ∷ types) (e ∷ rest) (b ∷ bound) (one ∷ others) store sized have bound_have fits within =
        let both = neither (operand_out source store one) (some_out source store others) within in
        let read = argument_fits called same laid_out e b ty one store sized have.0 bound_have.0 fits.0 both.0 in
        let later = arguments_fit called same laid_out types rest bound others store sized have.1 bound_have.1 fits.1 both.1 in
        (read.bytes ∷ later.0, operands_bytes-more store one others read.bytes later.0 read.is later.1, (read.long, later.2))
