-- What an element leads to from a value of a type that has it: of which type that is, and that it lies inside.
use Rattle.std.proofs.Common.{◌≡◌, ℕ, suc, ◌+◌, ◌*◌, ◌<◌, ◌≤◌, false, IfSome, List, slice_get, get_or, Option, Some, None, option_map, option_and_then, if◌then◌else◌, sym, ap, ap₂, ◌∙◌, subst, rules, arith, leb-false, lt-ltb}
use Rattle.std.proofs.lemmas.Nat.{mul-le}
use Rattle.std.proofs.lemmas.Option.{slice_get_within, slice_get-get_or}
use Rattle.types.specs.declared.ids.AdtId.TheVariants as adt
use Rattle.types.specs.declared.ids.FieldId.{FieldId}
use Rattle.types.specs.declared.ids.StructId.{StructId}
use Rattle.types.specs.declared.ids.VariantId.{VariantId}
use Rattle.types.specs.declared.ty.Const.{Const}
use Rattle.types.specs.declared.ty.Const.TheFolds.{the_lemmas}
use Rattle.types.specs.declared.ty.Const.TheOpen as layer
use Rattle.types.specs.declared.ty.GenericArgs.{GenericArgs}
use Rattle.types.specs.declared.ty.Ty.{Ty}
use Rattle.types.specs.declared.ty.Ty.TheVariants.{Adt, Array, Tuple}
use Rattle.world.specs.declared.database.HirDatabase.{HirDatabase}
use Rattle.world.specs.declared.items.FieldRow.{FieldRow}
use Rattle.world.specs.declared.layout.Layout.{Layout}
use Rattle.world.specs.Lookups.{layout_of}
use Rattle.source_meaning.specs.Aggregates.{HasAggregates, IsPartInside, array_length}
use Rattle.check_instances.specs.Ready.{ready_instance}
use Rattle.source_meaning.specs.Core.{ElementAt, PlaceElem, Part, FieldOf}
use Rattle.source_meaning.specs.Indices.{array_element, element_offset, element_size, is_past}
use Rattle.source_meaning.specs.Places.{elem_past, elem_type, elem_offset, field_at}
use Rattle.source_meaning.specs.Valid.{HasElem, HasElements, HasField, HasPart}
use Rattle.source_meaning.proofs.Aggregates.{length_of_array}

-- the type of a part of a tuple
pub part-type : (world : HirDatabase) (index : ℕ) (parts : List Ty) → elem_type world (Part index) (Tuple parts) ≡ slice_get parts index
part-type world index parts = search (the_lemmas, rules)

-- the type of a field of a struct, by the struct's variant of types
field-layer : (world : HirDatabase) (field : FieldId) (id : StructId) (args : GenericArgs) → elem_type world (FieldOf field) (Adt (adt.StructId id) args) ≡ field_at world field field.parent (layer.Adt (adt.StructId id) args)
field-layer world field id args = search (the_lemmas, rules)

-- it is the row's at the struct's generic arguments
own-type : (world : HirDatabase) (field : FieldId) (base ty : Ty) (has : HasField world field base ty) → field_at world field field.parent (layer.Adt (adt.StructId has.id) has.args) ≡ Some ty
own-type world field base ty has =
    ap (λ (parent : VariantId). field_at world field parent (layer.Adt (adt.StructId has.id) has.args)) has.parent
    ∙ ap (λ (fields : Option (List FieldRow)). option_and_then (λ (row : FieldRow). ready_instance has.args row.ty) (option_and_then (λ (rows : List FieldRow). slice_get rows field.local_id) fields)) has.found
    ∙ ap (option_and_then (λ (row : FieldRow). ready_instance has.args row.ty)) has.there
    ∙ has.ready

-- the type of an element of an array
pub element-type : (element : Ty) (len : Const) → array_element (Array element len) ≡ Some element
element-type element len = search (the_lemmas, rules)

pub elem-type : (world : HirDatabase) (elem : PlaceElem) (base ty : Ty) → HasElem world elem base ty → elem_type world elem base ≡ Some ty
elem-type world (Part index) base ty has = ap (elem_type world (Part index)) has.is ∙ part-type world index has.parts ∙ has.part_has
elem-type world (FieldOf field) base ty has = ap (elem_type world (FieldOf field)) has.is ∙ field-layer world field has.id has.args ∙ own-type world field base ty has
elem-type world (ElementAt e index) base ty has = ap array_element has.is ∙ element-type ty has.len

-- a part has an offset in the layout of its value, from which on it ends inside
record IsLaidInside (world : HirDatabase) (layout : Layout) (k : ℕ) (ty : Ty) : Type 0 where
  offset : ℕ
  begins : slice_get layout.offsets k ≡ Some offset
  inside : IsPartInside world layout.size offset ty

part-inside : (world : HirDatabase) → HasAggregates world → (layout : Layout) (index : ℕ) (base ty : Ty) → layout_of world base ≡ Some layout → HasPart index base ty → IsLaidInside world layout index ty
part-inside world aggregates layout index base ty laid has =
    let parts = aggregates.tuples has.parts layout (subst (λ (t : Ty). layout_of world t ≡ Some layout) has.is laid) in
    let within = slice_get_within has.parts index ty has.part_has in
    let behind = get_or layout.offsets index 0 in
    let there : slice_get layout.offsets index ≡ Some behind = slice_get-get_or layout.offsets index 0 (omega (arith, within, parts.count)) in
    record { offset = behind; begins = there; inside = parts.inside index behind ty has.part_has there }

field-inside : (world : HirDatabase) → HasAggregates world → (layout : Layout) (field : FieldId) (base ty : Ty) → layout_of world base ≡ Some layout → HasField world field base ty → IsLaidInside world layout field.local_id ty
field-inside world aggregates layout field base ty laid has =
    let index = field.local_id in
    let parts = aggregates.structs has.id has.args has.fields layout has.found (subst (λ (t : Ty). layout_of world t ≡ Some layout) has.is laid) in
    let within = slice_get_within has.fields index has.row has.there in
    let behind = get_or layout.offsets index 0 in
    let there : slice_get layout.offsets index ≡ Some behind = slice_get-get_or layout.offsets index 0 (omega (arith, within, parts.count)) in
    record { offset = behind; begins = there; inside = parts.inside index behind has.row ty has.there has.field_has there }

-- an array is as large as all its elements
record HasProduct (world : HirDatabase) (layout : Layout) (count : ℕ) (ty : Ty) : Type 0 where
  inner : Layout
  has : layout_of world ty ≡ Some inner
  product : layout.size ≡ count * inner.size

array-product : (world : HirDatabase) → HasAggregates world → (layout : Layout) (base ty : Ty) → layout_of world base ≡ Some layout → (has : HasElements base ty) → HasProduct world layout has.count ty
array-product world aggregates layout base ty laid has =
    let elements = aggregates.arrays ty has.len layout (subst (λ (t : Ty). layout_of world t ≡ Some layout) has.is laid) in
    record { inner = elements.inner; has = elements.has; product = subst (λ (number : Option ℕ). IfSome number (λ count. layout.size ≡ count * elements.inner.size)) has.known elements.product }

-- What an element leads to from a value of a type with a layout has a type with a layout.
pub elem-laid : (world : HirDatabase) → HasAggregates world → (layout : Layout) (elem : PlaceElem) (base ty : Ty) → layout_of world base ≡ Some layout → HasElem world elem base ty → (inner : Layout) × (layout_of world ty ≡ Some inner)
elem-laid world aggregates layout (Part index) base ty laid has = let part = (part-inside world aggregates layout index base ty laid has).inside in (part.layout, part.has)
elem-laid world aggregates layout (FieldOf field) base ty laid has = let part = (field-inside world aggregates layout field base ty laid has).inside in (part.layout, part.has)
elem-laid world aggregates layout (ElementAt e index) base ty laid has = let all = array-product world aggregates layout base ty laid has in (all.inner, all.has)

-- the index that an element is by is a number
abbrev pub HasNumber : (numbers : ℕ → Option ℕ) → PlaceElem → Type 0
HasNumber numbers (ElementAt e index) = (number : ℕ) × (numbers e ≡ Some number)
HasNumber numbers _ = Unit {0}

-- an element has an offset, from which on what it leads to ends inside
pub record LiesInside (world : HirDatabase) (numbers : ℕ → Option ℕ) (size : ℕ) (elem : PlaceElem) (base ty : Ty) : Type 0 where
  pub offset : ℕ
  pub begins : elem_offset world numbers elem base ≡ Some offset
  pub inside : IsPartInside world size offset ty

-- an element of an array at an index below the length ends within all elements
element-ends : (number count size : ℕ) → number < count → number * size + size ≤ count * size
element-ends number count size less = omega (arith, mul-le (suc number) size count size less (omega arith))

pub elem-inside : (world : HirDatabase) → HasAggregates world → (numbers : ℕ → Option ℕ) (layout : Layout) (elem : PlaceElem) (base ty : Ty) → layout_of world base ≡ Some layout → HasElem world elem base ty → HasNumber numbers elem →
    elem_past numbers elem (Some base) ≡ false → LiesInside world numbers layout.size elem base ty
elem-inside world aggregates numbers layout (Part index) base ty laid has numbered within =
    let part = part-inside world aggregates layout index base ty laid has in
    record { offset = part.offset; begins = ap (option_and_then (λ (l : Layout). slice_get l.offsets index)) laid ∙ part.begins; inside = part.inside }
elem-inside world aggregates numbers layout (FieldOf field) base ty laid has numbered within =
    let part = field-inside world aggregates layout field base ty laid has in
    record { offset = part.offset; begins = ap (option_and_then (λ (l : Layout). slice_get l.offsets field.local_id)) laid ∙ part.begins; inside = part.inside }
elem-inside world aggregates numbers layout (ElementAt e index) base ty laid has numbered within =
    let all = array-product world aggregates layout base ty laid has in
    let long : array_length base ≡ Some has.count = ap array_length has.is ∙ length_of_array ty has.len ∙ has.known in
    let size : element_size world base ≡ Some all.inner.size =
    ap (λ (found : Option Ty). option_map (λ (l : Layout). l.size) (option_and_then (layout_of world) found)) (ap array_element has.is ∙ element-type ty has.len) ∙ ap (option_map (λ (l : Layout). l.size)) all.has in
    let inside : is_past (Some has.count) (Some numbered.0) ≡ false = ap₂ is_past (sym long) (sym numbered.1) ∙ within in
    let less : numbered.0 < has.count = leb-false has.count numbered.0 inside in
    record {
      offset = numbered.0 * all.inner.size;
      begins = ap (λ (length : Option ℕ). element_offset length (element_size world base) (numbers e)) long
          ∙ ap (λ (one : Option ℕ). element_offset (Some has.count) one (numbers e)) size
          ∙ ap (element_offset (Some has.count) (Some all.inner.size)) numbered.1
          ∙ ap (λ test. if test then Some (numbered.0 * all.inner.size) else None) (lt-ltb numbered.0 has.count less);
      inside = record { layout = all.inner; has = all.has; ends = omega (arith, element-ends numbered.0 has.count all.inner.size less, all.product) };
    }
