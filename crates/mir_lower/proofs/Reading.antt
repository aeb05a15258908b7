-- What lies at a place of the graph: the bytes that the source has there.
use Rattle.std.proofs.Common.{◌≡◌, ℕ, ◌+◌, ◌-◌, ◌≤◌, ◌⊎◌, inl, inr, Bool, true, false, cond, leb, List, [], ◌∷◌, length, take, drop, Option, Some, None, option_and_then, option_map, refl, sym, ap, ◌∙◌, arith}
use Rattle.std.specs.Prelude.{◌||◌, slice_get}
use Rattle.std.proofs.Math.Seq.{take-take}
use Rattle.std.proofs.lemmas.Bool.{cases_eq}
use Rattle.std.proofs.lemmas.List.{drop-drop, drop-take}
use borrow.Author.Tests.{leb-true}
use Rattle.types.specs.declared.ids.FieldId.{FieldId}
use Rattle.types.specs.declared.ids.VariantId.{VariantId}
use Rattle.types.specs.declared.ids.VariantId.TheVariants as variant
use Rattle.types.specs.declared.ty.ComplexMemoryMap.{ComplexMemoryMap}
use Rattle.types.specs.declared.ty.Const.{Const}
use Rattle.types.specs.declared.ty.Const.TheOpen as layer
use Rattle.types.specs.declared.ty.GenericArg.{GenericArg}
use Rattle.types.specs.declared.ty.GenericArgs.{GenericArgs}
use Rattle.types.specs.declared.ty.MemoryMap.{MemoryMap}
use Rattle.types.specs.declared.ty.TraitRef.{TraitRef}
use Rattle.types.specs.declared.ty.Ty.{Ty, Ty-F, out-Ty}
use Rattle.types.specs.declared.ty.UnevaluatedConst.{UnevaluatedConst}
use Rattle.types.specs.declared.ty.ValueConst.{ValueConst}
use Rattle.world.specs.declared.database.HirDatabase.{HirDatabase}
use Rattle.world.specs.declared.layout.Layout.{Layout}
use Rattle.world.specs.Lookups.{layout_of}
use Rattle.mir.specs.Addresses.{moved}
use Rattle.mir.specs.Areas.{bytes_at, some_bytes_at, part_of}
use Rattle.mir.specs.declared.address.Address.{Address}
use Rattle.mir.specs.declared.address.Address.TheVariants.{Stack, Heap, Invalid}
use Rattle.mir.specs.declared.address.Interval.{Interval}
use Rattle.mir.specs.declared.body.Local.{Local}
use Rattle.mir.specs.declared.ids.LocalId.{LocalId}
use Rattle.mir.specs.declared.operand.OperandKind.TheVariants.{Copy}
use Rattle.mir.specs.declared.operand.Place.{Place as GraphPlace}
use Rattle.mir.specs.Memory.{Memory, cell_bytes, number_held}
use Rattle.mir.specs.Elements.{PlaceElem as GraphElem}
use Rattle.mir.specs.Places as graph
use Rattle.mir.specs.ProjectedTypes as graph_type
use Rattle.mir.specs.Projections.{Projection}
use Rattle.numbers.specs.Constants.{number_of_bytes}
use Rattle.mir.specs.Places.{part_of_cell, cell_at, cell_behind, place_cell, place_type, type_at}
use Rattle.mir.specs.Run.{Frame, operand_bytes as mir_bytes, operand_out as mir_out, operand_type as mir_type}
use Rattle.mir_mem.proofs.Parts.{bytes_at-some, part_of-inside}
use Rattle.mir_mem.proofs.Writing.{kept-some}
use Rattle.source_meaning.specs.Places as source_place
use Rattle.source_meaning.specs.Places.{place_bytes, bytes_behind, is_out_of_bounds}
use Rattle.source_meaning.specs.Aggregates.{array_length}
use Rattle.source_meaning.specs.Core.{PlaceElem, Part, FieldOf, ElementAt}
use Rattle.source_meaning.specs.Indices.{array_element, element_offset, element_size, is_past}
use Rattle.source_meaning.specs.Source.{Source, Store, cell_type, IndexOf, Place, At, number_held as held_number}
use Rattle.body_forms.specs.Form.{field_elem, part_elem}
use Rattle.mir_lower.specs.Does.{AreElements, IsAt, IsElement, IsFrameOf, Fits, Holds}
use Rattle.mir_graph.specs.Graph.{Shape, elements_in, local_of}
use Rattle.mir_lower.specs.Runs.{local_bytes}
use Rattle.mir_lower.specs.Growth.{IsSound}
use Rattle.mir_lower.proofs.Holding.{interval-of}
use Rattle.mir_lower.proofs.Stack.{length-cell_bytes}

-- Elements lead to the same types, as far from the value's first byte, where locals hold the numbers that the cells of indices hold.

-- a type's variant
abbrev TyLayer : Type 0
TyLayer = Ty-F Const GenericArg MemoryMap Ty ComplexMemoryMap GenericArgs TraitRef UnevaluatedConst ValueConst

by_layer : (world : HirDatabase) (index : ℕ) (ty : Ty) (one : TyLayer) → out-Ty ty ≡ one → graph.elem_type world (part_elem index) ty ≡ source_place.elem_type world (Part index) ty
by_layer world index ty (layer.Tuple parts) is = rw (is) refl
by_layer world index ty _ is = rw (is) refl

by_parent : (world : HirDatabase) (field : FieldId) (parent : VariantId) (ty : Ty) (one : TyLayer) → field.parent ≡ parent → out-Ty ty ≡ one → graph.elem_type world (field_elem field) ty ≡ source_place.elem_type world (FieldOf field) ty
by_parent world field (variant.StructId id) ty (layer.Adt of args) of_struct is = rw (of_struct, is) refl
by_parent world field (variant.EnumVariantId id) ty (layer.Adt of args) of_struct is = rw (of_struct, is) refl
by_parent world field (variant.UnionId id) ty (layer.Adt of args) of_struct is = rw (of_struct, is) refl
by_parent world field (variant.StructId id) ty _ of_struct is = rw (of_struct, is) refl
by_parent world field (variant.EnumVariantId id) ty _ of_struct is = rw (of_struct, is) refl
by_parent world field (variant.UnionId id) ty _ of_struct is = rw (of_struct, is) refl

-- the type and the number of an array's elements
element-same : (ty : Ty) (one : TyLayer) → out-Ty ty ≡ one → graph_type.array_element ty ≡ array_element ty
element-same ty (layer.Array element len) is = rw (is) refl
element-same ty _ is = rw (is) refl

length-same : (ty : Ty) (one : TyLayer) → out-Ty ty ≡ one → graph_type.array_length ty ≡ array_length ty
unfolding array_length
length-same ty (layer.Array element len) is = rw (is) refl
length-same ty _ is = rw (is) refl

size-same : (world : HirDatabase) (ty : Ty) → graph.element_size world ty ≡ element_size world ty
size-same world ty = ap (λ t. option_map (λ (layout : Layout). layout.size) (option_and_then (layout_of world) t)) (element-same ty (out-Ty ty) refl)

offset-alike : (length size index : Option ℕ) → graph.element_offset length size index ≡ element_offset length size index
offset-alike (Some length) (Some size) (Some index) = refl
offset-alike (Some length) (Some size) None = refl
offset-alike (Some length) None index = refl
offset-alike None size index = refl

past-alike : (length index : Option ℕ) → graph.is_past length index ≡ is_past length index
past-alike (Some length) (Some index) = refl
past-alike (Some length) None = refl
past-alike None index = refl

same_added : (one other : Option ℕ) → graph.added one other ≡ source_place.added one other
same_added (Some one) (Some other) = refl
same_added (Some one) None = refl
same_added None other = refl

module _ (s : Shape) (world : HirDatabase) where
  same_elem-type : (elem : PlaceElem) (one : GraphElem) → IsElement s elem one → (ty : Ty) → graph.elem_type world one ty ≡ source_place.elem_type world elem ty
  same_elem-type (Part index) one is ty = ap (λ o. graph.elem_type world o ty) is ∙ by_layer world index ty (out-Ty ty) refl
  same_elem-type (FieldOf field) one is ty = ap (λ o. graph.elem_type world o ty) is ∙ by_parent world field field.parent ty (out-Ty ty) refl refl
  same_elem-type (ElementAt e index) one is ty = ap (λ o. graph.elem_type world o ty) is.2 ∙ element-same ty (out-Ty ty) refl

  next-type : (elem : PlaceElem) (one : GraphElem) → IsElement s elem one → (ty : Option Ty) → option_and_then (graph.elem_type world one) ty ≡ option_and_then (source_place.elem_type world elem) ty
  next-type elem one is (Some ty) = same_elem-type elem one is ty
  next-type elem one is None = refl

  pub same-type : (elems : List PlaceElem) (ones : Projection) → AreElements s elems ones → (ty : Option Ty) → graph.type_behind world ones ty ≡ source_place.type_behind world elems ty
  unfolding graph.type_behind source_place.type_behind
  same-type [] [] are ty = refl
  same-type [] (one ∷ others) are ty = absurd are
  same-type (elem ∷ rest) [] are ty = absurd are
  same-type (elem ∷ rest) (one ∷ others) are ty = ap (graph.type_behind world others) (next-type elem one are.0 ty) ∙ same-type rest others are.1 (option_and_then (source_place.elem_type world elem) ty)

  -- locals hold the numbers that the cells of indices hold
  module _ (numbers : LocalId → Option ℕ) (held : ℕ → Option ℕ) (agree : (e local : ℕ) → local_of s (IndexOf e) ≡ Some local → numbers (record { 0 = local }) ≡ held e) where
    same_elem-offset : (elem : PlaceElem) (one : GraphElem) → IsElement s elem one → (ty : Ty) → graph.elem_offset world numbers one ty ≡ source_place.elem_offset world held elem ty
    same_elem-offset (Part index) one is ty = ap (λ o. graph.elem_offset world numbers o ty) is
    same_elem-offset (FieldOf field) one is ty = ap (λ o. graph.elem_offset world numbers o ty) is
    same_elem-offset (ElementAt e index) one is ty =
        ap (λ o. graph.elem_offset world numbers o ty) is.2
        ∙ ap (λ n. graph.element_offset n (graph.element_size world ty) (numbers (record { 0 = is.0 }))) (length-same ty (out-Ty ty) refl)
        ∙ ap (λ n. graph.element_offset (array_length ty) n (numbers (record { 0 = is.0 }))) (size-same world ty)
        ∙ ap (graph.element_offset (array_length ty) (element_size world ty)) (agree e is.0 is.1)
        ∙ offset-alike (array_length ty) (element_size world ty) (held e)

    next-offset : (elem : PlaceElem) (one : GraphElem) → IsElement s elem one → (ty : Option Ty) → option_and_then (graph.elem_offset world numbers one) ty ≡ option_and_then (source_place.elem_offset world held elem) ty
    next-offset elem one is (Some ty) = same_elem-offset elem one is ty
    next-offset elem one is None = refl

    pub same-offset : (elems : List PlaceElem) (ones : Projection) → AreElements s elems ones → (ty : Option Ty) → graph.offset_behind world numbers ones ty ≡ source_place.offset_behind world held elems ty
    unfolding graph.offset_behind source_place.offset_behind
    same-offset [] [] are ty = refl
    same-offset [] (one ∷ others) are ty = absurd are
    same-offset (elem ∷ rest) [] are ty = absurd are
    same-offset (elem ∷ rest) (one ∷ others) are ty =
        let behind = option_and_then (source_place.elem_type world elem) ty in
        ap (λ first. graph.added first (graph.offset_behind world numbers others (option_and_then (graph.elem_type world one) ty))) (next-offset elem one are.0 ty)
        ∙ ap (λ next. graph.added (option_and_then (source_place.elem_offset world held elem) ty) (graph.offset_behind world numbers others next)) (next-type elem one are.0 ty)
        ∙ ap (graph.added (option_and_then (source_place.elem_offset world held elem) ty)) (same-offset rest others are.1 behind)
        ∙ same_added (option_and_then (source_place.elem_offset world held elem) ty) (source_place.offset_behind world held rest behind)

    same_elem-past : (elem : PlaceElem) (one : GraphElem) → IsElement s elem one → (ty : Option Ty) → graph.elem_past numbers one ty ≡ source_place.elem_past held elem ty
    same_elem-past (Part index) one is ty = ap (λ o. graph.elem_past numbers o ty) is
    same_elem-past (FieldOf field) one is ty = ap (λ o. graph.elem_past numbers o ty) is
    same_elem-past (ElementAt e index) one is (Some ty) =
        ap (λ o. graph.elem_past numbers o (Some ty)) is.2
        ∙ ap (λ n. graph.is_past n (numbers (record { 0 = is.0 }))) (length-same ty (out-Ty ty) refl)
        ∙ ap (graph.is_past (array_length ty)) (agree e is.0 is.1)
        ∙ past-alike (array_length ty) (held e)
    same_elem-past (ElementAt e index) one is None = ap (λ o. graph.elem_past numbers o None) is.2

    -- they lead past the end of an array in the same cases
    pub same-past : (elems : List PlaceElem) (ones : Projection) → AreElements s elems ones → (ty : Option Ty) → graph.leads_past world numbers ones ty ≡ source_place.leads_past world held elems ty
    unfolding graph.leads_past source_place.leads_past
    same-past [] [] are ty = refl
    same-past [] (one ∷ others) are ty = absurd are
    same-past (elem ∷ rest) [] are ty = absurd are
    same-past (elem ∷ rest) (one ∷ others) are ty =
        ap (λ past. past || graph.leads_past world numbers others (option_and_then (graph.elem_type world one) ty)) (same_elem-past elem one are.0 ty)
        ∙ ap (λ next. source_place.elem_past held elem ty || graph.leads_past world numbers others next) (next-type elem one are.0 ty)
        ∙ ap (λ past. source_place.elem_past held elem ty || past) (same-past rest others are.1 (option_and_then (source_place.elem_type world elem) ty))

-- A part of what was read is read at its own place.

listed : (area : List ℕ) (place size offset count : ℕ) → offset + count ≤ size → take count (drop (place + offset) area) ≡ take count (drop offset (take size (drop place area)))
listed area place size offset count within =
    let rest = size - offset in
    let whole : offset + rest ≡ size = omega arith in
    sym (ap (λ n. take count (drop offset (take n (drop place area)))) (sym whole)
    ∙ ap (take count) (drop-take offset rest (drop place area))
    ∙ take-take count rest (drop offset (drop place area)) (omega arith)
    ∙ ap (take count) (drop-drop offset place area))

area-part : (area bytes : List ℕ) (place size offset count : ℕ) → part_of area place size ≡ Some bytes → offset + count ≤ size → part_of area (place + offset) count ≡ Some (take count (drop offset bytes))
unfolding part_of
area-part area bytes place size offset count found within =
    let kept = kept-some (place + size) (length area) _ bytes found in
    let fits = kept.0 in
    part_of-inside area (place + offset) count (omega arith)
    ∙ ap Some (listed area place size offset count within ∙ ap (λ given. take count (drop offset given)) (sym kept.1))

some-part : (memory : Memory) (address : Address) (bytes : List ℕ) (size offset count : ℕ) → some_bytes_at memory address size ≡ Some bytes → offset + count ≤ size → some_bytes_at memory (moved address offset) count ≡ Some (take count (drop offset bytes))
unfolding some_bytes_at
some-part memory (Stack place) bytes size offset count found within = area-part memory.stack bytes place size offset count found within
some-part memory (Heap place) bytes size offset count found within = area-part memory.heap bytes place size offset count found within
some-part memory (Invalid n) bytes size offset count found within = absurd cc

none-part : (memory : Memory) (address : Address) (count : ℕ) (bytes : List ℕ) (offset : ℕ) → count ≡ 0 → bytes_at memory address count ≡ Some (take count (drop offset bytes))
unfolding bytes_at
none-part memory address count bytes offset none = ap (bytes_at memory address) none ∙ ap (λ n. Some (take n (drop offset bytes))) (sym none)

read-part : (memory : Memory) (cell : Interval) (bytes : List ℕ) (offset count : ℕ) → cell_bytes memory cell ≡ Some bytes → offset + count ≤ cell.size → bytes_at memory (moved cell.addr offset) count ≡ Some (take count (drop offset bytes))
read-part memory cell bytes offset count found within = by_count (cases_eq count 0)
  where
    by_count : (count ≡ 0) ⊎ (count ≡ 0 → ⊥) → bytes_at memory (moved cell.addr offset) count ≡ Some (take count (drop offset bytes))
    by_count (inl none) = none-part memory (moved cell.addr offset) count bytes offset none
    by_count (inr some) =
        let there = sym (bytes_at-some memory cell.addr cell.size (λ none. some (omega arith))) ∙ found in
        bytes_at-some memory (moved cell.addr offset) count some ∙ some-part memory cell.addr bytes cell.size offset count there within

-- the part of a cell has the bytes that the part of the cell's bytes has
cell-part : (memory : Memory) (cell : Interval) (bytes : List ℕ) (offset count : ℕ) → cell_bytes memory cell ≡ Some bytes → option_and_then (cell_bytes memory) (part_of_cell cell offset count) ≡ source_place.part_of offset count bytes
cell-part memory cell bytes offset count found =
    by_test (leb (offset + count) cell.size) refl ∙ ap (λ n. cond (leb (offset + count) n) (Some (take count (drop offset bytes))) None) (sym (length-cell_bytes memory cell bytes found))
  where
    by_test : (test : Bool) → leb (offset + count) cell.size ≡ test →
        option_and_then (cell_bytes memory) (cond test (Some (record { addr = moved cell.addr offset; size = count })) None) ≡ cond test (Some (take count (drop offset bytes))) None
    by_test true fits = read-part memory cell bytes offset count found (leb-true (offset + count) cell.size fits)
    by_test false fits = refl

spot-read : (memory : Memory) (cell : Interval) (bytes : List ℕ) → cell_bytes memory cell ≡ Some bytes → (size offset : Option ℕ) →
    option_and_then (cell_bytes memory) (option_and_then (λ at. option_and_then (part_of_cell cell at) size) offset)
    ≡ option_and_then (λ at. option_and_then (λ count. source_place.part_of at count bytes) size) offset
spot-read memory cell bytes found (Some count) (Some at) = cell-part memory cell bytes at count found
spot-read memory cell bytes found None (Some at) = refl
spot-read memory cell bytes found size None = refl

abbrev pub size_at : HirDatabase → Option Ty → Option ℕ
size_at world ty = option_map (λ (layout : Layout). layout.size) (option_and_then (layout_of world) ty)

-- a local that holds an index has the number that the index's cell has
pub held-number : (s : Shape) (frame : Frame) (store : Store) (memory : Memory) → Holds s frame store memory → (e local : ℕ) → local_of s (IndexOf e) ≡ Some local → number_held memory frame.cells (record { 0 = local }) ≡ held_number store e
unfolding number_held local_bytes
held-number s frame store memory holds e local found = ap (option_and_then number_of_bytes) (holds.shows (IndexOf e) local found)

-- what elements lead to in a cell has the bytes that they lead to in the cell's bytes
module _ (s : Shape) (world : HirDatabase) (numbers : LocalId → Option ℕ) (held : ℕ → Option ℕ) (agree : (e local : ℕ) → local_of s (IndexOf e) ≡ Some local → numbers (record { 0 = local }) ≡ held e) where
  pub behind-read : (memory : Memory) (cell : Interval) (bytes : List ℕ) → cell_bytes memory cell ≡ Some bytes → (elems : List PlaceElem) (ones : Projection) → AreElements s elems ones → (ty : Option Ty) → option_and_then (cell_bytes memory) (cell_behind world numbers ones ty cell) ≡ bytes_behind world held elems ty bytes
  unfolding cell_behind bytes_behind
  behind-read memory cell bytes found [] [] are ty = found
  behind-read memory cell bytes found [] (one ∷ others) are ty = absurd are
  behind-read memory cell bytes found (elem ∷ rest) [] are ty = absurd are
  behind-read memory cell bytes found (elem ∷ rest) (one ∷ others) are ty =
      ap (λ t. option_and_then (cell_bytes memory) (option_and_then (λ at. option_and_then (part_of_cell cell at) (size_at world t)) (graph.offset_behind world numbers (one ∷ others) ty))) (same-type s world (elem ∷ rest) (one ∷ others) are ty)
      ∙ ap (λ offset. option_and_then (cell_bytes memory) (option_and_then (λ at. option_and_then (part_of_cell cell at) (size_at world (source_place.type_behind world (elem ∷ rest) ty))) offset)) (same-offset s world numbers held agree (elem ∷ rest) (one ∷ others) are ty)
      ∙ spot-read memory cell bytes found (size_at world (source_place.type_behind world (elem ∷ rest) ty)) (source_place.offset_behind world held (elem ∷ rest) ty)

-- A place of the graph that is one of the source has its bytes, whenever store and memory agree, is out of bounds just where that is, and has its type.
module _ (source : Source) (whole : Shape) (frame : Frame) (place : GraphPlace) (at : Place) (sound : IsSound source whole) (is : IsFrameOf whole frame) (world : frame.program.world ≡ source.world) (same : IsAt whole place at) where
  pub found-elements : graph.elements_of frame.body place ≡ Some same.projection
  found-elements = ap (λ kept. elements_in kept place.projection) is.projections ∙ same.elements

  pub local-type : graph.local_type frame.body place.local ≡ cell_type source at.cell
  local-type =
      let there = sound.allotted.typed at.cell place.local.0 same.found in
      ap (λ locals. option_map (λ (l : Local). l.ty) (slice_get locals place.local.0)) is.locals
      ∙ ap (option_map (λ (l : Local). l.ty)) there.1
      ∙ sym there.2

  -- the numbers that locals hold
  abbrev Numbers : Memory → LocalId → Option ℕ
  Numbers memory = number_held memory frame.cells

  cell-is : (store : Store) (memory : Memory) → Holds whole frame store memory → (cell : Interval) → slice_get frame.cells place.local.0 ≡ Some cell → cell_bytes memory cell ≡ Some (store at.cell) → (elems : List PlaceElem) (ones : Projection) → AreElements whole elems ones →
      option_and_then (cell_bytes memory) (cell_at frame.program.world frame.body (Numbers memory) frame.cells place (Some ones)) ≡ bytes_behind source.world (held_number store) elems (cell_type source at.cell) (store at.cell)
  unfolding bytes_behind
  cell-is store memory holds cell there found [] [] are = ap (option_and_then (cell_bytes memory)) there ∙ found
  cell-is store memory holds cell there found [] (one ∷ others) are = absurd are
  cell-is store memory holds cell there found (elem ∷ rest) [] are = absurd are
  cell-is store memory holds cell there found (elem ∷ rest) (one ∷ others) are =
      ap (λ (c : Option Interval). option_and_then (cell_bytes memory) (option_and_then (cell_behind frame.program.world (Numbers memory) (one ∷ others) (graph.local_type frame.body place.local)) c)) there
      ∙ ap (λ w. option_and_then (cell_bytes memory) (cell_behind w (Numbers memory) (one ∷ others) (graph.local_type frame.body place.local) cell)) world
      ∙ ap (λ t. option_and_then (cell_bytes memory) (cell_behind source.world (Numbers memory) (one ∷ others) t cell)) local-type
      ∙ behind-read whole source.world (Numbers memory) (held_number store) (held-number whole frame store memory holds) memory cell (store at.cell) found (elem ∷ rest) (one ∷ others) are (cell_type source at.cell)

  pub place-out : (store : Store) (memory : Memory) → Holds whole frame store memory → graph.is_out_of_bounds frame.program.world frame.body (Numbers memory) place ≡ is_out_of_bounds source store at
  unfolding graph.is_out_of_bounds is_out_of_bounds
  place-out store memory holds =
      ap (graph.past_at frame.program.world frame.body (Numbers memory) place) found-elements
      ∙ ap (λ w. graph.leads_past w (Numbers memory) same.projection (graph.local_type frame.body place.local)) world
      ∙ ap (graph.leads_past source.world (Numbers memory) same.projection) local-type
      ∙ same-past whole source.world (Numbers memory) (held_number store) (held-number whole frame store memory holds) at.projection same.projection same.same (cell_type source at.cell)

  pub place-fits : Fits source (Copy place) whole frame (At at)
  unfolding mir_bytes mir_type mir_out place_cell place_type source_place.place_type place_bytes
  place-fits =
      record {
        bytes = λ store memory holds.
            let cell = interval-of frame memory place.local.0 (store at.cell) (holds.shows at.cell place.local.0 same.found) in
            ap (λ elements. option_and_then (cell_bytes memory) (cell_at frame.program.world frame.body (Numbers memory) frame.cells place elements)) found-elements
            ∙ cell-is store memory holds cell.0 cell.1 cell.2 at.projection same.projection same.same;
        out = λ store memory holds. place-out store memory holds;
        ty = ap (type_at frame.program.world frame.body place) found-elements ∙ ap (graph.type_behind frame.program.world same.projection) local-type
            ∙ ap (λ w. graph.type_behind w same.projection (cell_type source at.cell)) world ∙ same-type whole source.world at.projection same.projection same.same (cell_type source at.cell);
      }
