-- Places that are out of bounds.
use Rattle.std.proofs.Common.{◌≡◌, ℕ, ◌*◌, ◌==◌, Bool, true, false, ◌||◌, List, [], ◌∷◌, Option, Some, None, option_map, option_and_then, if◌then◌else◌, length, refl, ap, ◌∙◌, arith, leb-true, ltb-true}
use Rattle.std.proofs.lemmas.Bool.{false≢true}
use Rattle.std.specs.Prelude.{nat_lt}
use Rattle.types.specs.declared.ty.Ty.{Ty}
use Rattle.world.specs.declared.database.HirDatabase.{HirDatabase}
use Rattle.world.specs.Lookups.{layout_of}
use Rattle.numbers.specs.Aggregates.{with_part}
use Rattle.source_meaning.specs.Aggregates.{array_length}
use Rattle.source_meaning.specs.Core.{ElementAt, FieldOf, Part, PlaceElem}
use Rattle.source_meaning.specs.Indices.{element_offset, element_size, is_past}
use Rattle.source_meaning.specs.Places.{added, bytes_behind, bytes_with, cell_with, elem_offset, elem_past, elem_type, is_out_of_bounds, leads_past, offset_behind, part_of, place_bytes, type_behind}
use Rattle.source_meaning.specs.Source.{cell_type, number_held}
use Rattle.place_laws.specs.Bounds.{OutOfBoundsIsNowhere}

not-below : (length index : ℕ) → is_past (Some length) (Some index) ≡ true → nat_lt index length ≡ false
not-below length index past = by_test (nat_lt index length) refl
  where
    by_test : (test : Bool) → nat_lt index length ≡ test → nat_lt index length ≡ false
    by_test true less = absurd (let over = leb-true length index past in let under = ltb-true index length less in omega (arith, over, under))
    by_test false more = more

-- an index that isn't below the length has no offset
past-element : (length size index : Option ℕ) → is_past length index ≡ true → element_offset length size index ≡ None
past-element (Some length) (Some size) (Some index) past = ap (λ test. if test then Some (index * size) else None) (not-below length index past)
past-element (Some length) None index past = refl
past-element (Some length) (Some size) None past = refl
past-element None size index past = refl

past-elem : (world : HirDatabase) (numbers : ℕ → Option ℕ) (elem : PlaceElem) (ty : Option Ty) → elem_past numbers elem ty ≡ true → option_and_then (elem_offset world numbers elem) ty ≡ None
past-elem world numbers (ElementAt e index) (Some ty) past = past-element (array_length ty) (element_size world ty) (numbers e) past
past-elem world numbers (ElementAt e index) None past = refl
past-elem world numbers (Part index) ty past = absurd (false≢true past)
past-elem world numbers (FieldOf field) ty past = absurd (false≢true past)

added-none : (first : Option ℕ) → added first None ≡ None
added-none (Some first) = refl
added-none None = refl

past-begins : (world : HirDatabase) (numbers : ℕ → Option ℕ) (elems : List PlaceElem) (ty : Option Ty) → leads_past world numbers elems ty ≡ true → offset_behind world numbers elems ty ≡ None
unfolding leads_past offset_behind
past-begins world numbers [] ty past = absurd (false≢true past)
past-begins world numbers (elem ∷ rest) ty past = by_test (λ later. past-begins world numbers rest (option_and_then (elem_type world elem) ty) later) (elem_past numbers elem ty) refl past
  where
    next : Option Ty
    next = option_and_then (elem_type world elem) ty

    by_test : (leads_past world numbers rest next ≡ true → offset_behind world numbers rest next ≡ None) → (test : Bool) → elem_past numbers elem ty ≡ test → test || leads_past world numbers rest next ≡ true → added (option_and_then (elem_offset world numbers elem) ty) (offset_behind world numbers rest next) ≡ None
    by_test later true here is = ap (λ first. added first (offset_behind world numbers rest next)) (past-elem world numbers elem ty here)
    by_test later false here is = ap (added (option_and_then (elem_offset world numbers elem) ty)) (later is) ∙ added-none (option_and_then (elem_offset world numbers elem) ty)

past-behind : (world : HirDatabase) (numbers : ℕ → Option ℕ) (elems : List PlaceElem) (ty : Option Ty) (bytes : List ℕ) → leads_past world numbers elems ty ≡ true → bytes_behind world numbers elems ty bytes ≡ None
unfolding bytes_behind leads_past
past-behind world numbers [] ty bytes past = absurd (false≢true past)
past-behind world numbers (elem ∷ rest) ty bytes past =
    ap (option_and_then (λ offset. option_and_then (λ size. part_of offset size bytes) (option_map (λ layout. layout.size) (option_and_then (layout_of world) (type_behind world (elem ∷ rest) ty)))))
    (past-begins world numbers (elem ∷ rest) ty past)

past-put : (world : HirDatabase) (numbers : ℕ → Option ℕ) (elems : List PlaceElem) (ty : Option Ty) (put bytes : List ℕ) → leads_past world numbers elems ty ≡ true → bytes_with world numbers elems ty put bytes ≡ None
unfolding bytes_with leads_past
past-put world numbers [] ty put bytes past = absurd (false≢true past)
past-put world numbers (elem ∷ rest) ty put bytes past =
    ap (option_and_then (λ offset. option_and_then (λ size. if length put == size then with_part offset put bytes else None) (option_map (λ layout. layout.size) (option_and_then (layout_of world) (type_behind world (elem ∷ rest) ty)))))
    (past-begins world numbers (elem ∷ rest) ty past)

pub nowhere : OutOfBoundsIsNowhere
unfolding is_out_of_bounds place_bytes cell_with
nowhere source store place past = record {
  has_none = past-behind source.world (number_held store) place.projection (cell_type source place.cell) (store place.cell) past;
  takes_none = λ put. past-put source.world (number_held store) place.projection (cell_type source place.cell) put (store place.cell) past;
}
