-- What a write at a place changes.
use Rattle.std.proofs.Common.{◌≡◌, ⊎_elim, ◌⊎◌, ℕ, zero, ◌+◌, ◌-◌, ◌≤◌, ◌==◌, Bool, true, false, cond, if◌then◌else◌, List, [], ◌∷◌, length, take, drop, Option, Some, None, option_map, option_and_then, refl, sym, ap, ap₂, ◌∙◌, subst, arith, eqb-true, le-leb}
use Rattle.std.specs.Prelude.{nat_le}
use Rattle.std.proofs.lemmas.Bool.Decides.{nat_tests}
use Rattle.std.proofs.lemmas.List.{drop_all}
use Rattle.types.specs.declared.ty.Ty.{Ty}
use Rattle.world.specs.declared.database.HirDatabase.{HirDatabase}
use Rattle.world.specs.Lookups.{layout_of}
use Rattle.numbers.specs.Aggregates.{with_part}
use Rattle.numbers.specs.Constants.{number_of_bytes}
use Rattle.source_meaning.specs.Aggregates.{array_length}
use Rattle.source_meaning.specs.Indices.{element_offset, element_size}
use Rattle.source_meaning.specs.Places.{added, bytes_behind, bytes_with, cell_with, elem_offset, elem_type, offset_behind, part_of, place_bytes, type_behind}
use Rattle.source_meaning.specs.Core.{ElementAt, FieldOf, Part, PlaceElem}
use Rattle.source_meaning.specs.Source.{Store, Cell, IndexOf, Result, Node, Binding, Never, cell_type, number_held, same_cell, with_cell_bytes}
use Rattle.source_meaning.proofs.Aggregates.{length-with_part, with_part-within}
use Rattle.source_meaning.proofs.Stores.{same_cell_from_test}
use Rattle.place_laws.specs.Writes.{HoldsNoIndex, KeepsTheRest, WritesAreRead, WritesKeepOthers, WritesKeepTheRest}
use Rattle.place_laws.proofs.Placed.{among-first, among-last, placed-first, placed-last, placed-there}

same_cell-itself : (cell : Cell) → same_cell cell cell ≡ true
same_cell-itself Result = refl
same_cell-itself (Node e) = grind (arith, nat_tests)
same_cell-itself (Binding b) = grind (arith, nat_tests)
same_cell-itself (Never e) = grind (arith, nat_tests)
same_cell-itself (IndexOf e) = grind (arith, nat_tests)

-- the cell that was written has what was put there
own-bytes : (store : Store) (cell : Cell) (all : List ℕ) → with_cell_bytes store cell all cell ≡ all
own-bytes store cell all = ap (λ test. cond test all (store cell)) (same_cell-itself cell)

-- a write to a cell that isn't that of an index leaves the indices as they were
indices-kept : (store : Store) (cell : Cell) (all : List ℕ) → HoldsNoIndex cell → (e : ℕ) → number_held (with_cell_bytes store cell all) e ≡ number_held store e
indices-kept store cell all other e = by_test (same_cell cell (IndexOf e)) refl
  where
    by_test : (test : Bool) → same_cell cell (IndexOf e) ≡ test → number_of_bytes (cond test all (store (IndexOf e))) ≡ number_of_bytes (store (IndexOf e))
    by_test true same = absurd (other e (same_cell_from_test cell (IndexOf e) same))
    by_test false differs = refl

-- so that what lies behind elements begins where it did
elem-kept : (world : HirDatabase) (numbers given : ℕ → Option ℕ) → ((e : ℕ) → numbers e ≡ given e) → (elem : PlaceElem) (ty : Option Ty) → option_and_then (elem_offset world numbers elem) ty ≡ option_and_then (elem_offset world given elem) ty
elem-kept world numbers given same (Part index) (Some ty) = refl
elem-kept world numbers given same (FieldOf field) (Some ty) = refl
elem-kept world numbers given same (ElementAt e index) (Some ty) = ap (element_offset (array_length ty) (element_size world ty)) (same e)
elem-kept world numbers given same elem None = refl

begins-kept : (world : HirDatabase) (numbers given : ℕ → Option ℕ) → ((e : ℕ) → numbers e ≡ given e) → (elems : List PlaceElem) (ty : Option Ty) → offset_behind world numbers elems ty ≡ offset_behind world given elems ty
unfolding offset_behind
begins-kept world numbers given same [] ty = refl
begins-kept world numbers given same (elem ∷ rest) ty = ap₂ added (elem-kept world numbers given same elem ty) (begins-kept world numbers given same rest (option_and_then (elem_type world elem) ty))

bytes-kept : (world : HirDatabase) (numbers given : ℕ → Option ℕ) → ((e : ℕ) → numbers e ≡ given e) → (elems : List PlaceElem) (ty : Option Ty) (bytes : List ℕ) → bytes_behind world numbers elems ty bytes ≡ bytes_behind world given elems ty bytes
unfolding bytes_behind
bytes-kept world numbers given same [] ty bytes = refl
bytes-kept world numbers given same (elem ∷ rest) ty bytes =
    ap (option_and_then (λ offset. option_and_then (λ size. part_of offset size bytes) (option_map (λ layout. layout.size) (option_and_then (layout_of world) (type_behind world (elem ∷ rest) ty)))))
    (begins-kept world numbers given same (elem ∷ rest) ty)

-- how many bytes a type has, where it has a layout
abbrev pub size_at : HirDatabase → Option Ty → Option ℕ
size_at world ty = option_map (λ layout. layout.size) (option_and_then (layout_of world) ty)

-- bytes were put behind elements, of which there is one at least
record IsPut (world : HirDatabase) (numbers : ℕ → Option ℕ) (elems : List PlaceElem) (ty : Option Ty) (put before after : List ℕ) : Type 0 where
  offset : ℕ
  begins : offset_behind world numbers elems ty ≡ Some offset
  has : size_at world (type_behind world elems ty) ≡ Some (length put)
  is : with_part offset put before ≡ Some after

is-put : (world : HirDatabase) (numbers : ℕ → Option ℕ) (elem : PlaceElem) (rest : List PlaceElem) (ty : Option Ty) (put before after : List ℕ) → bytes_with world numbers (elem ∷ rest) ty put before ≡ Some after → IsPut world numbers (elem ∷ rest) ty put before after
unfolding bytes_with
is-put world numbers elem rest ty put before after written = by_spot (offset_behind world numbers (elem ∷ rest) ty) refl (size_at world (type_behind world (elem ∷ rest) ty)) refl written
  where
    by_test : (offset size : ℕ) → offset_behind world numbers (elem ∷ rest) ty ≡ Some offset → size_at world (type_behind world (elem ∷ rest) ty) ≡ Some size → (test : Bool) → (length put == size) ≡ test → (if test then with_part offset put before else None) ≡ Some after → IsPut world numbers (elem ∷ rest) ty put before after
    by_test offset size begins has true same is = record { offset = offset; begins = begins; has = has ∙ ap Some (sym (eqb-true (length put) size same)); is = is }
    by_test offset size begins has false same is = absurd cc

    by_spot : (offset : Option ℕ) → offset_behind world numbers (elem ∷ rest) ty ≡ offset → (size : Option ℕ) → size_at world (type_behind world (elem ∷ rest) ty) ≡ size → option_and_then (λ at. option_and_then (λ n. if length put == n then with_part at put before else None) size) offset ≡ Some after → IsPut world numbers (elem ∷ rest) ty put before after
    by_spot (Some offset) begins (Some size) has is = by_test offset size begins has (length put == size) refl is
    by_spot (Some offset) begins None has is = absurd cc
    by_spot None begins size has is = absurd cc

-- or all bytes were replaced
is-replaced : (world : HirDatabase) (numbers : ℕ → Option ℕ) (ty : Option Ty) (put before after : List ℕ) → bytes_with world numbers [] ty put before ≡ Some after → (length put ≡ length before) × (put ≡ after)
unfolding bytes_with
is-replaced world numbers ty put before after written = by_test (length put == length before) refl written
  where
    by_test : (test : Bool) → (length put == length before) ≡ test → (if test then Some put else None) ≡ Some after → (length put ≡ length before) × (put ≡ after)
    by_test true same is = (eqb-true (length put) (length before) same, (let given : put ≡ after = cc in given))
    by_test false same is = absurd cc

-- what was put behind elements is read there
behind-written : (world : HirDatabase) (numbers : ℕ → Option ℕ) (elems : List PlaceElem) (ty : Option Ty) (put before after : List ℕ) → bytes_with world numbers elems ty put before ≡ Some after → bytes_behind world numbers elems ty after ≡ Some put
unfolding bytes_behind
behind-written world numbers [] ty put before after written = ap Some (sym (is-replaced world numbers ty put before after written).1)
behind-written world numbers (elem ∷ rest) ty put before after written =
    let given = is-put world numbers elem rest ty put before after written in
    let inside = with_part-within given.offset put before after given.is in
    let long = length-with_part given.offset put before after given.is in
    ap (option_and_then (λ at. option_and_then (λ size. part_of at size after) (size_at world (type_behind world (elem ∷ rest) ty)))) given.begins
    ∙ ap (option_and_then (λ size. part_of given.offset size after)) given.has
    ∙ ap (λ fits. if fits then Some (take (length put) (drop given.offset after)) else None) (le-leb (given.offset + length put) (length after) (omega (arith, inside.0, long)))
    ∙ ap (λ bytes. Some (take (length put) (drop given.offset bytes))) inside.1
    ∙ ap Some (placed-there given.offset put before inside.0)

pub written : WritesAreRead
unfolding cell_with place_bytes
written source store place put all other is =
    let ty = cell_type source place.cell in
    bytes-kept source.world (number_held (with_cell_bytes store place.cell all)) (number_held store) (indices-kept store place.cell all other) place.projection ty (with_cell_bytes store place.cell all place.cell)
    ∙ ap (bytes_behind source.world (number_held store) place.projection ty) (own-bytes store place.cell all)
    ∙ behind-written source.world (number_held store) place.projection ty put (store place.cell) all is

-- the bytes before and behind stay
behind-kept : (world : HirDatabase) (numbers : ℕ → Option ℕ) (elems : List PlaceElem) (ty : Option Ty) (put before after : List ℕ) (offset : ℕ) → bytes_with world numbers elems ty put before ≡ Some after → offset_behind world numbers elems ty ≡ Some offset → KeepsTheRest offset (length put) before after
unfolding offset_behind
behind-kept world numbers [] ty put before after offset written begins =
    let given = is-replaced world numbers ty put before after written in
    let long : length after ≡ length before = ap length (sym given.1) ∙ given.0 in
    let none : zero ≡ offset = cc in
    record {
      long = long;
      first = subst (λ n. take n after ≡ take n before) none refl;
      last = drop_all (offset + length put) after (omega (arith, long, given.0)) ∙ sym (drop_all (offset + length put) before (omega (arith, given.0)));
    }
behind-kept world numbers (elem ∷ rest) ty put before after offset written begins =
    let given = is-put world numbers elem rest ty put before after written in
    let same : given.offset ≡ offset = (let one = given.begins in cc) in
    let inside = with_part-within given.offset put before after given.is in
    subst (λ n. KeepsTheRest n (length put) before after) same
    (record {
      long = length-with_part given.offset put before after given.is;
      first = ap (take given.offset) inside.1 ∙ placed-first given.offset put before inside.0;
      last = ap (drop (given.offset + length put)) inside.1 ∙ placed-last given.offset put before inside.0;
    })

pub kept : WritesKeepTheRest
unfolding cell_with
kept source store place put all offset is begins = behind-kept source.world (number_held store) place.projection (cell_type source place.cell) put (store place.cell) all offset is begins

-- a part that lies apart has the bytes that it had
pub part-kept : (offset size at count : ℕ) (before after : List ℕ) → KeepsTheRest offset size before after → (at + count ≤ offset) ⊎ (offset + size ≤ at) → part_of at count after ≡ part_of at count before
part-kept offset size at count before after keeps apart =
    ap (λ n. if nat_le (at + count) n then Some (take count (drop at after)) else None) keeps.long
    ∙ ap (λ bytes. if nat_le (at + count) (length before) then Some bytes else None) same
  where
    same : take count (drop at after) ≡ take count (drop at before)
    same =
        ⊎_elim
        (λ first.
        among-first at count offset after first
        ∙ ap (λ bytes. take count (drop at bytes)) keeps.first
        ∙ sym (among-first at count offset before first))
        (λ last.
        ap (take count) (among-last at (offset + size) after last
        ∙ ap (drop (at - (offset + size))) keeps.last
        ∙ sym (among-last at (offset + size) before last)))
        apart

behind-others : (world : HirDatabase) (numbers : ℕ → Option ℕ) (elem : PlaceElem) (rest : List PlaceElem) (ty : Option Ty) (offset size at count : ℕ) (before after : List ℕ) → KeepsTheRest offset size before after →
    offset_behind world numbers (elem ∷ rest) ty ≡ Some at → size_at world (type_behind world (elem ∷ rest) ty) ≡ Some count → (at + count ≤ offset) ⊎ (offset + size ≤ at) →
    bytes_behind world numbers (elem ∷ rest) ty after ≡ bytes_behind world numbers (elem ∷ rest) ty before
unfolding bytes_behind
behind-others world numbers elem rest ty offset size at count before after keeps begins has apart =
    found after ∙ part-kept offset size at count before after keeps apart ∙ sym (found before)
  where
    found : (bytes : List ℕ) → option_and_then (λ o. option_and_then (λ n. part_of o n bytes) (size_at world (type_behind world (elem ∷ rest) ty))) (offset_behind world numbers (elem ∷ rest) ty) ≡ part_of at count bytes
    found bytes =
        ap (option_and_then (λ o. option_and_then (λ n. part_of o n bytes) (size_at world (type_behind world (elem ∷ rest) ty)))) begins
        ∙ ap (option_and_then (λ n. part_of at n bytes)) has

pub others : WritesKeepOthers
unfolding place_bytes
others source store place elem rest put all other is apart =
    let ty = cell_type source place.cell in
    bytes-kept source.world (number_held (with_cell_bytes store place.cell all)) (number_held store) (indices-kept store place.cell all other) (elem ∷ rest) ty (with_cell_bytes store place.cell all place.cell)
    ∙ ap (bytes_behind source.world (number_held store) (elem ∷ rest) ty) (own-bytes store place.cell all)
    ∙ behind-others source.world (number_held store) elem rest ty apart.offset (length put) apart.at apart.other_size (store place.cell) all (kept source store place put all apart.offset is apart.begins) apart.other_begins apart.other_has apart.apart
