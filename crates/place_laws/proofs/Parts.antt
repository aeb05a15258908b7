-- What lies at the parts of a value.
use Rattle.std.proofs.Common.{◌≡◌, ◌⊎◌, ℕ, zero, suc, ◌+◌, ◌-◌, ◌≤◌, Bool, true, false, if◌then◌else◌, List, [], ◌∷◌, ◌++◌, length, take, drop, replicate, slice_get, Option, Some, None, option_and_then, refl, sym, ap, ◌∙◌, subst, arith, le-leb, leb-true, length-drop, length-take-le}
use Rattle.std.specs.Prelude.{nat_le}
use Rattle.std.proofs.Math.Seq.{take-length}
use Rattle.std.proofs.lemmas.List.{drop-drop, drop-take, take-take}
use Rattle.types.specs.declared.ty.Ty.{Ty}
use Rattle.world.specs.declared.database.HirDatabase.{HirDatabase}
use Rattle.numbers.specs.Aggregates.{constructed, with_part, with_parts}
use Rattle.source_meaning.specs.Places.{added, bytes_behind, elem_offset, offset_behind, part_of, part_offset, place_bytes, place_type, type_behind}
use Rattle.source_meaning.specs.Core.{PlaceElem, Part, FieldOf}
use Rattle.source_meaning.specs.Source.{cell_type, number_held}
use Rattle.source_meaning.proofs.Aggregates.{length-with_part, with_part-within}
use Rattle.source_meaning.proofs.Places.{offset_behind-more}
use Rattle.place_laws.specs.Parts.{ArePartsApart, FieldsAreParts, HasItsPart, PartsAreRead, StructsHaveTheirFields, TuplesHaveTheirParts}
use Rattle.place_laws.specs.Writes.{KeepsTheRest}
use Rattle.place_laws.proofs.Placed.{placed-first, placed-last, placed-there}
use Rattle.place_laws.proofs.Writes.{part-kept, size_at}

-- A part of bytes that were read.

-- bytes that were read lie inside
record IsRead (offset size : ℕ) (bytes read : List ℕ) : Type 0 where
  inside : offset + size ≤ length bytes
  is : read ≡ take size (drop offset bytes)

is-read : (offset size : ℕ) (bytes read : List ℕ) → part_of offset size bytes ≡ Some read → IsRead offset size bytes read
is-read offset size bytes read found = by_test (nat_le (offset + size) (length bytes)) refl found
  where
    by_test : (test : Bool) → nat_le (offset + size) (length bytes) ≡ test → (if test then Some (take size (drop offset bytes)) else None) ≡ Some read → IsRead offset size bytes read
    by_test true fits same = record { inside = leb-true (offset + size) (length bytes) fits; is = (let given : read ≡ take size (drop offset bytes) = cc in given) }
    by_test false fits same = absurd cc

reads : (offset size : ℕ) (bytes : List ℕ) → offset + size ≤ length bytes → part_of offset size bytes ≡ Some (take size (drop offset bytes))
reads offset size bytes inside = ap (λ fits. if fits then Some (take size (drop offset bytes)) else None) (le-leb (offset + size) (length bytes) inside)

-- a part of what was read is read at its own offset
part-of-part : (offset size at count : ℕ) (bytes read : List ℕ) → part_of offset size bytes ≡ Some read → at + count ≤ length read → part_of (offset + at) count bytes ≡ Some (take count (drop at read))
part-of-part offset size at count bytes read found within =
    let given = is-read offset size bytes read found in
    let long : length read ≡ size = ap length given.is ∙ length-take-le size (drop offset bytes) (omega (arith, length-drop offset bytes, given.inside)) in
    let rest = size - at in
    let whole : at + rest ≡ size = omega (arith, within, long) in
    reads (offset + at) count bytes (omega (arith, within, long, given.inside))
    ∙ ap Some (sym (ap (λ b. take count (drop at b)) given.is
    ∙ ap (λ n. take count (drop at (take n (drop offset bytes)))) (sym whole)
    ∙ ap (take count) (drop-take at rest (drop offset bytes))
    ∙ take-take count rest (drop at (drop offset bytes)) (omega (arith, within, long))
    ∙ ap (take count) (drop-drop at offset bytes)))

-- The bytes of a field.

-- what elements lead to, of which there is one at least, by where it begins and by its size
at-end : (world : HirDatabase) (numbers : ℕ → Option ℕ) (elems : List PlaceElem) (elem : PlaceElem) (ty : Option Ty) (bytes : List ℕ) → bytes_behind world numbers (elems ++ elem ∷ []) ty bytes ≡ option_and_then (λ offset. option_and_then (λ size. part_of offset size bytes) (size_at world (type_behind world (elems ++ elem ∷ []) ty))) (offset_behind world numbers (elems ++ elem ∷ []) ty)
unfolding bytes_behind
at-end world numbers [] elem ty bytes = refl
at-end world numbers (first ∷ rest) elem ty bytes = refl

-- the bytes of a value that elements lead to are a part of it
record IsPart (world : HirDatabase) (numbers : ℕ → Option ℕ) (elems : List PlaceElem) (ty : Option Ty) (bytes read : List ℕ) : Type 0 where
  offset : ℕ
  begins : offset_behind world numbers elems ty ≡ Some offset
  size : ℕ
  is : part_of offset size bytes ≡ Some read

is-part : (world : HirDatabase) (numbers : ℕ → Option ℕ) (elems : List PlaceElem) (ty : Option Ty) (bytes read : List ℕ) → bytes_behind world numbers elems ty bytes ≡ Some read → IsPart world numbers elems ty bytes read
unfolding bytes_behind offset_behind
is-part world numbers [] ty bytes read found =
    record { offset = 0; begins = refl; size = length bytes; is = reads 0 (length bytes) bytes (omega arith) ∙ ap Some (take-length bytes) ∙ found }
is-part world numbers (elem ∷ rest) ty bytes read found = by_spot (offset_behind world numbers (elem ∷ rest) ty) refl (size_at world (type_behind world (elem ∷ rest) ty)) found
  where
    by_spot : (offset : Option ℕ) → offset_behind world numbers (elem ∷ rest) ty ≡ offset → (size : Option ℕ) → option_and_then (λ at. option_and_then (λ n. part_of at n bytes) size) offset ≡ Some read → IsPart world numbers (elem ∷ rest) ty bytes read
    by_spot (Some offset) begins (Some size) is = record { offset = offset; begins = begins; size = size; is = is }
    by_spot (Some offset) begins None is = absurd cc
    by_spot None begins size is = absurd cc

pub fields : FieldsAreParts
unfolding place_bytes place_type
fields source store place elem ty bytes offset size typed found at has within =
    let from = cell_type source place.cell in
    let all = store place.cell in
    let numbers = number_held store in
    let base = is-part source.world numbers place.projection from all bytes found in
    let begins : offset_behind source.world numbers (place.projection ++ elem ∷ []) from ≡ Some (base.offset + offset) =
    offset_behind-more source.world numbers place.projection elem from
    ∙ ap (λ given. added given (option_and_then (elem_offset source.world numbers elem) (type_behind source.world place.projection from))) base.begins
    ∙ ap (λ given. added (Some base.offset) (option_and_then (elem_offset source.world numbers elem) given)) typed
    ∙ ap (added (Some base.offset)) at in
    at-end source.world numbers place.projection elem from all
    ∙ ap (option_and_then (λ start. option_and_then (λ count. part_of start count all) (size_at source.world (type_behind source.world (place.projection ++ elem ∷ []) from)))) begins
    ∙ ap (option_and_then (λ count. part_of (base.offset + offset) count all)) has
    ∙ part-of-part base.offset base.size offset size all bytes base.is within

-- The parts of a value that was made of them.

put-keeps : (offset : ℕ) (part before after : List ℕ) → with_part offset part before ≡ Some after → KeepsTheRest offset (length part) before after
put-keeps offset part before after is =
    let inside = with_part-within offset part before after is in
    record {
      long = length-with_part offset part before after is;
      first = ap (take offset) inside.1 ∙ placed-first offset part before inside.0;
      last = ap (drop (offset + length part)) inside.1 ∙ placed-last offset part before inside.0;
    }

put-there : (offset : ℕ) (part before after : List ℕ) → with_part offset part before ≡ Some after → part_of offset (length part) after ≡ Some part
put-there offset part before after is =
    let inside = with_part-within offset part before after is in
    let long = length-with_part offset part before after is in
    reads offset (length part) after (omega (arith, inside.0, long))
    ∙ ap (λ bytes. Some (take (length part) (drop offset bytes))) inside.1
    ∙ ap Some (placed-there offset part before inside.0)

-- bytes that share none with any part
abbrev LiesApartFrom : (at count : ℕ) → (offsets : List ℕ) → (parts : List (List ℕ)) → Type 0
LiesApartFrom at count offsets parts = (k offset : ℕ) (part : List ℕ) → slice_get offsets k ≡ Some offset → slice_get parts k ≡ Some part → (at + count ≤ offset) ⊎ (offset + length part ≤ at)

-- a value is one put first, and then the others
first-put : {A : Type 0} (first : Option (List ℕ)) (rest : List ℕ → Option (List ℕ)) (after : List ℕ) → option_and_then rest first ≡ Some after → ((mid : List ℕ) → first ≡ Some mid → rest mid ≡ Some after → A) → A
first-put (Some mid) rest after is goal = goal mid refl is
first-put None rest after is goal = absurd cc

parts-keep : (offsets : List ℕ) (parts : List (List ℕ)) (at count : ℕ) (before after : List ℕ) → with_parts offsets parts before ≡ Some after → LiesApartFrom at count offsets parts → part_of at count after ≡ part_of at count before
unfolding with_parts
parts-keep [] [] at count before after is apart = let same : before ≡ after = cc in ap (part_of at count) (sym same)
parts-keep (offset ∷ offsets) [] at count before after is apart = let same : before ≡ after = cc in ap (part_of at count) (sym same)
parts-keep [] (part ∷ parts) at count before after is apart = absurd cc
parts-keep (offset ∷ offsets) (part ∷ parts) at count before after is apart =
    first-put (with_part offset part before) (with_parts offsets parts) after is
    (λ mid put rest.
    parts-keep offsets parts at count mid after rest (λ k. apart (suc k))
    ∙ part-kept offset (length part) at count before mid (put-keeps offset part before mid put) (apart zero offset part refl refl))

parts-there : (offsets : List ℕ) (parts : List (List ℕ)) (before after : List ℕ) → with_parts offsets parts before ≡ Some after → ArePartsApart offsets parts → (k offset : ℕ) (part : List ℕ) → slice_get offsets k ≡ Some offset → slice_get parts k ≡ Some part → part_of offset (length part) after ≡ Some part
unfolding with_parts
parts-there [] parts before after is apart k offset part at at' = absurd cc
parts-there (first ∷ offsets) [] before after is apart k offset part at at' = absurd cc
parts-there (first ∷ offsets) (one ∷ parts) before after is apart zero offset part at at' =
    let same : first ≡ offset = cc in
    let same' : one ≡ part = cc in
    subst (λ n. part_of n (length part) after ≡ Some part) same (subst (λ p. part_of first (length p) after ≡ Some p) same'
    (first-put (with_part first one before) (with_parts offsets parts) after is
    (λ mid put rest.
    parts-keep offsets parts first (length one) mid after rest (λ k other part there there'. apart zero (suc k) first other one part (λ none. cc) refl refl there there')
    ∙ put-there first one before mid put)))
parts-there (first ∷ offsets) (one ∷ parts) before after is apart (suc k) offset part at at' =
    first-put (with_part first one before) (with_parts offsets parts) after is
    (λ mid put rest. parts-there offsets parts mid after rest (λ i j a b p q differ. apart (suc i) (suc j) a b p q (λ same. differ (let one : i ≡ j = omega (arith, same) in one))) k offset part at at')

pub parts : PartsAreRead
unfolding constructed
parts size offsets given bytes k offset part is apart at at' = parts-there offsets given (replicate size 0) bytes is apart k offset part at at'

-- each part that was put has an offset
has-offset : (offsets : List ℕ) (given : List (List ℕ)) (before after : List ℕ) → with_parts offsets given before ≡ Some after → (k : ℕ) (part : List ℕ) → slice_get given k ≡ Some part → (offset : ℕ) × (slice_get offsets k ≡ Some offset)
unfolding with_parts
has-offset offsets [] before after is k part at = absurd cc
has-offset [] (one ∷ given) before after is k part at = absurd cc
has-offset (first ∷ offsets) (one ∷ given) before after is zero part at = (first, refl)
has-offset (first ∷ offsets) (one ∷ given) before after is (suc k) part at =
    first-put (with_part first one before) (with_parts offsets given) after is (λ mid put rest. has-offset offsets given mid after rest k part at)

offset-of : (size : ℕ) (offsets : List ℕ) (given : List (List ℕ)) (bytes : List ℕ) (k : ℕ) (part : List ℕ) → constructed size offsets given ≡ Some bytes → slice_get given k ≡ Some part → (offset : ℕ) × (slice_get offsets k ≡ Some offset)
unfolding constructed
offset-of size offsets given bytes k part is at = has-offset offsets given (replicate size 0) bytes is k part at

has-its-part : (elem : PlaceElem) (k : ℕ) → ((world : HirDatabase) (numbers : ℕ → Option ℕ) (ty : Ty) → elem_offset world numbers elem ty ≡ part_offset world k ty) → HasItsPart elem k
has-its-part elem k takes source store place ty layout given bytes part typed laid made found apart at has =
    let offset = offset-of layout.size layout.offsets given bytes k part made at in
    let read = is-read offset.0 (length part) bytes part (parts layout.size layout.offsets given bytes k offset.0 part made apart offset.1 at) in
    fields source store place elem ty bytes offset.0 (length part) typed found (takes source.world (number_held store) ty ∙ ap (option_and_then (λ l. slice_get l.offsets k)) laid ∙ offset.1) has read.inside
    ∙ ap Some (sym read.is)

pub tuples : TuplesHaveTheirParts
tuples k = has-its-part (Part k) k (λ world numbers ty. refl)

pub structs : StructsHaveTheirFields
structs field = has-its-part (FieldOf field) field.local_id (λ world numbers ty. refl)
