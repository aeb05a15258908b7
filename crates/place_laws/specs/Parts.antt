-- What lies at the parts of a value.
use Rattle.std.specs.Prelude.{◌≡◌, ◌≢◌, ◌⊎◌, ℕ, ◌+◌, ◌≤◌, List, length, take, drop, slice_get, Some}
use Rattle.types.specs.declared.ids.FieldId.{FieldId}
use Rattle.types.specs.declared.ty.Ty.{Ty}
use Rattle.world.specs.Lookups.{layout_of}
use Rattle.world.specs.declared.layout.Layout.{Layout}
use Rattle.numbers.specs.Aggregates.{constructed}
use Rattle.source_meaning.specs.Places.{elem_offset, part_of, place_bytes, place_type}
use Rattle.source_meaning.specs.Core.{PlaceElem, Part, FieldOf}
use Rattle.source_meaning.specs.Source.{Source, Store, Place, number_held, projected}
use Rattle.place_laws.specs.Writes.{size_of}

-- The bytes of a place with one element more are bytes of the place without it: as many as the type has that the element leads to, from the
-- element's offset on, where they end inside. The offset of an element of an array is known by the index that the store holds.
abbrev pub FieldsAreParts : Type 0
FieldsAreParts =
    (source : Source) (store : Store) (place : Place) (elem : PlaceElem) (ty : Ty) (bytes : List ℕ) (offset size : ℕ) →
    place_type source place ≡ Some ty → place_bytes source store place ≡ Some bytes →
    elem_offset source.world (number_held store) elem ty ≡ Some offset → size_of source (projected elem place) ≡ Some size → offset + size ≤ length bytes →
    place_bytes source store (projected elem place) ≡ Some (take size (drop offset bytes))

-- no two parts share a byte, each from its offset on
abbrev pub ArePartsApart : (offsets : List ℕ) → (parts : List (List ℕ)) → Type 0
ArePartsApart offsets parts =
    (i j first second : ℕ) (one other : List ℕ) → i ≢ j → slice_get offsets i ≡ Some first → slice_get parts i ≡ Some one →
    slice_get offsets j ≡ Some second → slice_get parts j ≡ Some other → (first + length one ≤ second) ⊎ (second + length other ≤ first)

-- each part of a value that was made of parts which lie apart is read at its offset
abbrev pub PartsAreRead : Type 0
PartsAreRead =
    (size : ℕ) (offsets : List ℕ) (parts : List (List ℕ)) (bytes : List ℕ) (k offset : ℕ) (part : List ℕ) →
    constructed size offsets parts ≡ Some bytes → ArePartsApart offsets parts → slice_get offsets k ≡ Some offset → slice_get parts k ≡ Some part →
    part_of offset (length part) bytes ≡ Some part

-- What an element leads to that takes the offset at an index, from a value that was made of parts which lie apart, is the part at that index,
-- if it is as long as the element's type.
abbrev pub HasItsPart : (elem : PlaceElem) → (k : ℕ) → Type 0
HasItsPart elem k =
    (source : Source) (store : Store) (place : Place) (ty : Ty) (layout : Layout) (parts : List (List ℕ)) (bytes part : List ℕ) →
    place_type source place ≡ Some ty → layout_of source.world ty ≡ Some layout →
    constructed layout.size layout.offsets parts ≡ Some bytes → place_bytes source store place ≡ Some bytes →
    ArePartsApart layout.offsets parts → slice_get parts k ≡ Some part → size_of source (projected elem place) ≡ Some (length part) →
    place_bytes source store (projected elem place) ≡ Some part

-- so does the part of a tuple at an index
abbrev pub TuplesHaveTheirParts : Type 0
TuplesHaveTheirParts = (k : ℕ) → HasItsPart (Part k) k

-- and each field of a struct, by its index among the struct's fields
abbrev pub StructsHaveTheirFields : Type 0
StructsHaveTheirFields = (field : FieldId) → HasItsPart (FieldOf field) field.local_id
