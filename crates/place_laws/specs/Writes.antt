-- What a write at a place changes: the bytes of the place, and no others. Where a place lies is known by the indices that the store holds, so that a
-- write to the cell of an index moves elements.
use Rattle.std.specs.Prelude.{◌≡◌, ◌≢◌, ◌⊎◌, ℕ, ◌+◌, ◌≤◌, List, ◌∷◌, length, take, drop, Option, Some, option_map, option_and_then}
use Rattle.world.specs.Lookups.{layout_of}
use Rattle.source_meaning.specs.Places.{cell_with, offset_behind, place_bytes, type_behind}
use Rattle.source_meaning.specs.Core.{PlaceElem}
use Rattle.source_meaning.specs.Source.{Source, Store, Cell, IndexOf, Place, cell_type, number_held, with_cell_bytes}

-- a cell that isn't that of an index
abbrev pub HoldsNoIndex : Cell → Type 0
HoldsNoIndex cell = (e : ℕ) → cell ≢ IndexOf e

-- the store after bytes were put in a cell that isn't that of an index has them at the place where they were put
abbrev pub WritesAreRead : Type 0
WritesAreRead =
    (source : Source) (store : Store) (place : Place) (put all : List ℕ) → HoldsNoIndex place.cell → cell_with source store place put ≡ Some all →
    place_bytes source (with_cell_bytes store place.cell all) place ≡ Some put

-- where a place begins in its cell, by the indices that a store holds
abbrev pub begins_at : Source → Store → Place → Option ℕ
begins_at source store place = offset_behind source.world (number_held store) place.projection (cell_type source place.cell)

-- a cell is as long as it was, and the bytes before a place and behind it are those that it had
pub record KeepsTheRest (offset size : ℕ) (before after : List ℕ) : Type 0 where
  pub long : length after ≡ length before
  pub first : take offset after ≡ take offset before
  pub last : drop (offset + size) after ≡ drop (offset + size) before

abbrev pub WritesKeepTheRest : Type 0
WritesKeepTheRest =
    (source : Source) (store : Store) (place : Place) (put all : List ℕ) (offset : ℕ) → cell_with source store place put ≡ Some all →
    begins_at source store place ≡ Some offset → KeepsTheRest offset (length put) (store place.cell) all

-- what elements lead to in a cell, where there is at least one
abbrev pub part_in : Cell → PlaceElem → List PlaceElem → Place
part_in cell elem rest = record { cell = cell; projection = elem ∷ rest }

-- how many bytes the type has that elements lead to
abbrev pub size_of : Source → Place → Option ℕ
size_of source place = option_map (λ layout. layout.size) (option_and_then (layout_of source.world) (type_behind source.world place.projection (cell_type source place.cell)))

-- a part of the same cell that ends before the place, or begins behind it
pub record LiesApart (source : Source) (store : Store) (place other : Place) (size : ℕ) : Type 0 where
  pub offset : ℕ
  pub begins : begins_at source store place ≡ Some offset
  pub at : ℕ
  pub other_begins : begins_at source store other ≡ Some at
  pub other_size : ℕ
  pub other_has : size_of source other ≡ Some other_size
  pub apart : (at + other_size ≤ offset) ⊎ (offset + size ≤ at)

abbrev pub WritesKeepOthers : Type 0
WritesKeepOthers =
    (source : Source) (store : Store) (place : Place) (elem : PlaceElem) (rest : List PlaceElem) (put all : List ℕ) → HoldsNoIndex place.cell → cell_with source store place put ≡ Some all →
    LiesApart source store place (part_in place.cell elem rest) (length put) →
    place_bytes source (with_cell_bytes store place.cell all) (part_in place.cell elem rest) ≡ place_bytes source store (part_in place.cell elem rest)
