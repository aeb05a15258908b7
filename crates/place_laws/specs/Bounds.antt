-- Places that are out of bounds.
use Rattle.std.specs.Prelude.{◌≡◌, true, List, ℕ, None}
use Rattle.source_meaning.specs.Places.{cell_with, is_out_of_bounds, place_bytes}
use Rattle.source_meaning.specs.Source.{Source, Store, Place}

-- a place has no bytes, and none can be put there
pub record IsNowhere (source : Source) (store : Store) (place : Place) : Type 0 where
  pub has_none : place_bytes source store place ≡ None
  pub takes_none : (put : List ℕ) → cell_with source store place put ≡ None

-- so it is with one that is out of bounds
abbrev pub OutOfBoundsIsNowhere : Type 0
OutOfBoundsIsNowhere = (source : Source) (store : Store) (place : Place) → is_out_of_bounds source store place ≡ true → IsNowhere source store place
