-- The rows C1 to C7 of the check, and its faults.
use Rattle.std.specs.Prelude.{◌≡◌, ℕ, List, [], ◌∷◌, Option}
use Rattle.world.specs.Checked.{IsChecked}
use Rattle.world.specs.declared.database.HirDatabase.{HirDatabase}
use Rattle.check_trees.specs.First.{FailsFirst, FindsFailing}
use Rattle.world_check.specs.Places.{place_text}
use Rattle.world_check.specs.Meets.{Meets}
use Rattle.world_check.specs.WorldPlaces.{places}
use Rattle.world_check.specs.declared.fault.CheckFault.{CheckFault}
use Rattle.world_check.specs.declared.fault.CheckFault.TheVariants.{InvalidWorld, NoMemory}
use Rattle.world_check.specs.declared.fault.CheckRow.{CheckRow}
use Rattle.world_check.specs.declared.fault.CheckRow.TheVariants.{C1, C2, C3, C4, C5, C6, C7}
use Rattle.world_check.specs.declared.place.Place.{Place}

-- every place meets every row of the check
pub record Holds (world : HirDatabase) : Type 0 where
  pub met : (row : CheckRow) (place : Place) → Meets row world place

-- the search of the whole world for the first place that doesn't meet a row
abbrev pub FindsUnmet : CheckRow → HirDatabase → Option Place → Type 0
FindsUnmet row world found = FindsFailing (Meets row world) (places world) found

abbrev pub all_rows : List CheckRow
all_rows = C1 ∷ C2 ∷ C3 ∷ C4 ∷ C5 ∷ C6 ∷ C7 ∷ []

-- a row is the first that some place doesn't meet, and the text names the first such place in the order of the check
pub record IsFirstFailure (world : HirDatabase) (row : CheckRow) (text : List ℕ) : Type 0 where
  pub place : Place
  pub named : text ≡ place_text place
  pub row_fails : FailsFirst (λ other. (anywhere : Place) → Meets other world anywhere) all_rows row
  pub place_fails : FailsFirst (Meets row world) (places world) place

-- a fault names the first row that fails and the first place that fails it, or says that memory ran out, which may be in any world
abbrev pub IsRefusal : HirDatabase → CheckFault → Type 0
IsRefusal world (InvalidWorld invalid) = IsFirstFailure world invalid.row invalid.place
IsRefusal world NoMemory = Unit {0}

-- a fault names this row and this place, or says that memory ran out
abbrev pub IsRefusalAt : CheckRow → Place → CheckFault → Type 0
IsRefusalAt row place (InvalidWorld invalid) = (invalid.row ≡ row) × (invalid.place ≡ place_text place)
IsRefusalAt row place NoMemory = Unit {0}

-- the facts of a world that passed the check
pub record IsAccepted (world : HirDatabase) : Type 0 where
  pub checked : IsChecked world
  pub holds : Holds world
