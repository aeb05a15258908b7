-- A refusal names the first row that doesn't hold everywhere, and the first place that doesn't meet it.
use Rattle.std.proofs.Common.{◌≡◌, ℕ, ◌+◌, ◌<◌, Option, Some, None, slice_get, refl, sym, arith, subst}
use borrow.Author.Count.{below_more}
use Rattle.world.specs.declared.database.HirDatabase.{HirDatabase}
use Rattle.world_check.specs.Rows.{FindsUnmet, Holds, IsRefusal, IsRefusalAt, all_rows}
use Rattle.check_trees.specs.First.{FailsFirst}
use Rattle.world_check.specs.Meets.{Meets}
use Rattle.world_check.specs.WorldPlaces.{places}
use Rattle.world_check.specs.declared.fault.CheckFault.{CheckFault}
use Rattle.world_check.specs.declared.fault.CheckFault.TheVariants.{InvalidWorld, NoMemory}
use Rattle.world_check.specs.declared.fault.CheckRow.{CheckRow}
use Rattle.world_check.specs.declared.fault.CheckRow.TheVariants.{C1, C2, C3, C4, C5, C6, C7}
use Rattle.world_check.specs.declared.place.Place.{Place}
use Rattle.world_check.proofs.AllMet.{all_met}

-- the searches of so many first rows of the check found nothing
pub record ArePassed (world : HirDatabase) (rows : ℕ) : Type 0 where
  pub none : (j : ℕ) (row : CheckRow) → j < rows → slice_get all_rows j ≡ Some row → FindsUnmet row world None

one_more : (world : HirDatabase) (rows : ℕ) (row : CheckRow) → ArePassed world rows → slice_get all_rows rows ≡ Some row → FindsUnmet row world None → ArePassed world (rows + 1)
one_more world rows row passed at found =
    record { none = λ j other h there. below_more (λ k. (r : CheckRow) → slice_get all_rows k ≡ Some r → FindsUnmet r world None) rows (λ k less r. passed.none k r less) here j h other there }
  where
    here : (r : CheckRow) → slice_get all_rows rows ≡ Some r → FindsUnmet r world None
    here r there = let same : row ≡ r = cc in subst (λ q. FindsUnmet q world None) same found

pub none_passed : (world : HirDatabase) → ArePassed world 0
none_passed world = record { none = λ j row h. absurd (omega arith) }

pub ids_passed : (world : HirDatabase) (found : Option Place) → found ≡ None → FindsUnmet C1 world found → ArePassed world 1
ids_passed world found is unmet = one_more world 0 C1 (none_passed world) refl (subst (FindsUnmet C1 world) is unmet)

pub trees_passed : (world : HirDatabase) → ArePassed world 1 → (found : Option Place) → found ≡ None → FindsUnmet C2 world found → ArePassed world 2
trees_passed world passed found is unmet = one_more world 1 C2 passed refl (subst (FindsUnmet C2 world) is unmet)

pub labels_passed : (world : HirDatabase) → ArePassed world 2 → (found : Option Place) → found ≡ None → FindsUnmet C3 world found → ArePassed world 3
labels_passed world passed found is unmet = one_more world 2 C3 passed refl (subst (FindsUnmet C3 world) is unmet)

pub resolution_passed : (world : HirDatabase) → ArePassed world 3 → (found : Option Place) → found ≡ None → FindsUnmet C4 world found → ArePassed world 4
resolution_passed world passed found is unmet = one_more world 3 C4 passed refl (subst (FindsUnmet C4 world) is unmet)

pub layouts_passed : (world : HirDatabase) → ArePassed world 4 → (found : Option Place) → found ≡ None → FindsUnmet C5 world found → ArePassed world 5
layouts_passed world passed found is unmet = one_more world 4 C5 passed refl (subst (FindsUnmet C5 world) is unmet)

pub tags_passed : (world : HirDatabase) → ArePassed world 5 → (found : Option Place) → found ≡ None → FindsUnmet C6 world found → ArePassed world 6
tags_passed world passed found is unmet = one_more world 5 C6 passed refl (subst (FindsUnmet C6 world) is unmet)

pub agreement_passed : (world : HirDatabase) → ArePassed world 6 → (found : Option Place) → found ≡ None → FindsUnmet C7 world found → ArePassed world 7
agreement_passed world passed found is unmet = one_more world 6 C7 passed refl (subst (FindsUnmet C7 world) is unmet)

-- where the searches of all rows found nothing, each place meets each row
pub all_hold : (world : HirDatabase) → ArePassed world 7 → Holds world
all_hold world passed = record { met = λ row. all_met row world (of row) }
  where
    of : (row : CheckRow) → FindsUnmet row world None
    of C1 = passed.none 0 C1 (omega arith) refl
    of C2 = passed.none 1 C2 (omega arith) refl
    of C3 = passed.none 2 C3 (omega arith) refl
    of C4 = passed.none 3 C4 (omega arith) refl
    of C5 = passed.none 4 C5 (omega arith) refl
    of C6 = passed.none 5 C6 (omega arith) refl
    of C7 = passed.none 6 C7 (omega arith) refl

-- a fault at the first place that doesn't meet a row, where the searches of the rows before found nothing
pub first_failure : (world : HirDatabase) (index : ℕ) (row : CheckRow) (found : Option Place) (place : Place) (fault : CheckFault) → slice_get all_rows index ≡ Some row → ArePassed world index → found ≡ Some place → FindsUnmet row world found → IsRefusalAt row place fault → IsRefusal world fault
first_failure world index row found place NoMemory at passed is unmet says = tt
first_failure world index row found place (InvalidWorld invalid) at passed is unmet says =
    let first : FindsUnmet row world (Some place) = subst (FindsUnmet row world) is unmet in
    let row_first : FailsFirst (λ other. (anywhere : Place) → Meets other world anywhere) all_rows row = record {
      index = index;
      at = at;
      fails = λ all. first.fails (all place);
      before = λ j other h there. all_met other world (passed.none j other h there);
    } in
    record {
      place = place;
      named = says.1;
      row_fails = subst (FailsFirst (λ other. (anywhere : Place) → Meets other world anywhere) all_rows) (sym says.0) row_first;
      place_fails = subst (λ r. FailsFirst (Meets r world) (places world) place) (sym says.0) first;
    }
