-- Ends that are sound: they aren't stuck, each value has the size of its type, and jumps lead to open blocks.
use Rattle.std.specs.Prelude.{Contains}
use Rattle.std.proofs.Common.{◌≡◌, ℕ, Bool, true, false, if◌then◌else◌, ◌==◌, List, [], length, Option, refl, sym, ◌∙◌, subst, arith, eq-eqb}
use Rattle.std.proofs.lemmas.Bool.{false≢true}
use Rattle.types.specs.declared.ty.Ty.{Ty}
use Rattle.numbers.specs.Operators.{Answer, Computes, Panics, Undefined}
use Rattle.source_meaning.specs.Around.{Target}
use Rattle.source_meaning.specs.Ends.{Cost, no_cost, End, Go, Jumps, Jump, Break, Continue, Return, Faults, NoLayout, Stuck, More, after, then_do}
use Rattle.source_meaning.specs.Entering.{entering}
use Rattle.source_meaning.specs.Laid.{is_laid_out}
use Rattle.source_meaning.specs.Meaning.{Callees, within_bounds, put, copy_to, put_answer, put_all, put_at, copy_at, answer_at, returned, unfit_meaning, where_laid}
use Rattle.source_meaning.specs.Places.{cell_with, is_out_of_bounds}
use Rattle.source_meaning.specs.Source.{Source, Store, IsSized, Path, Place, Cell, Result, node, own_type, cell_size}
use Rattle.source_meaning.specs.Valid.{Calls}
use Rattle.source_meaning.proofs.Aggregates.{AreBytes}
use Rattle.source_meaning.proofs.Operators.{Fits}
use Rattle.source_meaning.proofs.Places.{IsPlaceOf, place_takes_bytes}
use Rattle.source_meaning.proofs.Stores.{with_bytes_is_sized}
use Rattle.source_meaning.proofs.Values.{size_at}

-- how many bytes the values of an expression itself have
abbrev pub size_of : Source → ℕ → ℕ
size_of source e = size_at source (own_type source e)

-- one of these targets is an expression
abbrev pub IsNode : List Target → ℕ → Type 0
IsNode targets node = (target : Target) × Contains targets target × (target.opened.node ≡ node)

-- a jump leads to one of these targets, or out of the body
abbrev pub IsTarget : List Target → Jump → Type 0
IsTarget targets (Break node) = IsNode targets node
IsTarget targets (Continue node) = IsNode targets node
IsTarget targets Return = Unit {0}

-- an end that isn't stuck, and which leaves sized cells where it is a value, or a jump, which leads to a target or out of the body
abbrev pub IsSound : {A : Type 0} → Source → List Target → (A → Type 0) → End A → Type 0
IsSound source targets P (Go value store cost) = IsSized source store × P value
IsSound source targets P (Jumps to store cost) = IsSized source store × IsTarget targets to
IsSound source targets P (Faults fault cost) = Unit {0}
IsSound source targets P Stuck = ⊥
IsSound source targets P (More cost) = Unit {0}

pub after_is_sound : {A : Type 0} (source : Source) (targets : List Target) (P : A → Type 0) (cost : Cost) (end : End A) → IsSound source targets P end → IsSound source targets P (after cost end)
unfolding after
after_is_sound source targets P cost (Go value store rest) sound = sound
after_is_sound source targets P cost (Jumps to store rest) sound = sound
after_is_sound source targets P cost (Faults fault rest) sound = tt
after_is_sound source targets P cost Stuck sound = sound
after_is_sound source targets P cost (More rest) sound = tt

pub then_do_is_sound : {A B : Type 0} (source : Source) (targets : List Target) (P : A → Type 0) (Q : B → Type 0) (first : End A) (next : A → Store → End B) → IsSound source targets P first → ((value : A) (store : Store) → IsSized source store → P value → IsSound source targets Q (next value store)) → IsSound source targets Q (then_do first next)
unfolding then_do
then_do_is_sound source targets P Q (Go value store cost) next sound rest = after_is_sound source targets Q cost (next value store) (rest value store sound.0 sound.1)
then_do_is_sound source targets P Q (Jumps to store cost) next sound rest = sound
then_do_is_sound source targets P Q (Faults fault cost) next sound rest = tt
then_do_is_sound source targets P Q Stuck next sound rest = sound
then_do_is_sound source targets P Q (More cost) next sound rest = tt

-- what isn't done where a place is out of bounds: a panic
pub within_bounds_is_sound : {A : Type 0} (source : Source) (targets : List Target) (P : A → Type 0) (out : Bool) (end : End A) → (out ≡ false → IsSound source targets P end) → IsSound source targets P (within_bounds out end)
within_bounds_is_sound source targets P true end sound = tt
within_bounds_is_sound source targets P false end sound = sound refl

abbrev pub Nothing : Unit {0} → Type 0
Nothing done = Unit {0}

pub either_is_sound : (source : Source) (targets : List Target) (test : Bool) (one other : End (Unit {0})) → test ≡ true → IsSound source targets Nothing one → IsSound source targets Nothing (if test then one else other)
either_is_sound source targets true one other is sound = sound
either_is_sound source targets false one other is sound = absurd (false≢true is)

pub put_is_sound : (source : Source) (targets : List Target) (store : Store) (path : Path) (bytes : List ℕ) → IsSized source store → length bytes ≡ cell_size source path.cell → IsSound source targets Nothing (put store path bytes)
unfolding put
put_is_sound source targets store path bytes sized fits =
    either_is_sound source targets (length bytes == length (store path.cell)) _ Stuck (eq-eqb _ _ (fits ∙ sym (sized.holds_all path.cell))) (with_bytes_is_sized source store path.cell bytes sized fits, tt)

pub copy_is_sound : (source : Source) (targets : List Target) (store : Store) (path : Path) (given : Option (List ℕ)) → IsSized source store → AreBytes (cell_size source path.cell) given → IsSound source targets Nothing (copy_to store path given)
copy_is_sound source targets store path given sized there =
    subst (λ bytes. IsSound source targets Nothing (copy_to store path bytes)) (sym there.is) (put_is_sound source targets store path there.bytes sized there.long)

pub put_answer_is_sound : (source : Source) (targets : List Target) (store : Store) (path : Path) (answer : Answer) → IsSized source store → Fits (cell_size source path.cell) answer → IsSound source targets Nothing (put_answer store path answer)
put_answer_is_sound source targets store path (Computes bytes) sized fits = put_is_sound source targets store path bytes sized fits
put_answer_is_sound source targets store path (Panics word) sized fits = tt
put_answer_is_sound source targets store path Undefined sized fits = fits

-- all bytes of a cell are replaced by as many
pub put_all_is_sound : (source : Source) (targets : List Target) (store : Store) (cell : Cell) (given : Option (List ℕ)) → IsSized source store → AreBytes (cell_size source cell) given → IsSound source targets Nothing (put_all store cell given)
put_all_is_sound source targets store cell given sized there =
    subst (λ bytes. IsSound source targets Nothing (put_all store cell bytes)) (sym there.is) (with_bytes_is_sized source store cell there.bytes sized there.long, tt)

-- bytes of the size of a place's type are put there
pub put_at_is_sound : (source : Source) (targets : List Target) (store : Store) (place : Place) (ty : Option Ty) (bytes : List ℕ) → IsSized source store → IsPlaceOf source place ty → is_out_of_bounds source store place ≡ false → length bytes ≡ size_at source ty → IsSound source targets Nothing (put_at source store place bytes)
put_at_is_sound source targets store place ty bytes sized fits within long =
    put_all_is_sound source targets store place.cell (cell_with source store place bytes) sized (place_takes_bytes source store place ty bytes sized fits within long)

pub copy_at_is_sound : (source : Source) (targets : List Target) (store : Store) (place : Place) (ty : Option Ty) (given : Option (List ℕ)) → IsSized source store → IsPlaceOf source place ty → is_out_of_bounds source store place ≡ false → AreBytes (size_at source ty) given → IsSound source targets Nothing (copy_at source store place given)
copy_at_is_sound source targets store place ty given sized fits within there =
    subst (λ bytes. IsSound source targets Nothing (copy_at source store place bytes)) (sym there.is) (put_at_is_sound source targets store place ty there.bytes sized fits within there.long)

pub answer_at_is_sound : (source : Source) (targets : List Target) (store : Store) (place : Place) (ty : Option Ty) (answer : Answer) → IsSized source store → IsPlaceOf source place ty → is_out_of_bounds source store place ≡ false → Fits (size_at source ty) answer → IsSound source targets Nothing (answer_at source store place answer)
answer_at_is_sound source targets store place ty (Computes bytes) sized fits within long = put_at_is_sound source targets store place ty bytes sized fits within long
answer_at_is_sound source targets store place ty (Panics word) sized fits within long = tt
answer_at_is_sound source targets store place ty Undefined sized fits within long = long

-- the end of a body that is neither stuck nor a jump; a value has as many bytes as the result's cell
abbrev pub IsSettled : Source → End (List ℕ) → Type 0
IsSettled source (Go value store cost) = length value ≡ cell_size source Result
IsSettled source (Jumps to store cost) = ⊥
IsSettled source (Faults fault cost) = Unit {0}
IsSettled source Stuck = ⊥
IsSettled source (More cost) = Unit {0}

pub after_is_settled : (source : Source) (cost : Cost) (end : End (List ℕ)) → IsSettled source end → IsSettled source (after cost end)
unfolding after
after_is_settled source cost (Go value store rest) settled = settled
after_is_settled source cost (Jumps to store rest) settled = settled
after_is_settled source cost (Faults fault rest) settled = tt
after_is_settled source cost Stuck settled = settled
after_is_settled source cost (More rest) settled = tt

no_node : (node : ℕ) → IsNode [] node → ⊥
no_node node is = let less = is.1.1 in omega arith

-- around a root nothing is open, so the only jump out of it is a `return`, which ends the body well
pub returned_is_settled : (source : Source) (end : End (Unit {0})) → IsSound source [] Nothing end → IsSettled source (returned source end)
unfolding after
returned_is_settled source (Go done store cost) sound = sound.0.holds_all Result
returned_is_settled source (Jumps (Break node) store cost) sound = no_node node sound.1
returned_is_settled source (Jumps (Continue node) store cost) sound = no_node node sound.1
returned_is_settled source (Jumps Return store cost) sound = sound.0.holds_all Result
returned_is_settled source (Faults fault cost) sound = tt
returned_is_settled source Stuck sound = sound
returned_is_settled source (More cost) sound = tt

-- a body is settled from where its layouts are tested on, if it is where they are there: else its meaning is a fault
pub where_laid_is_settled : (source : Source) (laid : Bool) (end : End (List ℕ)) → (laid ≡ true → IsSettled source end) → IsSettled source (where_laid laid end)
where_laid_is_settled source true end settled = settled refl
where_laid_is_settled source false end settled = tt

-- arguments that don't fit are no matter where a callee can't be entered
pub unfit_is_settled : (called : Source) (laid : Bool) → laid ≡ false → IsSettled called (unfit_meaning laid called)
unfit_is_settled called true is = absurd (false≢true (sym is))
unfit_is_settled called false is = after_is_settled called (entering called) (Faults NoLayout no_cost) tt

-- the callees of a body end well, from wherever they are entered: where their types have layouts, from a store that fits them
pub record AreSoundCallees (source : Source) (callees : Callees) : Type 0 where
  pub settle : (called : Source) → Calls source called → (start : Store) → IsSized called start → IsSettled called (callees called start)
  pub unlaid : (called : Source) → Calls source called → is_laid_out called ≡ false → (start : Store) → IsSettled called (callees called start)
