-- The statuses with which each part of a run ends it, and their causes. A lack of memory can end any part.
use Rattle.std.specs.Prelude.{◌≡◌, ℕ, ◌<◌, List, length, drop, Option, Some, Err, ◌⊎◌, IfSome, option_map}
use Rattle.serde_json.specs.Data.{Data}
use Rattle.streams.specs.Faults.{HasCause}
use Rattle.world.specs.declared.database.HirDatabase.{HirDatabase}
use Rattle.world_check.specs.Rows.{IsFirstFailure}
use Rattle.world_check.specs.declared.fault.CheckFault.{CheckFault}
use Rattle.world_check.specs.declared.fault.CheckFault.TheVariants as check
use Rattle.world_json.specs.Input.{world_of}
use Rattle.mirconst_input.specs.declared.status.Status.{Status}
use Rattle.mirconst_input.specs.declared.status.Status.TheVariants.{NotJson, NotAWorld, BadWorld, TooLong, ReadFault, NoMemory}
use Rattle.mirconst_input.specs.Input.{most_bytes, IsNoJson, HasMisfit, HasMisfitGoal, HasFailure, goal_path}
use Rattle.mirconst_input.specs.Streams.{Streams}

-- the status with which one read ends a run, from the counts of failed reads before and after it: the read failed
abbrev pub IsOfRead : ℕ → ℕ → Status → Type 0
IsOfRead failed failed' ReadFault = HasCause failed failed'
IsOfRead failed failed' NoMemory = Unit {0}
IsOfRead failed failed' status = ⊥

-- the input is longer than the greatest length, and one byte more than that was taken from its front
pub record IsTooLong (left left' : Option (List ℕ)) : Type 0 where
  pub longer : IfSome left (λ bytes. most_bytes < length bytes)
  pub taken : left' ≡ option_map (drop 67108865) left

-- the status with which reading the input ends a run, from the source before and after it: the input is too long, or a read failed
abbrev pub IsOfReading : Streams → Streams → Status → Type 0
IsOfReading before after TooLong = IsTooLong before.left after.left
IsOfReading before after ReadFault = HasCause before.failed_reads after.failed_reads
IsOfReading before after NoMemory = Unit {0}
IsOfReading before after status = ⊥

-- the status with which the bytes of the input end a run: they are no JSON, or stand for no world with goals, or the world fails
-- the check of its conditions, or a goal is wrong in it
abbrev pub IsOfInput : List ℕ → Status → Type 0
IsOfInput bytes NotJson = IsNoJson bytes
IsOfInput bytes (NotAWorld path) = HasMisfit bytes path ⊎ HasMisfitGoal bytes path
IsOfInput bytes (BadWorld invalid) = HasFailure bytes invalid
IsOfInput bytes NoMemory = Unit {0}
IsOfInput bytes status = ⊥

-- the status with which a JSON tree ends a run: it stands for no world with goals
abbrev pub IsOfTree : Data → Status → Type 0
IsOfTree tree (NotAWorld path) = world_of tree ≡ Err path
IsOfTree tree NoMemory = Unit {0}
IsOfTree tree status = ⊥

-- the status with which a world ends a run: it fails the check of its conditions, first at this condition and place
abbrev pub IsOfCheck : HirDatabase → Status → Type 0
IsOfCheck world (BadWorld invalid) = IsFirstFailure world invalid.row invalid.place
IsOfCheck world NoMemory = Unit {0}
IsOfCheck world status = ⊥

-- the status for why the check of a world did not pass it
abbrev pub IsOfFault : CheckFault → Status → Type 0
IsOfFault (check.InvalidWorld invalid) status = status ≡ BadWorld invalid
IsOfFault check.NoMemory status = status ≡ NoMemory

-- the status for a wrong goal, from its index in the input
abbrev pub IsOfGoal : ℕ → Status → Type 0
IsOfGoal place (NotAWorld path) = path ≡ goal_path place
IsOfGoal place NoMemory = Unit {0}
IsOfGoal place status = ⊥
