-- What a run of the program has read and written, by the status that it ends with.
use Rattle.std.specs.Prelude.{◌≡◌, ℕ, ◌<◌, Bool, true, false, List, ◌++◌, length, take, drop, String, Option, ◌⊎◌, option_map, IfSome}
use Rattle.std.specs.List.{list_all}
use Rattle.std.specs.declared.alloc.Global.{Global}
use Rattle.consteval.specs.Kept.{Kept}
use Rattle.consteval.specs.declared.evaluated.Evaluated.{Evaluated}
use Rattle.streams.specs.Faults.{HasCause}
use Rattle.world.specs.declared.database.HirDatabase.{HirDatabase}
use Rattle.world_check.specs.declared.fault.InvalidWorld.{InvalidWorld}
use Rattle.world_json.specs.declared.goal.Goal.{Goal}
use Rattle.mirconst_input.specs.declared.status.Status.{Status}
use Rattle.mirconst_input.specs.declared.status.Status.TheVariants.{Values, Errors, BadWords, NotJson, NotAWorld, BadWorld, TooLong, ReadFault, WriteFault, NoMemory}
use Rattle.mirconst_run.specs.Answers.{AreAnswers, has_value, nothing_kept}
use Rattle.mirconst_input.specs.Input.{most_bytes, IsReadToEnd, StandsFor, IsNoJson, HasMisfit, HasMisfitGoal, HasFailure}
use Rattle.mirconst_run.specs.Report.{report_text}
use Rattle.mirconst_input.specs.Streams.{Streams}
use Rattle.mirconst_input.specs.Words.{is_command}

-- The bytes of the input are the JSON of this world and of goals, which are definitions to be evaluated as constants; these are
-- the outcomes of the evaluations, in the order of the goals.
pub record AreOutcomes (bytes : List ℕ) (world : HirDatabase) (outcomes : List Evaluated) : Type 0 where
  pub goals : List Goal
  pub input : StandsFor bytes world goals
  pub after : Kept
  pub answers : AreAnswers (nothing_kept world) goals outcomes after

-- a text is the report on the goals in these bytes of the input; `all` says whether the evaluation of each goal gave a value
pub record IsReportOf (bytes text : List ℕ) (all : Bool) : Type 0 where
  pub world : HirDatabase
  pub outcomes : List Evaluated
  pub are : AreOutcomes bytes world outcomes
  pub valued : list_all has_value outcomes ≡ all
  pub reported : text ≡ report_text world outcomes

-- the report on the goals in these bytes of the input was written after what was written before
pub record IsReported (bytes : List ℕ) (all : Bool) (written written' : Option (List ℕ)) : Type 0 where
  pub text : List ℕ
  pub is_report : IsReportOf bytes text all
  pub appended : written' ≡ option_map (λ earlier. earlier ++ text) written

-- The goals of a run were evaluated: its input was read to the end, and the report on them was written. `all` says whether the
-- evaluation of each goal gave a value.
pub record IsAnswered (before after : Streams) (all : Bool) : Type 0 where
  pub bytes : List ℕ
  pub read : IsReadToEnd before.left after.left bytes
  pub reported : IsReported bytes all before.written after.written

-- some bytes from the front of a text were written after what was written before
pub record IsBegun (text : List ℕ) (written written' : Option (List ℕ)) : Type 0 where
  pub count : ℕ
  pub appended : written' ≡ option_map (λ earlier. earlier ++ take count text) written

-- some bytes from the front of the report on the goals in these bytes of the input were written
pub record IsReportBegun (bytes : List ℕ) (written written' : Option (List ℕ)) : Type 0 where
  pub text : List ℕ
  pub all : Bool
  pub is_report : IsReportOf bytes text all
  pub begun : IsBegun text written written'

-- a run ended since the arguments of the program are no command: nothing was read or written
pub record StopsAtWords (words : List (String Global)) (before after : Streams) : Type 0 where
  pub no_command : is_command words ≡ false
  pub nothing_read : after.left ≡ before.left
  pub nothing_written : after.written ≡ before.written

-- a run ended since its input is not JSON
pub record StopsAtJson (before after : Streams) : Type 0 where
  pub bytes : List ℕ
  pub read : IsReadToEnd before.left after.left bytes
  pub no_json : IsNoJson bytes
  pub nothing_written : after.written ≡ before.written

-- a run ended since its input is JSON, but no world with goals that fit it; the path is that of the first part that is wrong
pub record StopsAtWorld (path : List ℕ) (before after : Streams) : Type 0 where
  pub bytes : List ℕ
  pub read : IsReadToEnd before.left after.left bytes
  pub misfit : HasMisfit bytes path ⊎ HasMisfitGoal bytes path
  pub nothing_written : after.written ≡ before.written

-- a run ended since the world of its input fails the check of its conditions
pub record StopsAtCheck (invalid : InvalidWorld) (before after : Streams) : Type 0 where
  pub bytes : List ℕ
  pub read : IsReadToEnd before.left after.left bytes
  pub fails : HasFailure bytes invalid
  pub nothing_written : after.written ≡ before.written

-- a run ended since its input is longer than the greatest length: one byte more than that was read
pub record StopsAtLength (before after : Streams) : Type 0 where
  pub longer : IfSome before.left (λ bytes. most_bytes < length bytes)
  pub taken : after.left ≡ option_map (drop 67108865) before.left
  pub nothing_written : after.written ≡ before.written

-- a run ended since a read of its input failed
pub record StopsAtRead (before after : Streams) : Type 0 where
  pub cause : HasCause before.failed_reads after.failed_reads
  pub nothing_written : after.written ≡ before.written

-- a run ended since a write of its report failed
pub record StopsAtWrite (before after : Streams) : Type 0 where
  pub bytes : List ℕ
  pub read : IsReadToEnd before.left after.left bytes
  pub cause : HasCause before.failed_writes after.failed_writes
  pub begun : IsReportBegun bytes before.written after.written

-- a run ended since memory ran out
pub record StopsForMemory (before after : Streams) : Type 0 where
  pub nothing_written : after.written ≡ before.written

-- what the status says of a run that had a command and ended before the report was written, from its source and sink before and
-- after it
abbrev pub Stops : Streams → Streams → Status → Type 0
Stops before after NotJson = StopsAtJson before after
Stops before after (NotAWorld path) = StopsAtWorld path before after
Stops before after (BadWorld invalid) = StopsAtCheck invalid before after
Stops before after TooLong = StopsAtLength before after
Stops before after ReadFault = StopsAtRead before after
Stops before after WriteFault = StopsAtWrite before after
Stops before after NoMemory = StopsForMemory before after
Stops before after status = ⊥

-- what the status says of a run, from the arguments of the program and its source and sink before and after the run
abbrev pub Means : List (String Global) → Streams → Streams → Status → Type 0
Means words before after Values = IsAnswered before after true
Means words before after Errors = IsAnswered before after false
Means words before after BadWords = StopsAtWords words before after
Means words before after status = Stops before after status
