-- The causes of the statuses with which a function ends a run, from those of the functions that it calls.
use Rattle.std.proofs.Common.{◌≡◌, ℕ, ◌≤◌, List, None, Some, Ok, inl, inr, subst, arith}
use Rattle.std.specs.Prelude.{IsUtf8, position}
use Rattle.serde_json.specs.Data.{Data}
use Rattle.serde_json.specs.Read.{read}
use Rattle.streams.specs.Faults.{HasCause}
use Rattle.world.specs.declared.database.HirDatabase.{HirDatabase}
use Rattle.world_check.specs.Rows.{Holds}
use Rattle.world_json.specs.declared.goal.Goal.{Goal}
use Rattle.world_json.specs.Input.{world_of}
use Rattle.mirconst_input.specs.Goals.{is_misfit}
use Rattle.mirconst_input.specs.Input.{IsNoJson}
use Rattle.mirconst_input.specs.Refusals.{IsOfRead, IsOfReading, IsOfInput, IsOfTree, IsOfCheck, IsOfGoal}
use Rattle.mirconst_input.specs.Streams.{Streams}
use Rattle.mirconst_input.specs.declared.status.Status.{Status}
use Rattle.mirconst_input.specs.declared.status.Status.TheVariants.{Values, Errors, BadWords, NotJson, NotAWorld, BadWorld, TooLong, ReadFault, WriteFault, NoMemory}

-- a failure after a later count is one after an earlier count too
since_before : (before between after : ℕ) → before ≤ between → HasCause between after → HasCause before after
since_before before between after rising (inl rose) = inl (omega arith)
since_before before between after rising (inr full) = inr full

-- the status with which one read ends a run is one of reading the input
pub read_refused : (before after : Streams) (between : ℕ) (status : Status) → before.failed_reads ≤ between → IsOfRead between after.failed_reads status →
    IsOfReading before after status
read_refused before after between Values rising is = absurd is
read_refused before after between Errors rising is = absurd is
read_refused before after between BadWords rising is = absurd is
read_refused before after between NotJson rising is = absurd is
read_refused before after between (NotAWorld path) rising is = absurd is
read_refused before after between (BadWorld invalid) rising is = absurd is
read_refused before after between TooLong rising is = absurd is
read_refused before after between ReadFault rising is = since_before before.failed_reads between after.failed_reads rising is
read_refused before after between WriteFault rising is = absurd is
read_refused before after between NoMemory rising is = tt

-- bytes that aren't parsed are no JSON
pub no_json : (bytes : List ℕ) → (IsUtf8 bytes → read bytes ≡ None) → IsNoJson bytes
no_json bytes none tree is =
    let nothing : read bytes ≡ None = none is.utf8 in
    let something : read bytes ≡ Some tree = is.json in
    absurd cc

-- the status with which a JSON tree ends a run is one of its bytes
pub tree_refused : (bytes : List ℕ) (tree : Data) (status : Status) → IsUtf8 bytes → read bytes ≡ Some tree → IsOfTree tree status → IsOfInput bytes status
tree_refused bytes tree Values utf8 json is = absurd is
tree_refused bytes tree Errors utf8 json is = absurd is
tree_refused bytes tree BadWords utf8 json is = absurd is
tree_refused bytes tree NotJson utf8 json is = absurd is
tree_refused bytes tree (NotAWorld path) utf8 json is = inl (record { tree = tree; json = record { utf8 = utf8; json = json }; misfit = is })
tree_refused bytes tree (BadWorld invalid) utf8 json is = absurd is
tree_refused bytes tree TooLong utf8 json is = absurd is
tree_refused bytes tree ReadFault utf8 json is = absurd is
tree_refused bytes tree WriteFault utf8 json is = absurd is
tree_refused bytes tree NoMemory utf8 json is = tt

-- the status with which a world that fails its check ends a run is one of the bytes that it was read from
pub check_refused : (bytes : List ℕ) (tree : Data) (world : HirDatabase) (goals : List Goal) (status : Status) → IsUtf8 bytes → read bytes ≡ Some tree →
    world_of tree ≡ Ok (world, goals) → IsOfCheck world status → IsOfInput bytes status
check_refused bytes tree world goals Values utf8 json stands is = absurd is
check_refused bytes tree world goals Errors utf8 json stands is = absurd is
check_refused bytes tree world goals BadWords utf8 json stands is = absurd is
check_refused bytes tree world goals NotJson utf8 json stands is = absurd is
check_refused bytes tree world goals (NotAWorld path) utf8 json stands is = absurd is
check_refused bytes tree world goals (BadWorld invalid) utf8 json stands is =
    record { tree = tree; world = world; goals = goals; json = record { utf8 = utf8; json = json }; stands = stands; fails = is }
check_refused bytes tree world goals TooLong utf8 json stands is = absurd is
check_refused bytes tree world goals ReadFault utf8 json stands is = absurd is
check_refused bytes tree world goals WriteFault utf8 json stands is = absurd is
check_refused bytes tree world goals NoMemory utf8 json stands is = tt

-- the status for a wrong goal is one of the bytes that the world and the goals were read from
pub goal_refused : (bytes : List ℕ) (tree : Data) (passed world : HirDatabase) (goals : List Goal) (place : ℕ) (status : Status) → IsUtf8 bytes → read bytes ≡ Some tree →
    world_of tree ≡ Ok (world, goals) → passed ≡ world → Holds world → position (is_misfit passed) goals ≡ Some place → IsOfGoal place status →
    IsOfInput bytes status
goal_refused bytes tree passed world goals place Values utf8 json stands same holds first is = absurd is
goal_refused bytes tree passed world goals place Errors utf8 json stands same holds first is = absurd is
goal_refused bytes tree passed world goals place BadWords utf8 json stands same holds first is = absurd is
goal_refused bytes tree passed world goals place NotJson utf8 json stands same holds first is = absurd is
goal_refused bytes tree passed world goals place (NotAWorld path) utf8 json stands same holds first is =
    inr (record {
      tree = tree;
      world = world;
      goals = goals;
      place = place;
      json = record { utf8 = utf8; json = json };
      stands = stands;
      holds = holds;
      first = subst (λ (db : HirDatabase). position (is_misfit db) goals ≡ Some place) same first;
      named = is;
    })
goal_refused bytes tree passed world goals place (BadWorld invalid) utf8 json stands same holds first is = absurd is
goal_refused bytes tree passed world goals place TooLong utf8 json stands same holds first is = absurd is
goal_refused bytes tree passed world goals place ReadFault utf8 json stands same holds first is = absurd is
goal_refused bytes tree passed world goals place WriteFault utf8 json stands same holds first is = absurd is
goal_refused bytes tree passed world goals place NoMemory utf8 json stands same holds first is = tt
