-- The world and the goals of the input.
use Rattle.std.specs.Prelude.{ℕ, ◌==◌, List, [], ◌∷◌, ◌≡◌, codes, Ok, Err, if◌then◌else◌}
use Rattle.serde_json.specs.Data.{Data}
use Rattle.world.specs.declared.database.HirDatabase.{HirDatabase}
use Rattle.world_json.specs.declared.goal.Goal.{Goal}
use Rattle.world_json.specs.declared.input.Version.{Version}
use Rattle.world_json.specs.declared.input.Input.{Input}
use Rattle.json_kit.specs.declared.misfit.NotAWorld.{NotAWorld}
use Rattle.json_kit.specs.declared.misfit.NotAWorld.TheVariants.{At, NoMemory}
use Rattle.json_kit.specs.Fit.{Fit, misfit, ◌>>=◌}
use Rattle.world_json.specs.Goals.{goal_of}
use Rattle.json_kit.specs.Keys.{members_of, required, optional, with_no_other}
use Rattle.json_kit.specs.Parts.{list_of}
use Rattle.json_kit.specs.Scalars.{u64_of}
use Rattle.world_json.specs.Tables.{hir_database_of}

-- the version of the input format, which has to be 1
abbrev pub the_version : ℕ → Fit Version
the_version n = if n == 1 then Ok (record {}) else misfit

abbrev pub version_of : Data → Fit Version
version_of d = u64_of d >>= the_version

unfoldable pub input_of : Data → Fit Input
input_of d = do
  ms ← members_of d
  version ← required (codes "version") version_of d
  db ← required (codes "world") hir_database_of d
  goals ← optional [] (codes "goals") (list_of goal_of) d
  with_no_other (codes "version" ∷ codes "world" ∷ codes "goals" ∷ []) ms (record { db = db; goals = goals })

-- a path without the dot before its first key
abbrev pub without_dot : List ℕ → List ℕ
without_dot [] = []
without_dot (c ∷ path) = if c == 46 then path else c ∷ path

-- the second error is the first one with its path as it is printed
abbrev pub IsAtRoot : NotAWorld → NotAWorld → Type 0
IsAtRoot fault NoMemory = Unit {0}
IsAtRoot (At path) (At outer) = outer ≡ without_dot path
IsAtRoot NoMemory (At outer) = ⊥

-- the world and the goals, or the path of an error as it is printed: without the dot before its first key
abbrev pub from_root : Fit Input → Fit (HirDatabase × List Goal)
from_root (Ok input) = Ok (input.db, input.goals)
from_root (Err path) = Err (without_dot path)

-- the world and the goals of a JSON tree, or the path of the first part that doesn't fit
abbrev pub world_of : Data → Fit (HirDatabase × List Goal)
world_of d = from_root (input_of d)
