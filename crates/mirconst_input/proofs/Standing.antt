-- The checked world and the goals in the bytes of the input, from the results of parsing, reading and checking.
use Rattle.std.proofs.Common.{◌≡◌, ℕ, List, None, Some, sym, subst, Ok}
use Rattle.std.specs.Prelude.{IsUtf8, position}
use Rattle.serde_json.specs.Data.{Data}
use Rattle.serde_json.specs.Read.{read}
use Rattle.world.specs.declared.database.HirDatabase.{HirDatabase}
use Rattle.world_check.specs.Rows.{Holds}
use Rattle.world_json.specs.declared.goal.Goal.{Goal}
use Rattle.world_json.specs.Input.{world_of}
use Rattle.mirconst_input.specs.Goals.{is_misfit}
use Rattle.mirconst_input.specs.Input.{StandsFor}

-- bytes that were parsed, read as a world and goals, and checked without a fault, are the input of a run
pub stands_for : (bytes : List ℕ) (tree : Data) (world db : HirDatabase) (goals : List Goal) → IsUtf8 bytes → read bytes ≡ Some tree →
    world_of tree ≡ Ok (db, goals) → world ≡ db → Holds db → position (is_misfit world) goals ≡ None → StandsFor bytes world goals
stands_for bytes tree world db goals utf8 json stands same holds fit =
    record {
      tree = tree;
      utf8 = utf8;
      json = json;
      stands = subst (λ (passed : HirDatabase). world_of tree ≡ Ok (passed, goals)) (sym same) stands;
      holds = subst (λ (passed : HirDatabase). Holds passed) (sym same) holds;
      fit = fit;
    }
