-- Readers of goals.
use Rattle.std.specs.Prelude.{[], ◌∷◌, None, codes}
use Rattle.serde_json.specs.Data.{Data}
use Rattle.world.specs.declared.limits.Limits.{Limits}
use Rattle.json_kit.specs.Fit.{Fit, ◌>>=◌}
use Rattle.json_types.specs.Ids.{def_with_body_id_of}
use Rattle.json_kit.specs.Keys.{members_of, optional, required, with_no_other}
use Rattle.json_kit.specs.Parts.{option_of}
use Rattle.json_kit.specs.Scalars.{u32_of, u64_of}
use Rattle.json_types.specs.Types.{generic_args_of}
use Rattle.world_json.specs.declared.goal.Goal.{Goal}

unfoldable pub limits_of : Data → Fit Limits
limits_of d = do
  ms ← members_of d
  blocks ← required (codes "blocks") u64_of d
  nesting ← required (codes "nesting") u32_of d
  bytes ← required (codes "bytes") u64_of d
  with_no_other (codes "blocks" ∷ codes "nesting" ∷ codes "bytes" ∷ []) ms (record { blocks = blocks; nesting = nesting; bytes = bytes })

unfoldable pub goal_of : Data → Fit Goal
goal_of d = do
  ms ← members_of d
  def ← required (codes "def") def_with_body_id_of d
  args ← optional (record { 0 = [] }) (codes "args") generic_args_of d
  limits ← optional None (codes "limits") (option_of limits_of) d
  with_no_other (codes "def" ∷ codes "args" ∷ codes "limits" ∷ []) ms (record { def = def; args = args; limits = limits })
