-- Readers of resolved impl items.
use Rattle.std.specs.Prelude.{[], ◌∷◌, codes}
use Rattle.serde_json.specs.Data.{Data}
use Rattle.world.specs.declared.impls.ConstImplRow.{ConstImplRow}
use Rattle.world.specs.declared.impls.ImplRow.{ImplRow}
use Rattle.json_kit.specs.Fit.{Fit, ◌>>=◌}
use Rattle.json_types.specs.Ids.{const_id_of, function_id_of}
use Rattle.json_kit.specs.Keys.{members_of, optional, required, with_no_other}
use Rattle.json_types.specs.Types.{generic_args_of}

unfoldable pub impl_row_of : Data → Fit ImplRow
impl_row_of d = do
  ms ← members_of d
  function ← required (codes "function") function_id_of d
  args ← optional (record { 0 = [] }) (codes "args") generic_args_of d
  target ← required (codes "target") function_id_of d
  target_args ← optional (record { 0 = [] }) (codes "target_args") generic_args_of d
  with_no_other (codes "function" ∷ codes "args" ∷ codes "target" ∷ codes "target_args" ∷ []) ms (record { function = function; args = args; target = target; target_args = target_args })

unfoldable pub const_impl_row_of : Data → Fit ConstImplRow
const_impl_row_of d = do
  ms ← members_of d
  konst ← required (codes "konst") const_id_of d
  args ← optional (record { 0 = [] }) (codes "args") generic_args_of d
  target ← required (codes "target") const_id_of d
  target_args ← optional (record { 0 = [] }) (codes "target_args") generic_args_of d
  with_no_other (codes "konst" ∷ codes "args" ∷ codes "target" ∷ codes "target_args" ∷ []) ms (record { konst = konst; args = args; target = target; target_args = target_args })
