-- Goals that are wrong in a world. A goal is a definition whose body is to be evaluated as a constant, with generic arguments
-- and with limits on the evaluation.
use Rattle.std.specs.Prelude.{Bool, true, false, Option, Some, None, not, ◌||◌}
use Rattle.world.specs.Limits.{is_within}
use Rattle.world.specs.declared.database.HirDatabase.{HirDatabase}
use Rattle.world.specs.declared.limits.Limits.{Limits}
use Rattle.check_names.specs.Known.{are_args_known, is_def_known}
use Rattle.types.specs.declared.ids.DefWithBodyId.{DefWithBodyId}
use Rattle.types.specs.declared.ids.DefWithBodyId.TheVariants.{VariantId}
use Rattle.world_json.specs.declared.goal.Goal.{Goal}

-- whether a definition is a variant of an enum, which can't be a goal
abbrev pub is_variant : DefWithBodyId → Bool
is_variant (VariantId id) = true
is_variant _ = false

-- whether a goal's limits are left out, or at most the greatest ones that are allowed
abbrev pub are_within : Option Limits → Bool
are_within None = true
are_within (Some limits) = is_within limits

-- Whether a goal is wrong in a world: its definition is a variant of an enum, or its id or an id in its generic arguments
-- is out of range in the world, or its limits are too great.
abbrev pub is_misfit : HirDatabase → Goal → Bool
is_misfit world goal =
    is_variant goal.def || not (is_def_known world goal.def) || not (are_args_known world goal.args) || not (are_within goal.limits)
