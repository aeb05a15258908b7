-- Patterns whose `..` stands among their subpatterns or directly behind them.
use Rattle.std.specs.Prelude.{ℕ, nat_le, Bool, true, List, length, Option, Some, None}
use Rattle.types.specs.declared.ids.PatId.{PatId}
use Rattle.world.specs.declared.pat.Pat.{Pat}
use Rattle.world.specs.declared.pat.Pat.TheVariants as pat

-- the position of the `..`, if there is one, is at most the number of subpatterns
abbrev pub is_within : Option ℕ → List PatId → Bool
is_within None parts = true
is_within (Some before) parts = nat_le before (length parts)

abbrev pub is_ellipsis_inside : Pat → Bool
is_ellipsis_inside (pat.Tuple args ellipsis) = is_within ellipsis args
is_ellipsis_inside (pat.TupleStruct args ellipsis) = is_within ellipsis args
is_ellipsis_inside _ = true
