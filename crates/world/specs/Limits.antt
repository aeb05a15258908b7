-- How much a run may take.
use Rattle.std.specs.Prelude.{◌^◌, ◌≤◌, ◌&&◌, Bool, nat_le}
use Rattle.world.specs.declared.limits.Limits.{Limits}

-- the limits are at most the greatest ones
pub record IsWithin (limits : Limits) : Type 0 where
  pub blocks : limits.blocks ≤ 2 ^ 63
  pub nesting : limits.nesting ≤ 1000
  pub bytes : limits.bytes ≤ 2 ^ 59

-- whether they are
abbrev pub is_within : Limits → Bool
is_within limits = nat_le limits.blocks (2 ^ 63) && nat_le limits.nesting 1000 && nat_le limits.bytes (2 ^ 59)

-- the limits of a run for which none were asked
abbrev pub default_limits : Limits
default_limits = record { blocks = 10000000; nesting = 100; bytes = 1000000000 }
