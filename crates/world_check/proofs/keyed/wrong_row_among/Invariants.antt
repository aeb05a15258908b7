use Rattle.std.proofs.Common.{◌≡◌, drop}
use Rattle.world.specs.Failing.{first_failing}
use Rattle.world_check.proofs.keyed.wrong_row_among.Given as goal

abbrev pub invariant-loop-i : goal.invariant-loop-i
invariant-loop-i g l = first_failing (g.R.KeyedRow.is_known l.db) l.i (drop l.i l.rows) ≡ first_failing (g.R.KeyedRow.is_known l.db) 0 l.rows
