use Rattle.std.proofs.Common.{◌≡◌, take}
use Rattle.types.proofs.table.TableTryClone.try_clone.Given as goal

abbrev pub invariant-loop-row : goal.invariant-loop-row
invariant-loop-row g l = l.copy ≡ take l.row-index l.rows
