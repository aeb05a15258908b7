use Rattle.std.proofs.Common.{ℕ, ◌<◌, slice_get, IfSome}
use Rattle.check_layouts.specs.Laid.{IsLaidOut}
use Rattle.check_layouts.specs.Sizes.{layout_above}
use Rattle.check_layouts.proofs.layouts.first_wrong_layout.Given as goal

abbrev pub invariant-loop-i : goal.invariant-loop-i
invariant-loop-i l = (j : ℕ) → j < l.i → IfSome (slice_get l.rows j) (λ row. IsLaidOut l.db (layout_above l.db j) row.0 row.1)
