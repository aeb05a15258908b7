use Rattle.std.proofs.Common.{ℕ, ◌<◌, Some, slice_get, IfSome}
use Rattle.check_layouts.specs.Sizes.{layout_above}
use Rattle.check_layouts.specs.inner.Fields.{IsPartInside}
use Rattle.check_layouts.proofs.fields.are_types_inside.Given as goal

abbrev pub invariant-loop-k : goal.invariant-loop-k
invariant-loop-k l = (j : ℕ) → j < l.k → IfSome (slice_get l.items j) (λ ty. IsPartInside (layout_above l.db l.i) l.size (slice_get l.offsets j) (Some ty))
