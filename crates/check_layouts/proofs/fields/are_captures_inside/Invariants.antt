use Rattle.std.proofs.Common.{ℕ, ◌<◌, slice_get, IfSome}
use Rattle.check_layouts.specs.Laid.{capture_type}
use Rattle.check_layouts.specs.Sizes.{layout_above}
use Rattle.check_layouts.specs.inner.Fields.{AreSizesRight, IsPartInside}
use Rattle.check_layouts.proofs.fields.are_captures_inside.Given as goal

abbrev pub invariant-loop-k : goal.invariant-loop-k
invariant-loop-k l =
    ((j : ℕ) → j < l.k → IfSome (slice_get l.items j) (λ capture. IsPartInside (layout_above l.db l.i) l.size (slice_get l.offsets j) (capture_type l.db l.args capture)))
    × AreSizesRight l.db l.i l.args l.sizes
