use Rattle.std.proofs.Common.{ℕ, ◌<◌, slice_get, IfSome}
use Rattle.types.specs.declared.ids.VariantId.TheVariants as variant
use Rattle.check_layouts.specs.Sizes.{layout_above}
use Rattle.check_layouts.specs.inner.Fields.{AreSizesRight, IsItemInside}
use Rattle.check_layouts.proofs.layouts.are_variants_placed.Given as goal

abbrev pub invariant-loop-k : goal.invariant-loop-k
invariant-loop-k l =
    ((j : ℕ) → j < l.k → IfSome (slice_get l.items j) (λ offsets. IfSome (slice_get l.ids j) (λ id. IsItemInside l.db (layout_above l.db l.i) l.size l.args offsets (variant.EnumVariantId id))))
    × AreSizesRight l.db l.i l.args l.sizes
