use Rattle.std.proofs.Common.{ℕ, ◌<◌, slice_get, IfSome}
use Rattle.types.specs.declared.ids.VariantId.TheVariants as variant
use Rattle.check_layouts.specs.Sizes.{layout_above}
use Rattle.check_layouts.specs.inner.Fields.{AreSizesRight, IsItemKnown}
use Rattle.check_layouts.proofs.layouts.are_variants_known.Given as goal

abbrev pub invariant-loop-id : goal.invariant-loop-id
invariant-loop-id l =
    ((j : ℕ) → j < l.id-index → IfSome (slice_get l.ids j) (λ id. IsItemKnown l.db (layout_above l.db l.i) l.args (variant.EnumVariantId id)))
    × AreSizesRight l.db l.i l.args l.sizes
