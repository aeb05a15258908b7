use Rattle.std.proofs.Common.{sym, ap}
use Rattle.std.specs.Option.{option_copied}
use Rattle.types.specs.declared.ids.EnumVariantId.{EnumVariantId}
use Rattle.types.specs.declared.ids.VariantId.TheVariants as variant
use Rattle.check_layouts.specs.Sizes.{layout_above}
use Rattle.check_layouts.specs.inner.Fields.{IsItemInside}
use Rattle.check_layouts.proofs.Deciding.{found_ok}
use Rattle.check_layouts.proofs.layouts.is_variant_placed.Goals as goal

pub returns-in-Some : goal.returns-in-Some
returns-in-Some c =
    found_ok (λ (id : EnumVariantId). IsItemInside c.args.db.now (layout_above c.args.db.now c.args.i) c.args.size c.args.args.now c.args.offsets.now (variant.EnumVariantId id)) (option_copied c.args.variant)
    c.in-Some.v.now c.are_only_fields_placed.result (sym (ap option_copied c.in-Some.is)) c.are_only_fields_placed.ensures
