use Rattle.std.proofs.Common.{ℕ, arith}
use Rattle.std.proofs.lemmas.Bool.Decides.{not_from_Decides}
use Rattle.std.proofs.lemmas.Option.{slice_get-get_or}
use Rattle.types.specs.declared.ids.EnumVariantId.{EnumVariantId}
use Rattle.types.specs.declared.ids.VariantId.TheVariants as variant
use Rattle.check_layouts.specs.Sizes.{layout_above}
use Rattle.check_layouts.specs.inner.Fields.{IsItemKnown}
use Rattle.check_layouts.proofs.Deciding.{no, walk_end, walk_fails, walk_next, yes}
use Rattle.check_layouts.proofs.Found.{none_found}
use Rattle.check_layouts.proofs.layouts.are_variants_known.Goals as goal

pub loop-id-init : goal.loop-id-init
loop-id-init c = ((λ j h. absurd (omega arith)), none_found c.args.db.now c.args.i c.args.args.now c.new-sizes.result c.new-sizes.ensures)

pub returns-then-not-branch : goal.returns-then-not-branch
returns-then-not-branch c =
    let fact = λ (k : ℕ) (id : EnumVariantId). IsItemKnown c.args.db.now (layout_above c.args.db.now c.args.i) c.args.args.now (variant.EnumVariantId id) in
    no (λ all. walk_fails fact c.args.ids.now c.loop-id.id-index _ (slice_get-get_or c.args.ids.now c.loop-id.id-index (record { 0 = 0 }) c.loop-id-test.true) (not_from_Decides c.in_ok-are_variant_fields_known.field-0 c.in_ok-are_variant_fields_known.ensures.known c.if-not-branch.true) all)

pub loop-id-preserved : goal.loop-id-preserved
loop-id-preserved c =
    let fact = λ (k : ℕ) (id : EnumVariantId). IsItemKnown c.args.db.now (layout_above c.args.db.now c.args.i) c.args.args.now (variant.EnumVariantId id) in
    (walk_next fact c.args.ids.now c.loop-id.id-index _ (slice_get-get_or c.args.ids.now c.loop-id.id-index (record { 0 = 0 }) c.loop-id-test.true) (c.in_ok-are_variant_fields_known.ensures.known.0 c.if-not-branch.false) c.loop-id.invariant.0, c.in_ok-are_variant_fields_known.ensures.sizes)

pub returns : goal.returns
returns c =
    let fact = λ (k : ℕ) (id : EnumVariantId). IsItemKnown c.args.db.now (layout_above c.args.db.now c.args.i) c.args.args.now (variant.EnumVariantId id) in
    yes (walk_end fact c.args.ids.now c.loop-id.id-index c.loop-id-test.false c.loop-id.invariant.0)
