use Rattle.std.proofs.Common.{◌≡◌, ℕ, ◌<◌, ◌≤◌, ltb, List, length, get_or, Option, Some, None, is_some, Bor, Decides, IfOk, IfSome, slice_get, refl, sym, ◌∙◌, ap, subst, arith}
use Rattle.std.proofs.lemmas.Bool.Decides.{nat_tests}
use Rattle.std.proofs.lemmas.Option.{slice_get_past, slice_get_read}
use Rattle.std.specs.Option.{option_copied}
use Rattle.types.specs.declared.ids.EnumVariantId.{EnumVariantId}
use Rattle.types.specs.declared.ids.VariantId.TheVariants as variant
use Rattle.check_layouts.specs.Sizes.{layout_above}
use Rattle.check_layouts.specs.inner.Fields.{IsItemInside}
use Rattle.check_layouts.proofs.Deciding.{like_ok}
use Rattle.check_layouts.proofs.Placed.{multiple_of, of_multiple, of_single, single_of}
use Rattle.check_layouts.proofs.layouts.is_enum_placed.Goals as goal

-- what stands at an index of the enum, if anything does
looked_up : (ids : List EnumVariantId) (v : ℕ) (found : Option (Bor EnumVariantId)) → is_some found ≡ ltb v (length ids) → IfSome found (λ x. x.now ≡ get_or ids v x.now) → option_copied found ≡ slice_get ids v
looked_up ids v None e h = let past : length ids ≤ v = grind (arith, nat_tests) in sym (slice_get_past ids v past)
looked_up ids v (Some x) e h = let within : v < length ids = grind (arith, nat_tests) in sym (slice_get_read ids (length ids) v x.now refl within h)

pub returns-in-Single : goal.returns-in-Single
returns-in-Single c =
    let world = c.args.db.now in
    let look = layout_above world c.args.i in
    let layout = c.args.layout.now in
    let r = c.is_variant_placed.result in
    let found : option_copied c.get-variant.result ≡ slice_get c.enum_variants-ids.result.now c.in-Single.v = looked_up c.enum_variants-ids.result.now c.in-Single.v c.get-variant.result c.get-variant.ensures.lookup.0 c.get-variant.ensures.lookup.1 in
    like_ok r (single_of world look c.args.args.now layout c.args.id c.in-Single.v c.in-Single.is) (of_single world look c.args.args.now layout c.args.id c.in-Single.v c.in-Single.is)
    (subst (λ (o : Option EnumVariantId). IfOk r (λ b. Decides b (IfSome o (λ w. IsItemInside world look layout.size c.args.args.now layout.offsets (variant.EnumVariantId w))))) (found ∙ ap (λ (ids : List EnumVariantId). slice_get ids c.in-Single.v) c.enum_variants-ids.ensures) c.is_variant_placed.ensures)

pub returns-in-Multiple : goal.returns-in-Multiple
returns-in-Multiple c =
    let world = c.args.db.now in
    let look = layout_above world c.args.i in
    let layout = c.args.layout.now in
    let multiple = c.in-Multiple.multiple in
    let r = c.are_variants_placed.result in
    like_ok r (multiple_of world look c.args.args.now layout c.args.id multiple c.in-Multiple.is) (of_multiple world look c.args.args.now layout c.args.id multiple c.in-Multiple.is)
    (subst (λ (ids : List EnumVariantId). IfOk r (λ b. Decides b ((k : ℕ) → IfSome (slice_get multiple.variants k) (λ offsets. IfSome (slice_get ids k) (λ w. IsItemInside world look layout.size c.args.args.now offsets (variant.EnumVariantId w)))))) c.enum_variants-ids.ensures c.are_variants_placed.ensures)
