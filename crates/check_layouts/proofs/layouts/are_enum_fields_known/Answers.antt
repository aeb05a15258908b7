use Rattle.std.proofs.Common.{◌≡◌, ℕ, Decides, IfOk, IfSome, List, slice_get, ◌∙◌, ap, subst, rules}
use Rattle.types.specs.declared.ids.AdtId.TheVariants.{EnumId}
use Rattle.types.specs.declared.ids.EnumVariantId.{EnumVariantId}
use Rattle.types.specs.declared.ids.VariantId.TheVariants as variant
use Rattle.types.specs.declared.ty.Const.TheFolds.{the_lemmas}
use Rattle.types.specs.declared.ty.Ty.TheVariants as type
use Rattle.check_layouts.specs.Sizes.{layout_above}
use Rattle.check_layouts.specs.inner.Fields.{IsItemKnown}
use Rattle.check_layouts.proofs.Deciding.{like_ok}
use Rattle.check_layouts.proofs.Laying.{known_of, of_known}
use Rattle.check_layouts.proofs.layouts.are_enum_fields_known.Goals as goal

pub returns-in-Adt-EnumId-default : goal.returns-in-Adt-EnumId-default
returns-in-Adt-EnumId-default c =
    let world = c.args.db.now in
    let look = layout_above world c.args.i in
    let arm = c.in-Adt-EnumId-default in
    let id : arm.field-0 ≡ EnumId arm.id = search (the_lemmas, rules) in
    let is = arm.is ∙ ap (λ i. type.Adt i arm.args) id in
    like_ok c.are_variants_known.result (known_of world look c.args.ty.now arm.id arm.args is) (of_known world look c.args.ty.now arm.id arm.args is)
    (subst (λ (ids : List EnumVariantId). IfOk c.are_variants_known.result (λ b. Decides b ((v : ℕ) → IfSome (slice_get ids v) (λ w. IsItemKnown world look arm.args (variant.EnumVariantId w))))) c.enum_variants.ensures c.are_variants_known.ensures)
