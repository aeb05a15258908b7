use Rattle.std.proofs.Common.{◌≡◌, length, Decides, ◌∙◌, ap, subst, rules}
use Rattle.types.specs.declared.ids.AdtId.TheVariants.{EnumId}
use Rattle.types.specs.declared.ty.Const.TheFolds.{the_lemmas}
use Rattle.types.specs.declared.ty.Ty.TheVariants as type
use Rattle.check_layouts.proofs.Tagged.{FitsEnum, enum_decides}
use Rattle.check_layouts.proofs.tags.is_tag_right.Goals as goal

pub returns-in-Adt-EnumId-default : goal.returns-in-Adt-EnumId-default
returns-in-Adt-EnumId-default c =
    let row = c.args.row.now in
    let arm = c.in-Adt-EnumId-default in
    let id : arm.field-0 ≡ EnumId arm.id = search (the_lemmas, rules) in
    enum_decides c.args.db.now row.0 row.1 arm.id arm.field-1 c.is_enum_tag_right.result (arm.is ∙ ap (λ id. type.Adt id arm.field-1) id)
    (subst (λ n. Decides c.is_enum_tag_right.result (FitsEnum n row.1.variants)) (ap length c.enum_variants.ensures) c.is_enum_tag_right.ensures)
