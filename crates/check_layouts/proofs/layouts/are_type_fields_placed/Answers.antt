use Rattle.std.proofs.Common.{◌≡◌, ◌∙◌, ap, rules}
use Rattle.types.specs.declared.ids.AdtId.TheVariants.{StructId, UnionId, EnumId}
use Rattle.types.specs.declared.ty.Const.TheFolds.{the_lemmas}
use Rattle.types.specs.declared.ty.Ty.TheVariants as type
use Rattle.check_layouts.specs.Sizes.{layout_above}
use Rattle.check_layouts.proofs.Deciding.{like_ok}
use Rattle.check_layouts.proofs.Laying.{adt_of}
use Rattle.check_layouts.proofs.Placed.{of_struct, of_union, struct_of, union_of}
use Rattle.check_layouts.proofs.layouts.are_type_fields_placed.Goals as goal

pub returns-in-Adt-StructId-default : goal.returns-in-Adt-StructId-default
returns-in-Adt-StructId-default c =
    let world = c.args.db.now in
    let look = layout_above world c.args.i in
    let arm = c.in-Adt-StructId-default in
    let id : arm.field-0 ≡ StructId arm.id = search (the_lemmas, rules) in
    let is = arm.is ∙ ap (λ i. type.Adt i arm.args) id in
    like_ok c.are_only_fields_placed.result
    (λ inside. adt_of world look c.args.ty.now c.args.layout.now (StructId arm.id) arm.args is (struct_of world look arm.args c.args.layout.now arm.id inside))
    (λ fields. of_struct world look arm.args c.args.layout.now arm.id (fields.0 (StructId arm.id) arm.args is))
    c.are_only_fields_placed.ensures

pub returns-in-Adt-UnionId-default : goal.returns-in-Adt-UnionId-default
returns-in-Adt-UnionId-default c =
    let world = c.args.db.now in
    let look = layout_above world c.args.i in
    let arm = c.in-Adt-UnionId-default in
    let id : arm.field-0 ≡ UnionId arm.id = search (the_lemmas, rules) in
    let is = arm.is ∙ ap (λ i. type.Adt i arm.args) id in
    like_ok c.are_only_fields_placed-in-Adt-UnionId-default.result
    (λ inside. adt_of world look c.args.ty.now c.args.layout.now (UnionId arm.id) arm.args is (union_of world look arm.args c.args.layout.now arm.id inside))
    (λ fields. of_union world look arm.args c.args.layout.now arm.id (fields.0 (UnionId arm.id) arm.args is))
    c.are_only_fields_placed-in-Adt-UnionId-default.ensures

pub returns-in-Adt-EnumId-default : goal.returns-in-Adt-EnumId-default
returns-in-Adt-EnumId-default c =
    let world = c.args.db.now in
    let look = layout_above world c.args.i in
    let arm = c.in-Adt-EnumId-default in
    let id : arm.field-0 ≡ EnumId arm.id = search (the_lemmas, rules) in
    let is = arm.is ∙ ap (λ i. type.Adt i arm.args) id in
    like_ok c.is_enum_placed.result
    (adt_of world look c.args.ty.now c.args.layout.now (EnumId arm.id) arm.args is)
    (λ fields. fields.0 (EnumId arm.id) arm.args is)
    c.is_enum_placed.ensures
