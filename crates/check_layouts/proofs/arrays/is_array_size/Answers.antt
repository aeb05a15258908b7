use Rattle.std.proofs.Common.{◌≡◌, Decides, ◌∙◌, ap, subst}
use Rattle.std.specs.Option.{option_copied}
use Rattle.numbers.specs.Constants.{number_in}
use Rattle.check_layouts.specs.Sizes.{layout_above}
use Rattle.check_layouts.proofs.Elements.{IsProduct, array_decides}
use Rattle.check_layouts.proofs.arrays.is_array_size.Goals as goal

pub returns-in-Array : goal.returns-in-Array
returns-in-Array c =
    let look = layout_above c.args.db.now c.args.i in
    let len : c.number_in.result ≡ number_in c.in-Array.len = c.number_in.ensures ∙ ap number_in c.as_ref.ensures in
    let found = c.layout_above.ensures ∙ ap look c.as_ref-in-Array.ensures in
    array_decides look c.args.ty.now c.args.size c.in-Array.element c.in-Array.len c.is_product.result c.in-Array.is
    (subst (λ o. Decides c.is_product.result (IsProduct (number_in c.in-Array.len) o c.args.size)) found
    (subst (λ n. Decides c.is_product.result (IsProduct n (option_copied c.layout_above.result) c.args.size)) len c.is_product.ensures))
