use Rattle.std.proofs.Common.{ℕ, Decides, IfOk, IfSome, slice_get, sym, subst}
use Rattle.types.specs.declared.ids.VariantId.TheVariants as variant
use Rattle.world.specs.Lookups.{fields_of}
use Rattle.check_layouts.specs.Laid.{HasLayout, field_type}
use Rattle.check_layouts.specs.Sizes.{layout_above}
use Rattle.check_layouts.specs.inner.Fields.{ArePartsInside}
use Rattle.check_layouts.specs.inner.Places.{AreFieldsFixed}
use Rattle.check_layouts.proofs.Deciding.{found_ok, like_ok}
use Rattle.check_layouts.proofs.Kept.{own_fields}
use Rattle.check_layouts.proofs.Placed.{known_of, of_known}
use Rattle.check_layouts.proofs.layouts.are_variant_fields_known.Goals as goal

pub returns-in-Some-clause-known : goal.returns-in-Some-clause-known
returns-in-Some-clause-known c =
    let world = c.args.db.now in
    let look = layout_above world c.args.i in
    let rows = c.in-Some.fields.now in
    let r = c.are_fields_inside.result in
    let inside = subst (λ offsets. IfOk r (λ b. Decides b (ArePartsInside look c.args.size offsets (field_type world c.args.args.now) rows))) c.new-nowhere.ensures c.are_fields_inside.ensures.inside in
    found_ok (λ fields. (k : ℕ) → IfSome (slice_get fields k) (λ field. HasLayout look (field_type world c.args.args.now field))) (fields_of world (variant.EnumVariantId c.args.id)) rows r c.in-Some.ensures
    (like_ok r (known_of world look c.args.size c.args.args.now rows) (of_known world look c.args.size c.args.args.now rows) inside)

pub are_fields_inside-requires-clause-places : goal.are_fields_inside-requires-clause-places
are_fields_inside-requires-clause-places c =
    subst (AreFieldsFixed c.args.db.now c.in-Some.fields.now) (sym c.places_of_fields-own.ensures) (own_fields c.args.db.now c.args.places.now (variant.EnumVariantId c.args.id) c.in-Some.fields.now c.in-Some.ensures c.requires.places)
