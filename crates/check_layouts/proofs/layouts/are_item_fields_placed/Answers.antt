use Rattle.std.proofs.Common.{sym, subst}
use Rattle.world.specs.Lookups.{fields_of}
use Rattle.check_layouts.specs.Laid.{AreInside, field_type}
use Rattle.check_layouts.specs.Sizes.{layout_above}
use Rattle.check_layouts.specs.inner.Places.{AreFieldsFixed}
use Rattle.check_layouts.proofs.Deciding.{found_ok}
use Rattle.check_layouts.proofs.Kept.{own_fields}
use Rattle.check_layouts.proofs.layouts.are_item_fields_placed.Goals as goal

pub returns-in-Some-clause-right : goal.returns-in-Some-clause-right
returns-in-Some-clause-right c =
    found_ok (λ rows. AreInside (layout_above c.args.db.now c.args.i) c.args.size c.args.offsets.now (field_type c.args.db.now c.args.args.now) rows) (fields_of c.args.db.now c.args.v)
    c.in-Some.fields.now c.are_fields_placed.result c.in-Some.ensures c.are_fields_placed.ensures.right

pub are_fields_placed-requires-clause-places : goal.are_fields_placed-requires-clause-places
are_fields_placed-requires-clause-places c =
    subst (AreFieldsFixed c.args.db.now c.in-Some.fields.now) (sym c.places_of_fields-own.ensures) (own_fields c.args.db.now c.args.places.now c.args.v c.in-Some.fields.now c.in-Some.ensures c.requires.places)
