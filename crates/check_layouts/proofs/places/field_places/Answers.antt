use Rattle.world.specs.declared.items.FieldRow.{FieldRow}
use Rattle.check_layouts.specs.inner.Places.{IsFixed}
use Rattle.check_layouts.proofs.Kept.{kept_more}
use Rattle.check_layouts.proofs.places.field_places.Goals as goal

pub loop-field-preserved : goal.loop-field-preserved
loop-field-preserved c =
    kept_more (λ (field : FieldRow) place. IsFixed c.args.db.now field.ty place) c.as_slice-items.result.now c.loop-field.places c.push.new.self c.loop-field.field-index c.field-item.result c.in_ok-fixed_place.field-0 c.loop-field-test.true c.field-item.is c.in_ok-push.ensures.ok c.in_ok-fixed_place.ensures c.loop-field.invariant
