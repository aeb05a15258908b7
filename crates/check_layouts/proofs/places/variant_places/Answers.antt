use Rattle.world.specs.declared.items.VariantRow.{VariantRow}
use Rattle.check_layouts.specs.inner.Places.{AreFieldsFixed}
use Rattle.check_layouts.proofs.Kept.{kept_more}
use Rattle.check_layouts.proofs.places.variant_places.Goals as goal

pub loop-row-preserved : goal.loop-row-preserved
loop-row-preserved c =
    kept_more (λ (row : VariantRow) own. AreFieldsFixed c.args.db.now row.fields own) c.as_slice-items.result.now c.loop-row.places c.push.new.self c.loop-row.row-index c.row-item.result c.in_ok-field_places.field-0 c.loop-row-test.true c.row-item.is c.in_ok-push.ensures.ok c.in_ok-field_places.ensures c.loop-row.invariant
