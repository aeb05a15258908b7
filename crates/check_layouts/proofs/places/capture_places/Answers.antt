use Rattle.world.specs.declared.closures.Capture.{Capture}
use Rattle.check_layouts.specs.inner.Places.{IsFixed}
use Rattle.check_layouts.proofs.Kept.{kept_more}
use Rattle.check_layouts.proofs.places.capture_places.Goals as goal

pub loop-capture-preserved : goal.loop-capture-preserved
loop-capture-preserved c =
    kept_more (λ (capture : Capture) place. IsFixed c.args.db.now capture.ty place) c.as_slice-items.result.now c.loop-capture.places c.push.new.self c.loop-capture.capture-index c.capture-item.result c.in_ok-fixed_place.field-0 c.loop-capture-test.true c.capture-item.is c.in_ok-push.ensures.ok c.in_ok-fixed_place.ensures c.loop-capture.invariant
