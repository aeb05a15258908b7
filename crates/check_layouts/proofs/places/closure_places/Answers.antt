use Rattle.world.specs.declared.closures.ClosureRow.{ClosureRow}
use Rattle.check_layouts.specs.inner.Places.{AreCapturesFixed}
use Rattle.check_layouts.proofs.Kept.{kept_more}
use Rattle.check_layouts.proofs.places.closure_places.Goals as goal

pub loop-row-preserved : goal.loop-row-preserved
loop-row-preserved c =
    kept_more (λ (row : ClosureRow) own. AreCapturesFixed c.args.db.now row.captures own) c.as_slice-items.result.now c.loop-row.places c.push.new.self c.loop-row.row-index c.row-item.result c.in_ok-capture_places.field-0 c.loop-row-test.true c.row-item.is c.in_ok-push.ensures.ok c.in_ok-capture_places.ensures c.loop-row.invariant
