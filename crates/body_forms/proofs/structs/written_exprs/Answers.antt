use Rattle.body_forms.proofs.Arranged.{exprs-last, exprs-next}
use Rattle.body_forms.proofs.structs.written_exprs.Goals as goal

pub loop-field-preserved : goal.loop-field-preserved
loop-field-preserved c =
    let at = c.loop-field in
    exprs-next c.args.written.now at.field-index c.field-item.result at.exprs c.push.new.self _ c.loop-field-test.true c.field-item.is c.in_ok-push.ensures.ok at.invariant

pub returns : goal.returns
returns c =
    let at = c.loop-field in
    exprs-last c.args.written.now at.field-index at.exprs _ c.loop-field-test.false at.invariant
