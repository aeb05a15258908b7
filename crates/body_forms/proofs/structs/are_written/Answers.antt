use Rattle.std.proofs.Common.{sym}
use Rattle.body_forms.proofs.Arranged.{named-last, named-next, none-named}
use Rattle.body_forms.proofs.structs.are_written.Goals as goal

pub loop-field-preserved : goal.loop-field-preserved
loop-field-preserved c =
    let at = c.loop-field in
    named-next c.args.fields.now c.args.written.now at.field-index c.field-item.result c.loop-field-test.true c.field-item.is c.in-Some._place _ (sym c.in-Some.ensures) at.invariant

pub returns-in-None : goal.returns-in-None
returns-in-None c =
    let at = c.loop-field in
    none-named c.args.fields.now c.args.written.now at.field-index c.field-item.result c.loop-field-test.true c.field-item.is _ (sym c.in-None.ensures) at.invariant

pub returns : goal.returns
returns c =
    let at = c.loop-field in
    named-last c.args.fields.now c.args.written.now at.field-index _ c.loop-field-test.false at.invariant
