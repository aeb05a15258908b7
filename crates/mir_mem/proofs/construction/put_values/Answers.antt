use Rattle.std.proofs.Common.{Some, inl, inr, ⊎_elim, sym, ap, ◌∙◌}
use Rattle.mir_mem.proofs.Placed.{placed-last, placed-next, placed-refused, slice_get-at}
use Rattle.mir_mem.proofs.construction.put_values.Goals as goal

pub loop-i-preserved : goal.loop-i-preserved
loop-i-preserved c =
    let at = c.loop-i in
    placed-next c.args.shape.now.size c.args.shape.now.offsets c.args.values.now at.all at.i _ at.invariant c.as_slice.result.now c.put_value.new.all
    (slice_get-at c.args.values.now at.i c.index-values-i.result c.loop-i-test.true c.index-values-i.is ∙ ap Some (sym c.as_slice.ensures)) c.in-Ok.ensures.ok

pub returns-in-Err-clause-err : goal.returns-in-Err-clause-err
returns-in-Err-clause-err c =
    let at = c.loop-i in
    ⊎_elim inl
    (λ refused. inr
    (placed-refused c.args.shape.now.size c.args.shape.now.offsets c.args.values.now at.all at.i _ at.invariant c.as_slice.result.now c.in-Err.error
    (slice_get-at c.args.values.now at.i c.index-values-i.result c.loop-i-test.true c.index-values-i.is ∙ ap Some (sym c.as_slice.ensures)) refused))
    c.in-Err.ensures.err

pub returns-clause-ok : goal.returns-clause-ok
returns-clause-ok c =
    let at = c.loop-i in
    placed-last c.args.shape.now.size c.args.shape.now.offsets c.args.values.now at.all at.i _ at.invariant c.loop-i-test.false
