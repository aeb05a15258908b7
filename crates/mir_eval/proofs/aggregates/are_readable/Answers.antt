use Rattle.std.proofs.Common.{sym, ap}
use Rattle.std.specs.Prelude.{is_some}
use Rattle.std.specs.List.{concat}
use Rattle.mir_mem.proofs.Placed.{slice_get-at}
use Rattle.mir_eval.specs.Frames.{frame_of}
use Rattle.mir_eval.proofs.Aggregating.{readable-last, readable-next, unreadable}
use Rattle.mir_eval.proofs.aggregates.are_readable.Goals as goal

pub loop-part-preserved : goal.loop-part-preserved
loop-part-preserved g c =
    let at = c.loop-part in
    let operands = c.args.operands.now in
    readable-next (frame_of c.args.frame) (g.M.Memory.areas c.args.memory.now) operands at.part-index c.part-item.result (concat c.in-Some._view) _
    (slice_get-at operands at.part-index c.part-item.result c.loop-part-test.true c.part-item.is) (sym c.in-Some.ensures) at.invariant

pub returns-in-None : goal.returns-in-None
returns-in-None g c =
    let at = c.loop-part in
    let operands = c.args.operands.now in
    sym (ap is_some (unreadable (frame_of c.args.frame) (g.M.Memory.areas c.args.memory.now) operands at.part-index c.part-item.result
    (slice_get-at operands at.part-index c.part-item.result c.loop-part-test.true c.part-item.is) (sym c.in-None.ensures)))

pub returns : goal.returns
returns g c =
    let at = c.loop-part in
    readable-last (frame_of c.args.frame) (g.M.Memory.areas c.args.memory.now) c.args.operands.now at.part-index _ c.loop-part-test.false at.invariant
