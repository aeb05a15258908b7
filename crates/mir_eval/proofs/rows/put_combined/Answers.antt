use Rattle.std.proofs.Common.{refl}
use Rattle.mir_eval.specs.Frames.{frame_of}
use Rattle.mir_eval.proofs.RowSays.{does-combine, if-some}
use Rattle.mir_eval.proofs.rows.put_combined.Goals as goal

pub returns-clause-done : goal.returns-clause-done
returns-clause-done g c =
    if-some c.assign_made.result
    (does-combine (frame_of c.args.frame.now) (g.M.Memory.areas c.args.memory.now) _ c.args.to.now c.in_ok-to.to c.in_ok-to.ensures
    _ c.args.op c.args.kind c.args.other c.args.guess c.args.left.now c.args.right.now c.in_ok-made.made refl c.in_ok-made.ensures)
    c.assign_made.ensures.done
