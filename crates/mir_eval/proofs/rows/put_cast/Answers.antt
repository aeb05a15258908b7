use Rattle.std.proofs.Common.{Some, refl}
use Rattle.mir_eval.specs.Frames.{frame_of}
use Rattle.mir_eval.proofs.RowSays.{converted-source, does-cast, if-some}
use Rattle.mir_eval.proofs.rows.put_cast.Goals as goal

pub returns-clause-done : goal.returns-clause-done
returns-clause-done g c =
    let frame = frame_of c.args.frame.now in
    let memory = g.M.Memory.areas c.args.memory.now in
    let made = c.in_ok-made.made in
    if-some c.assign_made.result
    (does-cast frame memory _ c.args.to.now c.in_ok-to.to c.in_ok-to.ensures _ c.args.kind c.args.size c.args.from.now made refl
    (converted-source frame memory c.args.kind c.args.size c.args.from.now (Some made) c.in_ok-view.view c.in_ok-bytes.bytes.now c.in_ok-bytes.ensures c.in_ok-view.ensures c.in_ok-made.ensures))
    c.assign_made.ensures.done
