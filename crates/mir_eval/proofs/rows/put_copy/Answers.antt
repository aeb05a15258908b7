use Rattle.std.proofs.Common.{refl}
use Rattle.mir_eval.specs.Frames.{frame_of}
use Rattle.mir_eval.proofs.RowSays.{does-copy, if-some}
use Rattle.mir_eval.proofs.rows.put_copy.Goals as goal

pub returns-clause-done : goal.returns-clause-done
returns-clause-done g c =
    if-some c.copy_value.result
    (does-copy (frame_of c.args.frame.now) (g.M.Memory.areas c.args.memory.now) _ c.args.to.now c.in_ok-to.to c.in_ok-to.ensures _ c.args.from.now c.in_ok-from.from c.in_ok-from.ensures refl)
    c.copy_value.ensures.done
