use Rattle.mir_eval.specs.Frames.{frame_of}
use Rattle.mir_eval.proofs.RowSays.{combined}
use Rattle.mir_eval.proofs.rows.combine.Goals as goal

pub returns-then-this-ne0 : goal.returns-then-this-ne0
returns-then-this-ne0 g c =
    combined (frame_of c.args.frame.now) (g.M.Memory.areas c.args.memory.now) c.args.op c.args.kind c.args.other c.args.left.now c.args.right.now c.made_of.result
    c.in_ok-left_view.left_view c.in_ok-right_view.right_view c.in_ok-left_bytes.left_bytes.now c.in_ok-right_bytes.right_bytes.now
    c.in_ok-left_bytes.ensures c.in_ok-right_bytes.ensures c.in_ok-left_view.ensures c.in_ok-right_view.ensures c.made_of.ensures

pub returns-else-this-ne0 : goal.returns-else-this-ne0
returns-else-this-ne0 g c =
    combined (frame_of c.args.frame.now) (g.M.Memory.areas c.args.memory.now) c.args.op c.args.kind c.args.other c.args.left.now c.args.right.now c.word_made_of.result
    c.in_ok-left_view.left_view c.in_ok-right_view.right_view c.in_ok-left_bytes.left_bytes.now c.in_ok-right_bytes.right_bytes.now
    c.in_ok-left_bytes.ensures c.in_ok-right_bytes.ensures c.in_ok-left_view.ensures c.in_ok-right_view.ensures c.word_made_of.ensures
