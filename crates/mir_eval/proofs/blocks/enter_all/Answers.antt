use Rattle.std.proofs.Common.{◌≡◌, arith}
use Rattle.mir_eval.specs.Frames.{frame_of}
use Rattle.mir_eval.specs.Machine.{terminator_at}
use Rattle.mir_eval.proofs.Entering.{halts-out}
use Rattle.mir_eval.proofs.blocks.enter_all.Goals as goal

pub returns-clause-run : goal.returns-clause-run
returns-clause-run g c =
    let at = c.loop-left in
    let none : at.left ≡ 0 = omega (arith, c.loop-left-test.false) in
    halts-out (frame_of c.args.frame.now) (g.M.Memory.areas at.memory) at.block.0 at.left (terminator_at c.args.frame.now.body.now.body at.block.0) _ none at.invariant.same
