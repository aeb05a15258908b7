-- Where parameters or arguments are left, there are too few or too many arguments.
use Rattle.std.proofs.Common.{sym, ◌∙◌, arith}
use Rattle.mir_eval.specs.Frames.{frame_of}
use Rattle.mir_eval.proofs.Filling.{too-few, too-many}
use Rattle.mir_eval.proofs.calls.fill.Goals as goal
use Rattle.mir_eval.proofs.calls.fill.Goals.{then-loop-i-test+else-i-args, else-loop-i-test}

pub returns-then-i-params : goal.returns-then-i-params
returns-then-i-params g c =
    let at = c.loop-i in
    elim c.loop-i-test.branch [
      | then-loop-i-test+else-i-args w ↦
          sym (too-few (frame_of c.args.caller) c.args.cells.now c.args.params.now c.args.args.now at.i (g.M.Memory.areas at.memory) c.if-i-params.true w.if-i-args.false)
          ∙ at.invariant.same
      | else-loop-i-test w ↦ absurd (let less = c.if-i-params.true in let more = w.loop-i-test.false in omega arith)
    ]

pub returns-then-i-args-2 : goal.returns-then-i-args-2
returns-then-i-args-2 g c =
    let at = c.loop-i in
    sym (too-many (frame_of c.args.caller) c.args.cells.now c.args.params.now c.args.args.now at.i (g.M.Memory.areas at.memory) c.if-i-params.false c.if-i-args-2.true)
    ∙ at.invariant.same
