use Rattle.std.proofs.Common.{◌≡◌, ◌+◌, ◌++◌, List, ℕ, drop, Ok, inl, sym, ap, ◌∙◌, rules}
use Rattle.std.specs.List.{concat}
use Rattle.mir.specs.Run.{operands_bytes}
use Rattle.mir_mem.proofs.Placed.{slice_get-at}
use Rattle.mir_eval.specs.Frames.{frame_of}
use Rattle.mir_eval.proofs.Aggregating.{array-unreadable, joined-last, joined-next, joined-with, unreadable}
use Rattle.mir_eval.proofs.aggregates.joined.Goals as goal

pub loop-part-preserved : goal.loop-part-preserved
loop-part-preserved g c =
    let at = c.loop-part in
    let frame = frame_of c.args.frame in
    let memory = g.M.Memory.areas c.args.memory.now in
    let operands = c.args.operands.now in
    let bytes = concat c.in-Some.view in
    let more : c.append.new.all.items ≡ at.all.items ++ bytes = search rules in
    ap (λ (done : List ℕ). joined-with done (operands_bytes frame memory (drop (at.part-index + 1) operands))) more
    ∙ joined-next frame memory operands at.part-index c.part-item.result at.all.items bytes _ (slice_get-at operands at.part-index c.part-item.result c.loop-part-test.true c.part-item.is) (sym c.in-Some.ensures) at.invariant

pub returns-in_default : goal.returns-in_default
returns-in_default g c =
    let at = c.loop-part in
    let frame = frame_of c.args.frame in
    let memory = g.M.Memory.areas c.args.memory.now in
    let operands = c.args.operands.now in
    inl (array-unreadable frame memory (operands_bytes frame memory operands)
    (unreadable frame memory operands at.part-index c.part-item.result (slice_get-at operands at.part-index c.part-item.result c.loop-part-test.true c.part-item.is) (sym c.in_default.ensures)))

pub returns : goal.returns
returns g c =
    let at = c.loop-part in
    inl (ap Ok c.from_vec.ensures
    ∙ joined-last (frame_of c.args.frame) (g.M.Memory.areas c.args.memory.now) c.args.operands.now at.part-index at.all.items c.loop-part-test.false at.invariant)
