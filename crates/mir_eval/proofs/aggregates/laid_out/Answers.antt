use Rattle.std.proofs.Common.{◌≡◌, ◌+◌, ◌++◌, ◌≤◌, length, take, drop, slice_get, Ok, inl, inr, ⊎_elim, refl, sym, ap, ◌∙◌, arith}
use Rattle.mir.specs.declared.operand.Operand.{Operand}
use Rattle.mir.specs.Run.{operand_bytes, placed_parts}
use Rattle.mir_mem.specs.Construction.{placed_at}
use Rattle.mir_mem.proofs.Placed.{placed-last, placed-next, placed-refused, slice_get-at}
use Rattle.mir_eval.specs.Frames.{frame_of}
use Rattle.mir_eval.specs.Steps.{error_of}
use Rattle.mir_eval.proofs.Aggregating.{as-many, part-at, take-front}
use Rattle.mir_eval.proofs.Memoryless.{is-said, same-fault}
use Rattle.mir_eval.proofs.aggregates.laid_out.Goals as goal

pub loop-i-init : goal.loop-i-init
loop-i-init g c = λ parts are. ap (placed_parts c.args.layout.now.size c.args.layout.now.offsets parts) c.in-Ok.ensures

pub loop-i-preserved : goal.loop-i-preserved
loop-i-preserved g c =
    λ parts are.
    let at = c.loop-i in
    let layout = c.args.layout.now in
    let operands = c.args.operands.now in
    let item = c.index-operands-i.result in
    let next = c.put_operand.new.all in
    let part = part-at (frame_of c.args.frame) (g.M.Memory.areas c.args.memory.now) operands parts at.i item are (slice_get-at operands at.i item c.loop-i-test.true c.index-operands-i.is) in
    let reads = ap (λ (o : Operand). operand_bytes (frame_of c.args.frame) (g.M.Memory.areas c.args.memory.now) o.kind) (sym c.index-operands-i.is) ∙ part.1 in
    let put : Ok next ≡ placed_at layout.size (slice_get layout.offsets at.i) part.0 c.deref_mut.result.now = is-said (Ok tt) tt _ refl (c.in-Ok-put_operand.ensures part.0 reads) in
    let back : take at.all.len (next ++ drop (length next) at.all.items) ≡ next =
    take-front at.all.len next (drop (length next) at.all.items) (omega (arith, c.put_operand.auto.all, c.deref_mut.ensures.len)) in
    ap (placed_parts layout.size (drop (at.i + 1) layout.offsets) (drop (at.i + 1) parts)) back
    ∙ placed-next layout.size layout.offsets parts at.all.items at.i _ (at.invariant parts are) part.0 next part.2
    (ap (placed_at layout.size (slice_get layout.offsets at.i) part.0) (sym c.deref_mut.ensures.value) ∙ sym put)

pub returns-in-Err : goal.returns-in-Err
returns-in-Err g c =
    λ parts are.
    let at = c.loop-i in
    let layout = c.args.layout.now in
    let operands = c.args.operands.now in
    let item = c.index-operands-i.result in
    let part = part-at (frame_of c.args.frame) (g.M.Memory.areas c.args.memory.now) operands parts at.i item are (slice_get-at operands at.i item c.loop-i-test.true c.index-operands-i.is) in
    let reads = ap (λ (o : Operand). operand_bytes (frame_of c.args.frame) (g.M.Memory.areas c.args.memory.now) o.kind) (sym c.index-operands-i.is) ∙ part.1 in
    ⊎_elim
    (λ said. inl (sym (placed-refused layout.size layout.offsets parts at.all.items at.i _ (at.invariant parts are) part.0 (error_of c.in-Err.fault) part.2
    (ap (placed_at layout.size (slice_get layout.offsets at.i) part.0) (sym c.deref_mut.ensures.value) ∙ sym said))))
    (λ none. inr (same-fault c.in-Err.fault none))
    (c.in-Err.ensures part.0 reads)

pub returns : goal.returns
returns g c =
    λ parts are.
    let at = c.loop-i in
    let layout = c.args.layout.now in
    let many = as-many (frame_of c.args.frame) (g.M.Memory.areas c.args.memory.now) c.args.operands.now parts are in
    let none : length parts ≤ at.i = omega (arith, c.loop-i-test.false, many) in
    inl (ap Ok c.from_vec.ensures ∙ sym (placed-last layout.size layout.offsets parts at.all.items at.i _ (at.invariant parts are) none))
