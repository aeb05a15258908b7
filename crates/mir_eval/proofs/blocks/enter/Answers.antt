use Rattle.std.proofs.Common.{List, inl, subst, sym}
use Rattle.mir_rows.specs.declared.row.Row.{Row}
use Rattle.mir_rows.specs.Rows.{AreRows}
use Rattle.mir_eval.specs.Frames.{code_in, frame_of}
use Rattle.mir_eval.specs.Machine.{statements_at}
use Rattle.mir_eval.proofs.Entering.{faulted-within, has-statements, has-way, ran-through}
use Rattle.mir_eval.proofs.blocks.enter.Goals as goal

pub run_rows-requires : goal.run_rows-requires
run_rows-requires g c =
    let frame = frame_of c.args.frame.now in
    subst (λ (rows : List Row). AreRows (code_in frame) (statements_at frame.body c.args.block.0) (statements_at frame.body c.args.block.0) rows) (sym c.as_slice.ensures.value)
    (has-statements frame c.args.block.0 c.in-Some.rows.now c.in-Some.ensures.found)

pub end-requires : goal.end-requires
end-requires g c = has-way (frame_of c.args.frame.now) c.args.block.0 c.in-Some.rows.now c.in-Some.ensures.found

pub returns-in-Ok-clause-next : goal.returns-in-Ok-clause-next
returns-in-Ok-clause-next g c =
    inl (ran-through (frame_of c.args.frame.now) c.args.block.0 c.in-Some.rows.now c.in-Some.ensures.found (g.M.Memory.areas c.args.memory.now) (g.M.Memory.areas c.run_rows.new.memory) c.run_rows.result c.end.result c.in-Ok.is c.run_rows.ensures c.end.ensures.next)

pub returns-in-Err-clause-next : goal.returns-in-Err-clause-next
returns-in-Err-clause-next g c =
    faulted-within (frame_of c.args.frame.now) c.args.block.0 c.in-Some.rows.now c.in-Some.ensures.found (g.M.Memory.areas c.args.memory.now) (g.M.Memory.areas c.run_rows.new.memory) c.in-Err.fault c.in-Err.ensures
