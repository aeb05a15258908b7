use Rattle.std.proofs.Common.{refl, inl}
use Rattle.mir_eval.specs.Frames.{code_in, frame_of}
use Rattle.mir_eval.specs.Machine.{statements_at}
use Rattle.mir_eval.proofs.RowRuns.{all-ran, faulted, has-statement, ran}
use Rattle.mir_eval.proofs.rows.run_rows.Goals as goal

pub loop-row-init : goal.loop-row-init
loop-row-init g c = record { statements = statements_at c.args.frame.now.body.now.body c.args.block.0; are = c.requires; same = refl }

pub run_row-requires : goal.run_row-requires
run_row-requires g c =
    let at = c.loop-row in
    has-statement (frame_of c.args.frame.now) (code_in (frame_of c.args.frame.now)) (statements_at c.args.frame.now.body.now.body c.args.block.0) c.args.rows.now at.row-index c.row-item.result (g.M.Memory.areas at.memory) _ c.loop-row-test.true c.row-item.is at.invariant

pub loop-row-preserved : goal.loop-row-preserved
loop-row-preserved g c =
    let at = c.loop-row in
    ran (frame_of c.args.frame.now) (code_in (frame_of c.args.frame.now)) (statements_at c.args.frame.now.body.now.body c.args.block.0) c.args.rows.now at.row-index c.row-item.result (g.M.Memory.areas at.memory) _ c.loop-row-test.true c.row-item.is at.invariant
    c.run_row.result (g.M.Memory.areas c.run_row.new.memory) c.in-Ok.is c.run_row.ensures

pub returns-in-Err : goal.returns-in-Err
returns-in-Err g c =
    let at = c.loop-row in
    faulted (frame_of c.args.frame.now) (code_in (frame_of c.args.frame.now)) (statements_at c.args.frame.now.body.now.body c.args.block.0) c.args.rows.now at.row-index c.row-item.result (g.M.Memory.areas at.memory) _ c.loop-row-test.true c.row-item.is at.invariant
    c.in-Err.fault c.in-Err.ensures

pub returns : goal.returns
returns g c =
    let at = c.loop-row in
    inl (all-ran (frame_of c.args.frame.now) (code_in (frame_of c.args.frame.now)) (statements_at c.args.frame.now.body.now.body c.args.block.0) c.args.rows.now at.row-index (g.M.Memory.areas at.memory) _ c.loop-row-test.false at.invariant)
