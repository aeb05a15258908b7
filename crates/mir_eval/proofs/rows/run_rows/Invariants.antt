use Rattle.std.proofs.Common.{drop}
use Rattle.mir.specs.Run.{after_statements}
use Rattle.mir_eval.specs.Frames.{code_in, frame_of}
use Rattle.mir_eval.specs.Machine.{statements_at}
use Rattle.mir_eval.proofs.RowRuns.{Left}
use Rattle.mir_eval.proofs.rows.run_rows.Given as goal

-- the statements of the rows from here on do what all do
abbrev pub invariant-loop-row : goal.invariant-loop-row
invariant-loop-row g l =
    Left (frame_of l.frame) (code_in (frame_of l.initial.frame)) (statements_at l.initial.frame.body.now.body l.initial.block.0) (drop l.row-index l.rows) (g.M.Memory.areas l.memory) (after_statements (frame_of l.initial.frame) (statements_at l.initial.frame.body.now.body l.initial.block.0) (g.M.Memory.areas l.initial.memory))
