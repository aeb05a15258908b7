use Rattle.mir_eval.specs.Phases.{AsksAtCall, Continues, position_of, to_go}
use Rattle.mir_eval.proofs.runs.Run.run_frames.Given as goal

-- the run went on from where it stood
abbrev pub invariant-loop-went : goal.invariant-loop-went
invariant-loop-went g l = record {
  continues : Continues g.M.Memory.areas (position_of g.M.Memory.areas l.fn.self) l.self l.went;
  asks : AsksAtCall l.self l.went;
}

abbrev pub decreases-loop-went : goal.decreases-loop-went
decreases-loop-went g l = to_go l.self.left l.went
