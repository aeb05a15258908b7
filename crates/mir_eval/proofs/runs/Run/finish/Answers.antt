use Rattle.mir_eval.specs.Phases.{position_of}
use Rattle.mir_eval.proofs.Leading.{stopped-runs}
use Rattle.mir_eval.proofs.runs.Run.finish.Goals as goal

pub returns-clause-went : goal.returns-clause-went
returns-clause-went g c =
    stopped-runs g.M.Memory.areas (position_of g.M.Memory.areas c.args.self.now) c.run_frames.new.self c.run_frames.result c.run_frames.ensures.stopped c.run_frames.ensures.went
