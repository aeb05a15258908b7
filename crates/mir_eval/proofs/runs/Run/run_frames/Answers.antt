-- One more frame.
use Rattle.std.proofs.Common.{subst}
use Rattle.mir_eval.specs.declared.runs.Went.{Went}
use Rattle.mir_eval.specs.Machine.{Entry}
use Rattle.mir_eval.specs.Phases.{Continues, position_at, position_of}
use Rattle.mir_eval.proofs.Leading.{continues-trans}
use Rattle.mir_eval.proofs.runs.Run.run_frames.Goals as goal

pub loop-went-preserved : goal.loop-went-preserved
loop-went-preserved g c =
    let start = position_of g.M.Memory.areas c.args.self.now in
    let now = position_at g.M.Memory.areas c.loop-went.self (Entry c.in-On.block.0) in
    record {
      continues =
          continues-trans g.M.Memory.areas start now (subst (λ (w : Went). Continues g.M.Memory.areas start c.loop-went.self w) c.in-On.is c.loop-went.invariant.continues) c.run_frame-went.new.self c.run_frame-went.result c.run_frame-went.ensures.went;
      asks = c.run_frame-went.ensures.asks;
    }
