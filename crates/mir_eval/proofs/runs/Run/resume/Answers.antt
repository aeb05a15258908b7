-- A call at which the run waited.
use Rattle.std.proofs.Common.{sym, ap, ◌∙◌, ℕ}
use Rattle.mir.specs.Run.{Next, going_on, terminated}
use Rattle.mir_eval.specs.declared.frames.Point.{Point}
use Rattle.mir_eval.specs.Machine.{end_of, terminator_at}
use Rattle.mir_eval.specs.Phases.{frame_in, point_of, position_at, position_of}
use Rattle.mir_eval.proofs.Leading.{leads-continues}
use Rattle.mir_eval.proofs.runs.Run.resume.Goals as goal

pub returns-in-AtCall-clause-went : goal.returns-in-AtCall-clause-went
unfolding end_of
returns-in-AtCall-clause-went g c =
    let old = c.args.self.now in
    let next : Next = terminated (frame_in old) (g.M.Memory.areas old.memory) (terminator_at old.body.value.body c.in-AtCall.block.0) in
    leads-continues g.M.Memory.areas (position_of g.M.Memory.areas old) c.call.new.self c.call.result next
    (ap (λ (p : Point). end_of (position_at g.M.Memory.areas old (point_of p))) c.in-AtCall.is ∙ ap (λ (n : ℕ). going_on n next) (sym c.call.ensures.same))
    c.call.ensures.leads c.call.ensures.run
