-- Where the blocks of a frame led, the run goes on.
use Rattle.std.proofs.Common.{◌≡◌, ◌<◌, ◌≤◌, sym, ap, ◌∙◌, ℕ, subst}
use Rattle.std.specs.Prelude.{OnOk}
use Rattle.mir.specs.Run.{Frame, Next, going_on}
use Rattle.mir_eval.specs.Machine.{Entry, Position, end_of, terminator_at}
use Rattle.mir_eval.specs.Phases.{IsInRun, Leads, frame_in, position_at}
use Rattle.mir_eval.specs.Steps.{halt_of}
use Rattle.mir_eval.proofs.Leading.{fewer-left, leads-continues}
use Rattle.mir_eval.proofs.Memoryless.{halts-lead}
use Rattle.mir_eval.proofs.runs.Run.run_frame.Goals as goal

pub returns-clause-went : goal.returns-clause-went
unfolding end_of
returns-clause-went g c =
    let old = c.args.self.now in
    let mid = c.run_blocks-stop.new.self in
    let stop = c.run_blocks-stop.result in
    let start : Position = position_at g.M.Memory.areas old (Entry c.args.block.0) in
    let next-in : Frame → Next = λ frame. halt_of frame (g.M.Memory.areas mid.memory) (terminator_at frame.body stop.block.0) stop.end in
    let same = c.run_blocks-stop.ensures.frame in
    let left : stop.left ≡ c.go_on.new.self.left = sym c.run_blocks-stop.ensures.left ∙ sym c.go_on.ensures.same in
    let halts = c.run_blocks-stop.ensures.run in
    leads-continues g.M.Memory.areas start c.go_on.new.self c.go_on.result halts.0
    (sym halts.1 ∙ ap (λ (n : ℕ). going_on n halts.0) left)
    (halts-lead g.M.Memory.areas (frame_in old) (g.M.Memory.areas mid.memory) (terminator_at old.body.value.body stop.block.0) stop.end halts.0 c.go_on.new.self c.go_on.result halts.2
    (subst (λ (frame : Frame). Leads g.M.Memory.areas frame (next-in frame) c.go_on.new.self c.go_on.result) same c.go_on.ensures.leads))
    (subst (λ (frame : Frame). IsInRun frame c.go_on.new.self c.go_on.result) same c.go_on.ensures.run)

pub returns-clause-fewer : goal.returns-clause-fewer
returns-clause-fewer g c =
    let mid = c.run_blocks-stop.new.self in
    let stop = c.run_blocks-stop.result in
    let same : mid.left ≡ c.go_on.new.self.left = sym c.go_on.ensures.same in
    fewer-left g.M.Memory.areas (frame_in mid) (g.M.Memory.areas mid.memory) (terminator_at mid.body.value.body stop.block.0) stop.end c.go_on.new.self c.go_on.result c.args.self.now.left
    (subst (λ (n : ℕ). OnOk stop.end (n < c.args.self.now.left)) same c.run_blocks-stop.ensures.fewer)
    (subst (λ (n : ℕ). n ≤ c.args.self.now.left) same c.run_blocks-stop.ensures.within)
    c.go_on.ensures.leads
