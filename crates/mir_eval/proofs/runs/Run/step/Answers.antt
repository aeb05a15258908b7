-- A block that faulted.
use Rattle.std.proofs.Common.{◌≡◌, ◌<◌, inl, inr, ⊎_elim, Result, Err, sym, ◌∙◌, subst, arith}
use Rattle.std.specs.Prelude.{slice_get}
use Rattle.mir.specs.Run.{Frame, Next, next_from}
use Rattle.mir_eval.specs.declared.faults.Fault.{Fault}
use Rattle.mir_eval.specs.declared.frames.Point.{Point}
use Rattle.mir_eval.specs.declared.steps.Halt.{Halt}
use Rattle.mir_eval.specs.Machine.{StepsTo, terminator_at}
use Rattle.mir_eval.specs.Phases.{Leads, frame_in, point_of, position_at, state_after}
use Rattle.mir_eval.specs.Steps.{OrNoMemory, halt_of}
use Rattle.mir_eval.proofs.Memoryless.{halts-lead, same-fault, steps-to}
use Rattle.mir_eval.proofs.runs.Run.step.Goals as goal

pub returns-in-Err-clause-went : goal.returns-in-Err-clause-went
returns-in-Err-clause-went g c =
    let areas = g.M.Memory.areas in
    let old = c.args.self.now in
    let mid = c.run_block.new.self in
    let now = c.go_on-in-Err.new.self in
    let went = c.go_on-in-Err.result in
    let block = c.in-Entry.block in
    let end : Result Halt Fault = Err c.in-Err.fault in
    let next : Next = next_from (frame_in old) (areas old.memory) (slice_get old.body.value.body.basic_blocks block.0) 0 in
    let next-in : Frame → Next = λ frame. halt_of frame (areas mid.memory) (terminator_at frame.body block.0) end in
    let says : OrNoMemory end (next-in (frame_in old) ≡ next) = ⊎_elim inl (λ none. inr (same-fault c.in-Err.fault none)) c.in-Err.ensures.next in
    let some : 0 < old.left = omega (arith, c.if-self-eq0.false) in
    let leads = subst (λ (frame : Frame). Leads areas frame (next-in frame) now went) c.run_block.ensures.frame c.go_on-in-Err.ensures.leads in
    subst (λ (p : Point). StepsTo (position_at areas old (point_of p)) (state_after areas now went)) (sym c.in-Entry.is)
    (steps-to areas (frame_in old) (areas old.memory) block.0 old.left now went some (c.go_on-in-Err.ensures.same ∙ c.run_block.ensures.left)
    (halts-lead areas (frame_in old) (areas mid.memory) (terminator_at old.body.value.body block.0) end next now went says leads))
