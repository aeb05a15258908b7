-- Statements, blocks and runs in which memory ran out.
use Rattle.std.proofs.Common.{◌≡◌, ℕ, zero, suc, ◌-◌, ◌<◌, slice_get, arith, inl, inr, Option, Some, Result, Ok, Err, sym, ap, ◌∙◌, subst}
use Rattle.types.specs.declared.ty.Const.{Const}
use Rattle.mir.specs.declared.body.Terminator.{Terminator}
use Rattle.mir.specs.declared.errors.MirEvalError.{MirEvalError}
use Rattle.mir.specs.declared.errors.MirEvalError as error
use Rattle.mir.specs.Areas.{Areas}
use Rattle.mir.specs.Memory.{Memory}
use Rattle.mir.specs.declared.ids.BasicBlockId.{BasicBlockId}
use Rattle.mir.specs.Run.{Frame, Next, GoesTo, faults, next_from}
use Rattle.mir_eval.specs.declared.faults.Fault.{Fault}
use Rattle.mir_eval.specs.declared.faults.Fault.TheVariants as fault
use Rattle.mir_eval.specs.declared.runs.Run.{Run}
use Rattle.mir_eval.specs.declared.runs.Went.{Went}
use Rattle.mir_eval.specs.declared.runs.Went.TheVariants as went
use Rattle.mir_eval.specs.declared.steps.Halt.{Halt}
use Rattle.mir_eval.specs.Machine.{Entry, AtCall, Going, Asking, Over, LeadsTo, StepsTo, outcome_of}
use Rattle.mir_eval.specs.Phases.{Leads, frame_in, position_at, state_after}
use Rattle.mir_eval.specs.Steps.{OrNoMemory, halt_of}

-- an answer that isn't a fault is as it is said
pub is-said : {A : Type 0} (result : Result A Fault) (answer : A) (says : Type 0) → result ≡ Ok answer → OrNoMemory result says → says
is-said result answer says is (inl said) = said
is-said {A} result answer says is (inr none) = absurd (let other : ◌≡◌ {A = Result A Fault} (Ok answer) (Err fault.NoMemory) = sym is ∙ none in cc)

-- what is said in other words
pub says-too : {A B : Type 0} (result : Result A Fault) (other : Result B Fault) (says more : Type 0) → (says → more) → (result ≡ Err fault.NoMemory → other ≡ Err fault.NoMemory) → OrNoMemory result says → OrNoMemory other more
says-too result other says more then_more then_none (inl said) = inl (then_more said)
says-too result other says more then_more then_none (inr none) = inr (then_none none)

-- a fault is the same whatever the answer would have been
pub same-fault : {A B : Type 0} (e : Fault) → ◌≡◌ {A = Result A Fault} (Err e) (Err fault.NoMemory) → ◌≡◌ {A = Result B Fault} (Err e) (Err fault.NoMemory)
same-fault e is = let same : e ≡ fault.NoMemory = cc in ap Err same

-- a run that faults for want of memory is over, wherever it was to go
pub out-of-memory : {M : Type 0} (areas : M → Areas) (frame : Frame) (next : Next) (run : Run M) (where_to : Went) → Leads areas frame (faults frame error.NoMemory) run where_to → Leads areas frame next run where_to
unfolding outcome_of
out-of-memory areas frame next run where_to (inr out) = inr out
out-of-memory areas frame next run (went.On block) (inl over) = absurd (let other : Going (position_at areas run (Entry block.0)) ≡ Over over.result run.left = over.state_is in cc)
out-of-memory areas frame next run (went.Asks q block) (inl over) = absurd (let other : Asking q (position_at areas run (AtCall block.0)) ≡ Over over.result run.left = over.state_is in cc)
out-of-memory areas frame next run (went.Over outcome) (inl over) =
    let state : Over outcome run.left ≡ Over over.result run.left = over.state_is in
    let same : outcome ≡ over.result = cc in
    let is : ◌≡◌ {A = Option (Result Const MirEvalError)} (Some (Err error.NoMemory)) (Some over.result) = over.outcome in
    let none : ◌≡◌ {A = Result Const MirEvalError} (Err error.NoMemory) over.result = cc in
    inr (ap went.Over (same ∙ sym none))

-- where the blocks of a frame led, or memory ran out in the last of them
pub halts-lead : {M : Type 0} (areas : M → Areas) (frame : Frame) (memory : Memory) (terminator : Option Terminator) (end : Result Halt Fault) (next : Next) (run : Run M) (where_to : Went) →
    OrNoMemory end (halt_of frame memory terminator end ≡ next) → Leads areas frame (halt_of frame memory terminator end) run where_to → Leads areas frame next run where_to
halts-lead areas frame memory terminator end next run where_to (inl is) leads = subst (λ (n : Next). Leads areas frame n run where_to) is leads
halts-lead areas frame memory terminator end next run where_to (inr none) leads =
    out-of-memory areas frame next run where_to (subst (λ (e : Result Halt Fault). Leads areas frame (halt_of frame memory terminator e) run where_to) none leads)

-- one step from the entry of a block
pub steps-to : {M : Type 0} (areas : M → Areas) (frame : Frame) (memory : Memory) (block left : ℕ) (run : Run M) (where_to : Went) → 0 < left → run.left ≡ left - 1 →
    Leads areas frame (next_from frame memory (slice_get frame.body.basic_blocks block) 0) run where_to → StepsTo (record { frame = frame; memory = memory; point = Entry block; left = left }) (state_after areas run where_to)
steps-to areas frame memory block zero run where_to some is leads = absurd (omega arith)
steps-to areas frame memory block (suc left) run where_to some is (inl leads) =
    let one : run.left ≡ left = omega (arith, is) in
    inl (subst (λ (n : ℕ). LeadsTo frame n (next_from frame memory (slice_get frame.body.basic_blocks block) 0) (state_after areas run where_to)) one leads)
steps-to areas frame memory block (suc left) run where_to some is (inr out) = inr (run.left, omega (arith, is), ap (state_after areas run) out)

-- a block led to another one
pub leads-on : {M : Type 0} (areas : M → Areas) (frame : Frame) (next : Next) (run : Run M) (block : BasicBlockId) → frame_in run ≡ frame → GoesTo frame (areas run.memory) block.0 ≡ next → Leads areas frame next run (went.On block)
leads-on areas frame next run block same is =
    subst (λ (n : Next). Leads areas frame n run (went.On block)) is
    (inl (ap (λ (f : Frame). Going (record { frame = f; memory = areas run.memory; point = Entry block.0; left = run.left })) same))
