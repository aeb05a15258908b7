-- Where a run goes, by where a block or a call leads.
use Rattle.std.proofs.Common.{◌≡◌, ℕ, zero, suc, ◌-◌, ◌<◌, ◌≤◌, ◌⊎◌, inl, inr, List, [], ◌∷◌, Option, Some, None, Result, Ok, Err, refl, sym, ap, ◌∙◌, subst, arith}
use Rattle.std.specs.Prelude.{codes, slice_get, option_and_then, OnOk}
use Rattle.world.specs.declared.database.HirDatabase.{HirDatabase}
use Rattle.mir.specs.declared.body.Terminator.{Terminator}
use Rattle.types.specs.declared.ty.Const.{Const}
use Rattle.mir.specs.declared.body.MirBody.{MirBody}
use Rattle.mir.specs.declared.errors.MirEvalError.{MirEvalError}
use Rattle.mir.specs.declared.errors.MirEvalError as error
use Rattle.mir.specs.declared.errors.TrailEntry.{TrailEntry}
use Rattle.mir.specs.declared.address.Interval.{Interval}
use Rattle.mir.specs.Areas.{Areas}
use Rattle.mir.specs.Memory.{Memory, cell_bytes}
use Rattle.mir_eval.proofs.Entering.{enter_one}
use Rattle.mir.specs.Run.{Program, Frame, Waiting, Ending, Returned, Faulted, Asked, Next, Stops, GoesTo, Asks, Ended, after_return, entering, faults, first_body, going_on, next_from, resumed, returned, trail_of}
use Rattle.mir_eval.specs.declared.faults.Fault.{Fault}
use Rattle.mir_eval.specs.declared.runs.Run.{Run}
use Rattle.mir_eval.specs.declared.runs.Went.{Went}
use Rattle.mir_eval.specs.declared.steps.Halt.{Halt}
use Rattle.mir_eval.specs.Steps.{halt_of}
use Rattle.mir_eval.specs.declared.runs.Went.TheVariants as went
use Rattle.mir_eval.specs.Machine.{Entry, AtCall, Position, State, Going, Asking, Over, EndsIn, EndsWith, IsOver, LeadsTo, RunsTo, end_of, outcome_from, outcome_of, wrapped}
use Rattle.mir_eval.specs.Phases.{Continues, GoesOn, HasStopped, IsInRun, IsSameRun, Leads, position_at, state_after, to_go}

-- a run that is over in a fault
pub over-leads : {M : Type 0} (areas : M → Areas) (frame : Frame) (run : Run M) (e : MirEvalError) (trail : List TrailEntry) (outcome : Result Const MirEvalError) → outcome ≡ Err (wrapped e trail) → Leads areas frame (Stops (Faulted e trail)) run (went.Over outcome)
unfolding outcome_of
over-leads areas frame run e trail outcome is = inl (record { result = outcome; outcome = ap Some (sym is); state_is = refl })

-- A body returned that none called. What was read for its value is the frame's.
pub none-waits : (frame : Frame) (memory now : Memory) (left : ℕ) (Out : Type 0) (outcome : Result Const MirEvalError) (world : HirDatabase) (levels : ℕ) (body : MirBody) (cells : List Interval) →
    frame.below ≡ [] → world ≡ frame.program.world → levels ≡ frame.program.nesting - 1 → body ≡ frame.body → cells ≡ frame.cells → now ≡ memory →
    outcome_of world levels body (returned (option_and_then (cell_bytes now) (slice_get cells 0))) ≡ Some outcome →
    LeadsTo frame left (after_return frame memory) (Over outcome left) ⊎ Out
unfolding after_return first_body
none-waits frame memory now left Out outcome world levels body cells alone in_world levelled bodied placed same is =
    let ending : Ending = returned (option_and_then (cell_bytes memory) (slice_get frame.cells 0)) in
    let read : outcome_of frame.program.world (frame.program.nesting - 1) frame.body ending ≡ Some outcome =
    ap (λ (w : HirDatabase). outcome_of w (frame.program.nesting - 1) frame.body ending) (sym in_world)
    ∙ ap (λ (n : ℕ). outcome_of world n frame.body ending) (sym levelled)
    ∙ ap (λ (b : MirBody). outcome_of world levels b ending) (sym bodied)
    ∙ ap (λ (c : List Interval). outcome_of world levels body (returned (option_and_then (cell_bytes memory) (slice_get c 0)))) (sym placed)
    ∙ ap (λ (m : Memory). outcome_of world levels body (returned (option_and_then (cell_bytes m) (slice_get cells 0)))) (sym same)
    ∙ is in
    let began : outcome_from frame ending ≡ Some outcome = ap (λ (below : List Waiting). outcome_of frame.program.world (frame.program.nesting - 1) (first_body frame.body below) ending) alone ∙ read in
    let over : LeadsTo frame left (Stops ending) (Over outcome left) = record { result = outcome; outcome = began; state_is = refl } in
    inl (subst (λ (next : Next). LeadsTo frame left next (Over outcome left))
    (sym (ap (λ (below : List Waiting). elim below [ [] ↦ Stops ending | caller ∷ others ↦ resumed frame.program memory caller others ]) alone)) over)

-- what a run hands out is the same by all frames of it
over-same : (frame other : Frame) → IsSameRun frame other → (ending : Ending) (left : ℕ) (state : State) → IsOver frame ending left state → IsOver other ending left state
over-same frame other same ending left state is =
    record {
      result = is.result;
      outcome =
          ap (λ (p : Program). outcome_of p.world (p.nesting - 1) (first_body other.body other.below) ending) (sym same.program)
          ∙ ap (λ (b : MirBody). outcome_of frame.program.world (frame.program.nesting - 1) b ending) (sym same.began) ∙ is.outcome;
      state_is = is.state_is;
    }

-- a body returned whose caller has no block to go on in
pub never-returns : (frame : Frame) (memory : Memory) (caller : Waiting) (below : List Waiting) (left : ℕ) (state : State) (Out : Type 0) → frame.below ≡ caller ∷ below → caller.next ≡ None →
    (let after : Frame = record { program = frame.program; body = caller.body; cells = caller.cells; below = below } in IsOver after (Faulted (error.UndefinedBehavior (codes "Diverging function returned")) (trail_of after)) left state ⊎ Out) →
    LeadsTo frame left (after_return frame memory) state ⊎ Out
unfolding after_return resumed first_body
never-returns frame memory caller below left state Out is none (inr out) = inr out
never-returns frame memory caller below left state Out is none (inl over) =
    let after : Frame = record { program = frame.program; body = caller.body; cells = caller.cells; below = below } in
    let began : first_body caller.body below ≡ first_body frame.body frame.below = ap (first_body frame.body) (sym is) in
    let ending : Ending = returned (option_and_then (cell_bytes memory) (slice_get frame.cells 0)) in
    let fault : MirEvalError = error.UndefinedBehavior (codes "Diverging function returned") in
    let there : LeadsTo frame left (faults after fault) state = over-same after frame (record { program = refl; began = began }) (Faulted fault (trail_of after)) left state over in
    inl (subst (λ (next : Next). LeadsTo frame left next state)
    (sym (ap (λ (b : List Waiting). elim b [ [] ↦ Stops ending | c ∷ others ↦ resumed frame.program memory c others ]) is
    ∙ ap (λ (o : Option ℕ). elim o [ Some block ↦ GoesTo after memory block | None ↦ faults after fault ]) none)) there)

-- no more blocks are left at an end than there were
left-by : (budget : ℕ) → ((frame : Frame) (memory : Memory) (block : ℕ) → (entering budget frame memory block).left ≤ budget) → (next : Next) → (going_on budget next).left ≤ budget
unfolding going_on
left-by budget falls (Stops ending) = omega arith
left-by budget falls (GoesTo f m b) = falls f m b
left-by budget falls (Asks q f m c) = omega arith

left-falls : (budget : ℕ) (frame : Frame) (memory : Memory) (block : ℕ) → (entering budget frame memory block).left ≤ budget
unfolding entering
left-falls zero frame memory block = omega arith
left-falls (suc budget) frame memory block =
    let next = next_from frame memory (slice_get frame.body.basic_blocks block) 0 in
    let one : suc budget - 1 ≡ budget = omega arith in
    let less : (going_on budget next).left ≤ budget = left-by budget (left-falls budget) next in
    let all : (going_on budget next).left ≤ suc budget = omega arith in
    subst (λ (e : Ended). e.left ≤ suc budget) (sym (enter_one (suc budget) frame memory block (omega arith) ∙ ap (λ (n : ℕ). going_on n next) one)) all

pub left-on : (budget : ℕ) (next : Next) → (going_on budget next).left ≤ budget
left-on budget next = left-by budget (left-falls budget) next

-- how a run went on that stopped: over, or asking
stopped-over : (frame : Frame) (left : ℕ) (outcome : Result Const MirEvalError) (ending : Ending) → IsOver frame ending left (Over outcome left) → EndsWith frame left (Over outcome left) ending
unfolding outcome_of
stopped-over frame left outcome (Asked q caller memory call) over = absurd (let none : ◌≡◌ {A = Option (Result Const MirEvalError)} None (Some over.result) = over.outcome in cc)
stopped-over frame left outcome (Returned bytes) over = over
stopped-over frame left outcome (Faulted e trail) over = over

going-same : (one other : Position) → ◌≡◌ {A = State} (Going one) (Going other) → one ≡ other
going-same one other same = cc

-- an outcome is the same by all frames of one run
outcome-same : (frame other : Frame) → IsSameRun frame other → (ending : Ending) → outcome_from other ending ≡ outcome_from frame ending
outcome-same frame other same ending =
    ap (λ (p : Program). outcome_of p.world (p.nesting - 1) (first_body other.body other.below) ending) (sym same.program)
    ∙ ap (λ (b : MirBody). outcome_of frame.program.world (frame.program.nesting - 1) b ending) (sym same.began)

-- and so is the state at an end
ends-same : (frame other : Frame) → IsSameRun frame other → (left : ℕ) (state : State) (ending : Ending) → EndsWith frame left state ending → EndsWith other left state ending
ends-same frame other same left state (Asked q caller memory call) waits = waits
ends-same frame other same left state (Returned bytes) is = record { result = is.result; outcome = outcome-same frame other same (Returned bytes) ∙ is.outcome; state_is = is.state_is }
ends-same frame other same left state (Faulted e trail) is = record { result = is.result; outcome = outcome-same frame other same (Faulted e trail) ∙ is.outcome; state_is = is.state_is }

runs-same : (start now : Position) → GoesOn start now → (state : State) → RunsTo now state → RunsTo start state
runs-same start now goes state (inl ends) =
    inl (ends-same now.frame start.frame goes.same (end_of start).left state (end_of start).ending (subst (λ (e : Ended). EndsIn now.frame e state) goes.ends ends))
runs-same start now goes state (inr out) = inr (out.0, subst (λ (e : Ended). e.left ≤ out.0) goes.ends out.1, out.2)

-- A run goes on as it is said, or it stopped, where a block or a call leads from a frame of it: the position's end is that of where it leads.
pub leads-continues : {M : Type 0} (areas : M → Areas) (start : Position) (run : Run M) (where_to : Went) (next : Next) → end_of start ≡ going_on run.left next → Leads areas start.frame next run where_to → IsInRun start.frame run where_to → Continues areas start run where_to
unfolding going_on end_of
leads-continues areas start run (went.On block) next is (inr out) same = absurd (let other : went.On block ≡ went.Over (Err error.NoMemory) = out in cc)
leads-continues areas start run (went.Asks q block) next is (inr out) same = absurd (let other : went.Asks q block ≡ went.Over (Err error.NoMemory) = out in cc)
leads-continues areas start run (went.Over outcome) next is (inr out) same =
    let le : (end_of start).left ≤ run.left = subst (λ (e : Ended). e.left ≤ run.left) (sym is) (left-on run.left next) in
    let none : outcome ≡ Err error.NoMemory = cc in
    inr (run.left, le, ap (λ (o : Result Const MirEvalError). Over o run.left) none)
leads-continues areas start run (went.On block) (Stops ending) is (inl over) same = absurd (let other : Going (position_at areas run (Entry block.0)) ≡ Over over.result run.left = over.state_is in cc)
leads-continues areas start run (went.Asks q block) (Stops ending) is (inl over) same = absurd (let other : Asking q (position_at areas run (AtCall block.0)) ≡ Over over.result run.left = over.state_is in cc)
leads-continues areas start run (went.Over outcome) (Stops ending) is (inl over) same =
    inl (subst (λ (e : Ended). EndsIn start.frame e (Over outcome run.left)) (sym is)
    (stopped-over start.frame run.left outcome ending over))
leads-continues areas start run (went.On block) (GoesTo f m b) is (inl at) same =
    let there : ◌≡◌ {A = Position} (position_at areas run (Entry block.0)) (record { frame = f; memory = m; point = Entry b; left = run.left }) = going-same _ _ at in
    record { ends = ap end_of there ∙ sym is; same = same }
leads-continues areas start run (went.Asks q block) (GoesTo f m b) is (inl at) same = absurd (let other : Asking q (position_at areas run (AtCall block.0)) ≡ Going (record { frame = f; memory = m; point = Entry b; left = run.left }) = at in cc)
leads-continues areas start run (went.Over outcome) (GoesTo f m b) is (inl at) same = absurd (let other : Over outcome run.left ≡ Going (record { frame = f; memory = m; point = Entry b; left = run.left }) = at in cc)
leads-continues areas start run (went.On block) (Asks q f m c) is (inl waits) same = absurd (let other : Going (position_at areas run (Entry block.0)) ≡ Asking q (record { frame = f; memory = m; point = AtCall waits.block; left = run.left }) = waits.state_is in cc)
leads-continues areas start run (went.Asks q2 block) (Asks q f m c) is (inl waits) same =
    inl (subst (λ (e : Ended). EndsIn start.frame e (Asking q2 (position_at areas run (AtCall block.0)))) (sym is) waits)
leads-continues areas start run (went.Over outcome) (Asks q f m c) is (inl waits) same = absurd (let other : Over outcome run.left ≡ Asking q (record { frame = f; memory = m; point = AtCall waits.block; left = run.left }) = waits.state_is in cc)

-- and one run after another
pub continues-trans : {M : Type 0} (areas : M → Areas) (start now : Position) → GoesOn start now → (run : Run M) (where_to : Went) → Continues areas now run where_to → Continues areas start run where_to
continues-trans areas start now goes run (went.On block) more =
    record { ends = more.ends ∙ goes.ends; same = record { program = more.same.program ∙ goes.same.program; began = more.same.began ∙ goes.same.began } }
continues-trans areas start now goes run (went.Asks q block) more = runs-same start now goes (Asking q (position_at areas run (AtCall block.0))) more
continues-trans areas start now goes run (went.Over outcome) more = runs-same start now goes (Over outcome run.left) more

-- where the blocks of a frame led to no fault, a block was entered: so fewer may be entered where the run goes on
pub fewer-left : {M : Type 0} (areas : M → Areas) (frame : Frame) (memory : Memory) (terminator : Option Terminator) (end : Result Halt Fault) (run : Run M) (where_to : Went) (before : ℕ) → OnOk end (run.left < before) → run.left ≤ before →
    Leads areas frame (halt_of frame memory terminator end) run where_to → to_go run.left where_to ≤ before
fewer-left areas frame memory terminator end run (went.Asks q block) before fewer within leads = within
fewer-left areas frame memory terminator end run (went.Over outcome) before fewer within leads = within
fewer-left areas frame memory terminator (Ok halt) run (went.On block) before fewer within leads = omega (arith, fewer)
fewer-left areas frame memory terminator (Err e) run (went.On block) before fewer within (inl over) = absurd (let other : Going (position_at areas run (Entry block.0)) ≡ Over over.result run.left = over.state_is in cc)
fewer-left areas frame memory terminator (Err e) run (went.On block) before fewer within (inr out) = absurd (let other : went.On block ≡ went.Over (Err error.NoMemory) = out in cc)

-- a run that went on and stopped ran so far
pub stopped-runs : {M : Type 0} (areas : M → Areas) (start : Position) (run : Run M) (where_to : Went) → HasStopped where_to → Continues areas start run where_to → RunsTo start (state_after areas run where_to)
stopped-runs areas start run (went.On block) stopped goes = absurd stopped
stopped-runs areas start run (went.Asks q block) stopped goes = goes
stopped-runs areas start run (went.Over outcome) stopped goes = goes
