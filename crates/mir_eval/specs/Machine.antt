-- The machine that runs a body, as its callers see it, and what its calls do.
use Rattle.std.specs.Prelude.{◌≡◌, ◌⊎◌, ℕ, zero, suc, ◌-◌, ◌≤◌, nat_le, if◌then◌else◌, List, [], Option, Some, None, Result, Ok, Err, slice_get, option_and_then, option_map, unwrap_or}
use Rattle.world.specs.declared.database.HirDatabase.{HirDatabase}
use Rattle.source_meaning.specs.Heights.{height}
use Rattle.types.specs.declared.ty.Const.{Const}
use Rattle.types.specs.declared.ty.Const.TheVariants.{Value}
use Rattle.types.specs.declared.ty.MemoryMap.TheVariants.{Empty}
use Rattle.world.specs.Lookups.{crate_of}
use Rattle.types.specs.declared.ids.DefWithBodyId.{DefWithBodyId}
use Rattle.mir.specs.declared.answers.Answer.{Answer}
use Rattle.mir.specs.declared.answers.Query.{Query}
use Rattle.mir.specs.declared.body.MirBody.{MirBody}
use Rattle.mir.specs.declared.body.Terminator.{Terminator}
use Rattle.mir.specs.declared.statement.Statement.{Statement}
use Rattle.mir.specs.declared.body.TerminatorKind.TheVariants.{Call}
use Rattle.mir.specs.declared.errors.MirEvalError.{MirEvalError}
use Rattle.mir.specs.declared.errors.MirEvalError as error
use Rattle.mir.specs.declared.errors.TrailEntry.{TrailEntry}
use Rattle.mir.specs.Memory.{Memory}
use Rattle.mir.specs.Run.{Program, Frame, Calling, calling, Ending, Returned, Faulted, Asked, Next, Stops, GoesTo, Asks, Ended, entering, going_on, next_from, terminated, faults, first_body, levels_over, bad_read}

-- a point of a run: about to enter a block, or at the call that ends a block, whose statements have run
pub data Point : Type 0 where
  Entry : (block : ℕ) → Point
  AtCall : (block : ℕ) → Point

-- where a run is that isn't over: its frame, its memory, the point, and how many blocks it may still enter
pub record Position : Type 0 where
  pub frame : Frame
  pub memory : Memory
  pub point : Point
  pub left : ℕ

-- What a run is in: not begun; on its way; waiting at a call for the answer to a query; or over, with its outcome and with how many
-- blocks could still have been entered.
pub data State : Type 0 where
  Fresh : State
  Going : (position : Position) → State
  Asking : (wanted : Query) → (position : Position) → State
  Over : (result : Result Const MirEvalError) (left : ℕ) → State

-- what callers see of a machine
pub record Machine : Type 0 where
  pub world : HirDatabase
  pub owner : DefWithBodyId
  -- how many blocks a run may enter
  pub blocks : ℕ
  -- how deep runs and the parts of values may be nested
  pub nesting : ℕ
  -- how many bytes the cells of a run's locals may take
  pub bytes : ℕ
  pub state : State

-- the size of a pointer of the owner's crate, where it is known
abbrev pub pointer_bytes : HirDatabase → DefWithBodyId → Option ℕ
pointer_bytes world owner =
    option_and_then (λ krate. option_and_then (λ row. row.pointer_bytes) (slice_get world.crates krate.0)) (crate_of world owner)

-- what a run goes by that is begun on a machine, which was told nothing yet
abbrev pub program_at_first : Machine → Program
program_at_first machine = record { world = machine.world; nesting = machine.nesting; bytes = machine.bytes; answers = [] }

-- the statements of a block, none where the body doesn't have it
abbrev pub statements_at : MirBody → ℕ → List Statement
statements_at body block = unwrap_or (option_map (λ basic_block. basic_block.statements) (slice_get body.basic_blocks block)) []

-- the terminator of a block of a body, where the body has the block, and the block a terminator
abbrev pub terminator_at : MirBody → ℕ → Option Terminator
terminator_at body block = option_and_then (λ basic_block. basic_block.terminator) (slice_get body.basic_blocks block)

-- the call that a terminator is
abbrev pub call_of : Terminator → Option Calling
call_of terminator =
    elim terminator.kind [
      | Call func args destination target cleanup from_hir_call ↦ Some (calling func args destination target terminator.span)
      | _ ↦ None
    ]

-- the call that ends a block of a body
abbrev pub call_at : MirBody → ℕ → Option Calling
call_at body block = option_and_then call_of (terminator_at body block)

-- how the run ends that goes on from a position
unfoldable pub end_of : Position → Ended
end_of position =
    elim position.point [
      | Entry block ↦ entering position.left position.frame position.memory block
      | AtCall block ↦ going_on position.left (terminated position.frame position.memory (terminator_at position.frame.body block))
    ]

-- the position of a run that was told these answers instead
abbrev pub with_answers : List (Query × Answer) → Position → Position
with_answers answers position = record position { frame = record position.frame { program = record position.frame.program { answers = answers } } }

-- the value of a body whose return slot has these bytes
abbrev pub value_of : MirBody → List ℕ → Result Const MirEvalError
value_of body bytes =
    elim (slice_get body.locals 0) [
      | Some slot ↦ Ok (Value (record { ty = slot.ty; memory = bytes; memory_map = Empty }))
      | None ↦ Err (error.InFunction bad_read [])
    ]

-- a result that takes one of the levels of nesting that are left: `StackOverflow` where none is left
abbrev pub on_a_level : {A : Type 0} → ℕ → Result A MirEvalError → Result A MirEvalError
on_a_level zero result = Err error.StackOverflow
on_a_level (suc levels) result = result

-- a fault as it is handed out: wrapped once, with its trail; want of memory is passed on
abbrev pub wrapped : MirEvalError → List TrailEntry → MirEvalError
wrapped error.NoMemory trail = error.NoMemory
wrapped e trail = error.InFunction e trail

-- how many levels of nesting the value of a body takes: as many as the type of its return slot is high
abbrev pub height_of : HirDatabase → MirBody → ℕ
height_of world body = elim (slice_get body.locals 0) [ Some slot ↦ height world slot.ty | None ↦ 0 ]

-- a result that takes so many of the levels of nesting that are left: `StackOverflow` where there are fewer
abbrev pub on_levels : {A : Type 0} → (taken left : ℕ) → Result A MirEvalError → Result A MirEvalError
on_levels taken left result = if nat_le taken left then result else Err error.StackOverflow

-- What a run hands out at its end, which began in `body`: the value, or the fault. A value takes as many of the `levels` levels of nesting that
-- are left as its type is high; where there are fewer, that is the outcome, and no frame's fault. A run that asks isn't over.
unfoldable pub outcome_of : HirDatabase → (levels : ℕ) → MirBody → Ending → Option (Result Const MirEvalError)
outcome_of world levels body (Returned bytes) = Some (on_levels (height_of world body) levels (value_of body bytes))
outcome_of world levels body (Faulted e trail) = Some (Err (wrapped e trail))
outcome_of world levels body (Asked q frame memory call) = None

-- what a run hands out that goes on from a frame and ends so
abbrev pub outcome_from : Frame → Ending → Option (Result Const MirEvalError)
outcome_from frame ending = outcome_of frame.program.world (frame.program.nesting - 1) (first_body frame.body frame.below) ending

-- the state of a run that stops at a call to ask
pub record Waits (q : Query) (frame : Frame) (memory : Memory) (call : Calling) (left : ℕ) (state : State) : Type 0 where
  pub block : ℕ
  pub is_call : call_at frame.body block ≡ Some call
  pub state_is : state ≡ Asking q (record { frame = frame; memory = memory; point = AtCall block; left = left })

-- the state of a run that is over
pub record IsOver (frame : Frame) (ending : Ending) (left : ℕ) (state : State) : Type 0 where
  pub result : Result Const MirEvalError
  pub outcome : outcome_from frame ending ≡ Some result
  pub state_is : state ≡ Over result left

-- the state of a run at an end, with `left` blocks left: over, or waiting at the call that asks. `frame`: one of the run's.
abbrev pub EndsWith : Frame → (left : ℕ) → State → Ending → Type 0
EndsWith frame left state (Asked q caller memory call) = Waits q caller memory call left state
EndsWith frame left state (Returned bytes) = IsOver frame (Returned bytes) left state
EndsWith frame left state (Faulted e trail) = IsOver frame (Faulted e trail) left state

abbrev pub EndsIn : Frame → Ended → State → Type 0
EndsIn frame ended state = EndsWith frame ended.left state ended.ending

-- the state of a run after a block or a call that leads somewhere
abbrev pub LeadsTo : Frame → ℕ → Next → State → Type 0
LeadsTo frame left (Stops ending) state = IsOver frame ending left state
LeadsTo frame left (GoesTo next memory block) state = state ≡ Going (record { frame = next; memory = memory; point = Entry block; left = left })
LeadsTo frame left (Asks q caller memory call) state = Waits q caller memory call left state

-- the state after one block, or after the call at which the run is
abbrev pub Steps : Position → State → Type 0
Steps position state =
    elim position.point [
      | Entry block ↦ elim position.left [
        | zero ↦ LeadsTo position.frame 0 (faults position.frame error.ExecutionLimitExceeded) state
        | suc left ↦ LeadsTo position.frame left (next_from position.frame position.memory (slice_get position.frame.body.basic_blocks block) 0) state
      ]
      | AtCall block ↦ LeadsTo position.frame position.left (terminated position.frame position.memory (terminator_at position.frame.body block)) state
    ]

-- memory ran out in a run that may still enter `left` blocks where it was to come: it is over, with no fewer blocks left
abbrev pub RanOutOfMemory : ℕ → State → Type 0
RanOutOfMemory left now = (more : ℕ) × (left ≤ more) × (now ≡ Over (Err error.NoMemory) more)

-- a run that goes on from a position to its end, or to a call that asks; or memory ran out
abbrev pub RunsTo : Position → State → Type 0
RunsTo position state = EndsIn position.frame (end_of position) state ⊎ RanOutOfMemory (end_of position).left state

-- how many blocks may be entered after a step from a position: one less where that enters a block
abbrev pub left_after : Position → ℕ
left_after position = elim position.point [ Entry block ↦ position.left - 1 | AtCall block ↦ position.left ]

-- one step of a run from a position; or memory ran out
abbrev pub StepsTo : Position → State → Type 0
StepsTo position state = Steps position state ⊎ RanOutOfMemory (left_after position) state

-- how many blocks may still be entered
abbrev pub blocks_left : ℕ → State → ℕ
blocks_left blocks Fresh = blocks
blocks_left blocks (Going position) = position.left
blocks_left blocks (Asking q position) = position.left
blocks_left blocks (Over result left) = left

-- how many blocks were entered
abbrev pub turns_of : Machine → ℕ
turns_of machine = machine.blocks - blocks_left machine.blocks machine.state

-- How many levels of nesting a run holds: one from its beginning on, and one for each open call without a target; none any more where it
-- ended in a value. A run that ended in a fault holds one.
abbrev pub levels_held : State → ℕ
levels_held Fresh = 0
levels_held (Going position) = levels_over position.frame.below
levels_held (Asking q position) = levels_over position.frame.below
levels_held (Over (Ok value) left) = 0
levels_held (Over (Err e) left) = 1

-- how many levels of nesting are left
abbrev pub nesting_left : Machine → ℕ
nesting_left machine = machine.nesting - levels_held machine.state
