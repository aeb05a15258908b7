-- The state of a run, as its parts tell it.
use Rattle.std.specs.Prelude.{◌≡◌, ◌⊎◌, ℕ, suc, Err, IsSome}
use Rattle.mir.specs.declared.errors.MirEvalError as error
use Rattle.mir.specs.Areas.{Areas}
use Rattle.mir.specs.Run.{Frame, Next, first_body}
use Rattle.mir_eval.specs.declared.runs.Run.{Run}
use Rattle.mir_eval.specs.declared.runs.Phase.{Phase}
use Rattle.mir_eval.specs.declared.runs.Phase.TheVariants as phase
use Rattle.mir_eval.specs.declared.frames.Point.{Point as RunPoint}
use Rattle.mir_eval.specs.declared.frames.Point.TheVariants as point
use Rattle.mir_eval.specs.declared.runs.Went.{Went}
use Rattle.mir_eval.specs.declared.runs.Went.TheVariants as went
use Rattle.mir_eval.specs.Frames.{callers, program_of}
use Rattle.mir_eval.specs.Machine.{Point, Entry, AtCall, Position, State, Fresh, Going, Asking, Over, LeadsTo, RunsTo, call_at, end_of}

-- the frame that a run is in
abbrev pub frame_in : {M : Type 0} → Run M → Frame
frame_in run = record { program = program_of run.program; body = run.body.value.body; cells = run.cells.items; below = callers run.below.items }

abbrev pub point_of : RunPoint → Point
point_of (point.Entry block) = Entry block.0
point_of (point.AtCall block) = AtCall block.0

-- the position of a run at a point; `areas`: the stack and the heap that its memory is
abbrev pub position_at : {M : Type 0} → (areas : M → Areas) → Run M → Point → Position
position_at areas run point = record { frame = frame_in run; memory = areas run.memory; point = point; left = run.left }

-- where a run is
abbrev pub position_of : {M : Type 0} → (areas : M → Areas) → Run M → Position
position_of areas run = position_at areas run (point_of run.point)

-- the state of a phase
abbrev pub state_of : {M : Type 0} → (areas : M → Areas) → Phase M → State
state_of areas phase.Fresh = Fresh
state_of areas (phase.Going run) = Going (position_of areas run)
state_of areas (phase.Asking q run) = Asking q (position_of areas run)
state_of areas (phase.Over outcome left) = Over outcome left

-- the state of a run that went somewhere
abbrev pub state_after : {M : Type 0} → (areas : M → Areas) → Run M → Went → State
state_after areas run (went.On block) = Going (position_at areas run (Entry block.0))
state_after areas run (went.Asks q block) = Asking q (position_at areas run (AtCall block.0))
state_after areas run (went.Over outcome) = Over outcome run.left

-- a run went where a block or a call leads from a frame, or memory ran out
abbrev pub Leads : {M : Type 0} → (areas : M → Areas) → Frame → Next → Run M → Went → Type 0
Leads areas frame next run where_to = LeadsTo frame run.left next (state_after areas run where_to) ⊎ (where_to ≡ went.Over (Err error.NoMemory))

-- two frames of one run: it goes by the same in both, and began in the same body
pub record IsSameRun (one other : Frame) : Type 0 where
  pub program : one.program ≡ other.program
  pub began : first_body one.body one.below ≡ first_body other.body other.below

-- where a run goes on, it does in a frame of the same run
abbrev pub IsInRun : {M : Type 0} → Frame → Run M → Went → Type 0
IsInRun frame run (went.On block) = IsSameRun (frame_in run) frame
IsInRun frame run _ = Unit {0}

-- a run that went on from a position ends as it does from there, and is the same run
pub record GoesOn (start now : Position) : Type 0 where
  pub ends : end_of now ≡ end_of start
  pub same : IsSameRun now.frame start.frame

-- a run went on from a position, or it stopped there
abbrev pub Continues : {M : Type 0} → (areas : M → Areas) → Position → Run M → Went → Type 0
Continues areas start run (went.On block) = GoesOn start (position_at areas run (Entry block.0))
Continues areas start run other = RunsTo start (state_after areas run other)

-- a run stopped: it asks, or it is over
abbrev pub HasStopped : Went → Type 0
HasStopped (went.On block) = ⊥
HasStopped (went.Asks q block) = Unit {0}
HasStopped (went.Over outcome) = Unit {0}

-- how many blocks a run may enter, and one more for going on itself
abbrev pub to_go : ℕ → Went → ℕ
to_go left (went.On block) = suc left
to_go left _ = left

-- where a run asks at a call, a block of its body ends in one
abbrev pub AsksAtCall : {M : Type 0} → Run M → Went → Type 0
AsksAtCall run (went.Asks q block) = IsSome (call_at run.body.value.body block.0)
AsksAtCall run _ = Unit {0}
