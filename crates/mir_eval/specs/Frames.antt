-- The frames of a run, as the machine keeps them.
use Rattle.std.specs.Prelude.{◌≡◌, ℕ, Bool, true, List, Some, is_some, map, reverse, option_map, slice_get}
use Rattle.world.specs.declared.database.HirDatabase.{HirDatabase}
use Rattle.mir.specs.declared.body.MirBody.{MirBody}
use Rattle.mir.specs.Run.{Frame, Program, Waiting}
use Rattle.mir_rows.specs.Spots.{Prepared, prepared}
use Rattle.mir_eval.specs.declared.frames.Point.{Point}
use Rattle.mir_eval.specs.declared.frames.Point.TheVariants as point
use Rattle.mir_eval.specs.declared.frames.Program.{Program as RunProgram}
use Rattle.mir_eval.specs.declared.frames.StackFrame.{StackFrame}
use Rattle.mir_eval.specs.declared.frames.Suspended.{Suspended}
use Rattle.mir_eval.specs.Machine.{call_at}

-- what a run goes by
abbrev pub program_of : RunProgram → Program
program_of program = record { world = program.db.now; nesting = program.nesting; bytes = program.bytes; answers = program.answers }

-- a caller that waits
abbrev pub waiting_of : Suspended → Waiting
waiting_of caller =
    record { body = caller.body.value.body; cells = caller.cells.items; next = option_map (λ block. block.0) caller.next; call = caller.call }

-- the callers that wait, the nearest first, of which the machine keeps the nearest last
abbrev pub callers : List Suspended → List Waiting
callers below = reverse (map waiting_of below)

-- these callers' bodies are ready to run in a world
abbrev pub AreOfWorld : HirDatabase → List Suspended → Type 0
AreOfWorld world below = (k : ℕ) (caller : Suspended) → slice_get below k ≡ Some caller → caller.body.value.world ≡ world

-- a body that runs, over its callers
abbrev pub frame_of : StackFrame → Frame
frame_of running =
    record { program = program_of running.program.now; body = running.body.now.body; cells = running.cells.now; below = callers running.below.now }

-- the body that a frame runs, and the world that it runs in
abbrev pub code_in : Frame → Prepared
code_in frame = prepared frame.program.world frame.body

-- where a run stands at a call, a block of its body ends in one
abbrev pub stands_at : MirBody → Point → Bool
stands_at body (point.Entry block) = true
stands_at body (point.AtCall block) = is_some (call_at body block.0)
