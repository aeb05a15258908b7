-- What the parts of a run answer, in the words of its meaning.
use Rattle.std.specs.Prelude.{◌≡◌, ◌⊎◌, ℕ, List, take, Option, Result, Ok, Err, IsSome, codes}
use Rattle.numbers.specs.Operators.{panic_word}
use Rattle.mir.specs.declared.body.MirBody.{MirBody}
use Rattle.mir.specs.declared.body.Terminator.{Terminator}
use Rattle.mir.specs.declared.errors.MirEvalError.{MirEvalError}
use Rattle.mir.specs.declared.errors.MirEvalError as error
use Rattle.mir.specs.Memory.{Memory}
use Rattle.mir.specs.Run.{Frame, Next, GoesTo, after_return, faults, going_on, terminated, bad_read, bad_write, out_of_bounds, part_outside, Ended}
use Rattle.mir_eval.specs.declared.faults.Fault.{Fault}
use Rattle.mir_eval.specs.declared.faults.Fault.TheVariants as fault
use Rattle.mir_eval.specs.declared.steps.Exit.{Exit}
use Rattle.mir_eval.specs.declared.steps.Exit.TheVariants as exit
use Rattle.mir_eval.specs.declared.steps.Halt.{Halt}
use Rattle.mir_eval.specs.declared.steps.Halt.TheVariants as halt
use Rattle.mir_eval.specs.Machine.{call_at}

-- the error that a fault is
abbrev pub error_of : Fault → MirEvalError
error_of fault.BadRead = bad_read
error_of fault.BadWrite = bad_write
error_of (fault.Panic op) = error.Panic (panic_word op)
error_of fault.OutOfBounds = out_of_bounds
error_of fault.Undefined = error.NotSupported (codes "comparison of this type")
error_of fault.NoTerminator = error.NotSupported (codes "block without terminator")
error_of fault.OutOfBlocks = error.ExecutionLimitExceeded
error_of fault.NoFunction = error.NotSupported (codes "form not built")
error_of fault.Returned = error.UndefinedBehavior (codes "Diverging function returned")
error_of fault.NoLevel = error.StackOverflow
error_of fault.TooManyArguments = error.InternalError (codes "too many arguments")
error_of fault.TooFewArguments = error.InternalError (codes "too few arguments")
error_of fault.NoCount = error.NotSupported (codes "non evaluatable array len in repeat Rvalue")
error_of fault.NoLayout = error.InternalError (codes "mismatched layout")
error_of fault.NoOffset = error.InternalError (codes "field without offset")
error_of (fault.PartOutside size offset) = part_outside size offset
error_of fault.NoMemory = error.NoMemory

-- what is said of an answer, or memory ran out
abbrev pub OrNoMemory : {A : Type 0} → Result A Fault → (says : Type 0) → Type 0
OrNoMemory result says = says ⊎ (result ≡ Err fault.NoMemory)

-- what a step answers, and what it leaves, as the memory after it, in the words of the meaning of graphs
abbrev pub left_with : {A B : Type 0} → (left : B) → Result A Fault → Result B MirEvalError
left_with left (Ok done) = Ok left
left_with left (Err e) = Err (error_of e)

-- the bytes that were computed
abbrev pub bytes_of : Result (List ℕ) Fault → Result (List ℕ) MirEvalError
bytes_of (Ok bytes) = Ok bytes
bytes_of (Err e) = Err (error_of e)

-- the bytes that an operator's computation answers
abbrev pub operated_bytes : Result (List ℕ × ℕ) Fault → Result (List ℕ) MirEvalError
operated_bytes (Ok made) = Ok (take made.1 made.0)
operated_bytes (Err e) = Err (error_of e)

-- where a block leads, and the memory after it, in those words; `terminator` ends the block
abbrev pub next_of : Frame → Memory → Option Terminator → Result Exit Fault → Next
next_of frame memory terminator (Ok exit.Returns) = after_return frame memory
next_of frame memory terminator (Ok exit.Calls) = terminated frame memory terminator
next_of frame memory terminator (Ok (exit.GoesTo target)) = GoesTo frame memory target.0
next_of frame memory terminator (Err e) = faults frame (error_of e)

-- where the blocks of one frame led, in those words; `terminator` ends the last of them
abbrev pub halt_of : Frame → Memory → Option Terminator → Result Halt Fault → Next
halt_of frame memory terminator (Ok halt.Returns) = after_return frame memory
halt_of frame memory terminator (Ok halt.Calls) = terminated frame memory terminator
halt_of frame memory terminator (Err e) = faults frame (error_of e)

-- The blocks of a frame led to somewhere, from where a run ends so; or memory ran out in the last of them, with no fewer blocks left than
-- at the end that it was to come to.
abbrev pub Halts : Frame → Memory → Option Terminator → (left : ℕ) → Result Halt Fault → Ended → Type 0
Halts frame memory terminator left end ended =
    (next : Next) × (going_on left next ≡ ended) × OrNoMemory end (halt_of frame memory terminator end ≡ next)

-- the blocks of a frame led to a call only where the last of them ends in one
abbrev pub HaltsAtCall : MirBody → ℕ → Result Halt Fault → Type 0
HaltsAtCall body block (Ok halt.Calls) = IsSome (call_at body block)
HaltsAtCall body block (Ok halt.Returns) = Unit {0}
HaltsAtCall body block (Err e) = Unit {0}
