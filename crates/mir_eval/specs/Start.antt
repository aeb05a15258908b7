-- How a run begins.
use Rattle.std.specs.Prelude.{ℕ, Bool, false, if◌then◌else◌, ◌==◌, List, [], ◌∷◌, Option, Some, None, Result, Ok, Err, codes}
use Rattle.mir.specs.declared.body.MirBody.{MirBody}
use Rattle.mir.specs.declared.errors.MirEvalError.{MirEvalError}
use Rattle.mir.specs.declared.errors.MirEvalError as error
use Rattle.mir.specs.declared.ids.LocalId.{LocalId}
use Rattle.mir.specs.Memory.{Memory}
use Rattle.mir.specs.Run.{Frame, begun}
use Rattle.mir_eval.specs.Machine.{Machine, State, Going, Entry, on_a_level, pointer_bytes, program_at_first}

-- whether a pointer has as many bytes as the machine's own
abbrev pub is_own_width : Option ℕ → Bool
is_own_width (Some bytes) = bytes == 8
is_own_width None = false

-- a run without arguments, or why there is none: the body has parameters
abbrev pub without_params : {A : Type 0} → List LocalId → A → Result A MirEvalError
without_params [] start = Ok start
without_params (param ∷ params) start = Err (error.InternalError (codes "too few arguments"))

-- a frame and its memory before `block`, with `blocks` blocks left to enter, or why there are none
abbrev pub started : List LocalId → Result (Frame × Memory) MirEvalError → ℕ → ℕ → Result State MirEvalError
started params (Ok start) block blocks =
    without_params params (Going (record { frame = start.0; memory = start.1; point = Entry block; left = blocks }))
started params (Err e) block blocks = Err e

-- The state in which a run of a body begins, which takes a level of nesting for itself; or why it can't begin. Each cause
-- stands only where those before it don't: pointers of another size, no level of nesting, a local whose type has no layout or
-- no size, more bytes than the limit, and parameters, for which there are no arguments.
unfoldable pub start_of : Machine → MirBody → Result State MirEvalError
start_of machine body =
    if is_own_width (pointer_bytes machine.world machine.owner)
    then
    on_a_level machine.nesting
    (started body.param_locals (begun (program_at_first machine) body) body.start_block.0 machine.blocks)
    else Err (error.NotSupported (codes "targets with different pointer size from host"))
