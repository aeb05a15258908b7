-- Calls, as the machine reads them of a body.
use Rattle.std.specs.Prelude.{List, ◌∷◌, option_map}
use Rattle.types.specs.declared.ids.FunctionId.{FunctionId}
use Rattle.types.specs.declared.ty.GenericArgs.{GenericArgs}
use Rattle.mir.specs.declared.body.MirBody.{MirBody}
use Rattle.mir.specs.declared.address.Interval.{Interval}
use Rattle.mir.specs.Run.{Calling, Frame, waiting}
use Rattle.mir_eval.specs.declared.calls.Call.{Call}
use Rattle.mir_eval.specs.declared.calls.Function.{Function}

-- the call that the machine read
abbrev pub call_is : Call → Calling
call_is call = record { func = call.func.now; args = call.args.now; destination = call.destination; target = option_map (λ block. block.0) call.target; span = call.span }

-- the function that the machine read
abbrev pub function_is : Function → FunctionId × GenericArgs
function_is found = (found.id, found.args.now)

-- the frame of a called body, over these cells
abbrev pub called_frame : Frame → Calling → FunctionId → MirBody → List Interval → Frame
called_frame caller call id body cells = record { program = caller.program; body = body; cells = cells; below = waiting caller call id ∷ caller.below }
