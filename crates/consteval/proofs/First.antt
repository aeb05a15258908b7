-- A run stays one of the body in which it began: the last of its callers is that body, or, where it has none, the frame's own body is.
use Rattle.std.proofs.Common.{◌≡◌, ℕ, zero, suc, Bool, true, false, List, [], ◌∷◌, Option, Some, None, drop, refl, sym, ◌∙◌, subst}
use Rattle.std.specs.Prelude.{slice_get, Result, Ok, Err, length, option_and_then, nat_le}
use Rattle.types.specs.declared.ids.FunctionId.{FunctionId}
use Rattle.types.specs.declared.ty.GenericArgs.{GenericArgs}
use Rattle.mir.specs.Answers.{answer_to}
use Rattle.mir.specs.declared.address.Interval.{Interval}
use Rattle.mir.specs.Memory.{Memory, cell_bytes, number_held}
use Rattle.mir.specs.Run.{Frame, Waiting, Calling, Ending, Returned, Faulted, Asked, Next, Stops, GoesTo, Asks, operand_bytes, operand_out, operand_type, function_in, body_query, callee_error, calling, calls_out, cell_now, entry_of, led, first_body, returned, resumed, after_return, after_statements, levels_over, called_cells, filled, entered, called, called_by, calls, switched, terminated, trail_of, next_from, entering, going_on}
use Rattle.mir.specs.declared.answers.Answer.{Answer}
use Rattle.mir.specs.declared.answers.Answer.TheVariants as answer
use Rattle.mir.specs.declared.body.BasicBlock.{BasicBlock}
use Rattle.mir.specs.declared.body.MirBody.{MirBody}
use Rattle.mir.specs.declared.body.Terminator.{Terminator}
use Rattle.mir.specs.declared.body.TerminatorKind.{TerminatorKind}
use Rattle.mir.specs.declared.body.TerminatorKind.TheVariants.{Goto, SwitchInt, Return, Drop, Call}
use Rattle.mir.specs.declared.errors.MirEvalError.{MirEvalError}
use Rattle.mir.specs.declared.switch.SwitchTargets.{SwitchTargets}
use Rattle.mir_laws.specs.Questions.{DidNotAsk}
use Rattle.mir_laws.proofs.Runs.{entering_is}

-- the body in which a frame's run began
abbrev pub first_of : Frame → MirBody
first_of frame = first_body frame.body frame.below

-- where a block of a frame leads: to an end, or to a frame of a run that began in the same body
abbrev Begins : Frame → Next → Type 0
Begins start (Stops ending) = DidNotAsk ending
Begins start (GoesTo frame memory block) = first_of frame ≡ first_of start
Begins start (Asks q frame memory call) = first_of frame ≡ first_of start

module _ (frame : Frame) where
  module _ (memory : Memory) (call : Calling) (id : FunctionId) (body : MirBody) where
    begins-filled : (destination : Option Interval) (placed : List Interval × Memory) (r : Result Memory MirEvalError)
        → called_cells frame.program.world body.locals destination memory ≡ Ok placed
        → filled frame placed.0 body.param_locals call.args placed.1 ≡ r
        → Begins frame (entered frame memory call id body destination)
    unfolding entered first_body
    begins-filled destination placed (Ok after) is then_is = rw (is, then_is, entered) refl
    begins-filled destination placed (Err e) is then_is = rw (is, then_is, entered) tt

    begins-placed : (destination : Option Interval) (r : Result (List Interval × Memory) MirEvalError)
        → called_cells frame.program.world body.locals destination memory ≡ r
        → Begins frame (entered frame memory call id body destination)
    unfolding entered
    begins-placed destination (Ok placed) is = begins-filled destination placed (filled frame placed.0 body.param_locals call.args placed.1) is refl
    begins-placed destination (Err e) is = rw (is, entered) tt

    begins-body : (destination : Option Interval) → Begins frame (entered frame memory call id body destination)
    begins-body destination = begins-placed destination (called_cells frame.program.world body.locals destination memory) refl

    begins-returning : (cell : Option Interval) (block : ℕ) → call.target ≡ Some block → cell_now frame memory call.destination ≡ cell
        → Begins frame (called frame memory call id body)
    unfolding called
    begins-returning (Some cell) block is cell_is = rw (is, cell_is, called) (begins-body (Some cell))
    begins-returning None block is cell_is = rw (is, cell_is, called) tt

    begins-nested : (fits : Bool) → call.target ≡ None → nat_le (suc (levels_over frame.below)) frame.program.nesting ≡ fits
        → Begins frame (called frame memory call id body)
    unfolding called
    begins-nested true is fits_is = rw (is, fits_is, called) (begins-body None)
    begins-nested false is fits_is = rw (is, fits_is, called) tt

    begins-called : (target : Option ℕ) → call.target ≡ target → Begins frame (called frame memory call id body)
    begins-called (Some block) is = begins-returning (cell_now frame memory call.destination) block is refl
    begins-called None is = begins-nested (nat_le (suc (levels_over frame.below)) frame.program.nesting) is refl

  begins-led : (out : Bool) (next : Next) → Begins frame next → Begins frame (led frame out next)
  begins-led true next begins = tt
  begins-led false next begins = begins

  begins-by : (memory : Memory) (call : Calling) (callee : FunctionId × GenericArgs) (told : Option Answer)
      → option_and_then function_in (operand_type frame.program.world frame.body call.func.kind) ≡ Some callee → answer_to frame.program.answers (body_query callee) ≡ told
      → Begins frame (calls frame memory call)
  unfolding calls called_by
  begins-by memory call callee (Some (answer.Body body)) is told_is =
      rw (is, told_is, calls)
      (begins-led (calls_out frame.program.world frame.body (number_held memory frame.cells) call) (called frame memory call callee.0 body.value) (begins-called memory call callee.0 body.value call.target refl))
  begins-by memory call callee (Some (answer.Failed e)) is told_is =
      rw (is, told_is, calls)
      (begins-led (calls_out frame.program.world frame.body (number_held memory frame.cells) call) (Stops (Faulted (callee_error callee.0 e) (entry_of frame call callee.0 ∷ trail_of frame))) tt)
  begins-by memory call callee (Some (answer.Konst konst)) is told_is = rw (is, told_is, calls) refl
  begins-by memory call callee (Some (answer.Discriminant number)) is told_is = rw (is, told_is, calls) refl
  begins-by memory call callee None is told_is = rw (is, told_is, calls) refl

  begins-of : (memory : Memory) (call : Calling) (callee : Option (FunctionId × GenericArgs))
      → option_and_then function_in (operand_type frame.program.world frame.body call.func.kind) ≡ callee → Begins frame (calls frame memory call)
  unfolding calls
  begins-of memory call (Some callee) is = begins-by memory call callee (answer_to frame.program.answers (body_query callee)) is refl
  begins-of memory call None is = rw (is, calls) tt

  begins-calls : (memory : Memory) (call : Calling) → Begins frame (calls frame memory call)
  begins-calls memory call = begins-of memory call (option_and_then function_in (operand_type frame.program.world frame.body call.func.kind)) refl

  begins-small : (memory : Memory) (targets : SwitchTargets) (bytes : List ℕ) (small : Bool) → nat_le (length bytes) 16 ≡ small
      → Begins frame (switched frame memory targets (Some bytes))
  unfolding switched
  begins-small memory targets bytes true is = rw (is, switched) refl
  begins-small memory targets bytes false is = rw (is, switched) tt

  begins-switched : (memory : Memory) (targets : SwitchTargets) (bytes : Option (List ℕ)) → Begins frame (switched frame memory targets bytes)
  unfolding switched
  begins-switched memory targets (Some bytes) = begins-small memory targets bytes (nat_le (length bytes) 16) refl
  begins-switched memory targets None = tt

  begins-resumed : (memory : Memory) (caller : Waiting) (below : List Waiting) (next : Option ℕ) → frame.below ≡ caller ∷ below → caller.next ≡ next
      → Begins frame (resumed frame.program memory caller below)
  unfolding resumed first_body
  begins-resumed memory caller below (Some block) over is = rw (is, resumed) (rw over refl)
  begins-resumed memory caller below None over is = rw (is, resumed) tt

  returned-is-no-question : (bytes : Option (List ℕ)) → DidNotAsk (returned bytes)
  returned-is-no-question (Some bytes) = tt
  returned-is-no-question None = tt

  begins-return : (memory : Memory) (below : List Waiting) → frame.below ≡ below → Begins frame (after_return frame memory)
  unfolding after_return
  begins-return memory [] is = rw (is, after_return) (returned-is-no-question (option_and_then (cell_bytes memory) (slice_get frame.cells 0)))
  begins-return memory (caller ∷ below) is =
      let goes_on : after_return frame memory ≡ resumed frame.program memory caller below = rw (is, after_return) in
      subst (Begins frame) (sym goes_on) (begins-resumed memory caller below caller.next is refl)

  begins-kind : (memory : Memory) (terminator : Terminator) (kind : TerminatorKind) → terminator.kind ≡ kind
      → Begins frame (terminated frame memory (Some terminator))
  unfolding terminated
  begins-kind memory terminator (Goto target) is = rw (is, terminated) refl
  begins-kind memory terminator (SwitchInt discr targets) is =
      rw (is, terminated)
      (begins-led (operand_out frame.program.world frame.body (number_held memory frame.cells) discr.kind) (switched frame memory targets (operand_bytes frame memory discr.kind))
      (begins-switched memory targets (operand_bytes frame memory discr.kind)))
  begins-kind memory terminator Return is = rw (is, terminated) (begins-return memory frame.below refl)
  begins-kind memory terminator (Drop place target unwind) is = rw (is, terminated) refl
  begins-kind memory terminator (Call func args destination target cleanup from_hir_call) is =
      rw (is, terminated) (begins-calls memory (calling func args destination target terminator.span))

  begins-terminated : (memory : Memory) (terminator : Option Terminator) → Begins frame (terminated frame memory terminator)
  unfolding terminated
  begins-terminated memory (Some terminator) = begins-kind memory terminator terminator.kind refl
  begins-terminated memory None = tt

  begins-block : (memory : Memory) (block : BasicBlock) (index : ℕ) (after : Result Memory MirEvalError)
      → after_statements frame (drop index block.statements) memory ≡ after → Begins frame (next_from frame memory (Some block) index)
  unfolding next_from
  begins-block memory block index (Ok after) is = rw (is, next_from) (begins-terminated after block.terminator)
  begins-block memory block index (Err e) is = rw (is, next_from) tt

  begins-next : (memory : Memory) (block : Option BasicBlock) (index : ℕ) → Begins frame (next_from frame memory block index)
  unfolding next_from
  begins-next memory (Some block) index = begins-block memory block index (after_statements frame (drop index block.statements) memory) refl
  begins-next memory None index = tt

-- a run that ended so, if it asked, asked in a frame of a run that began in the same body
abbrev pub AsksInRunOf : Frame → Ending → Type 0
AsksInRunOf start (Returned bytes) = Unit {0}
AsksInRunOf start (Faulted e trail) = Unit {0}
AsksInRunOf start (Asked q frame memory call) = first_of frame ≡ first_of start

end-is-no-question : (start : Frame) (ending : Ending) → DidNotAsk ending → AsksInRunOf start ending
end-is-no-question start (Returned bytes) none = tt
end-is-no-question start (Faulted e trail) none = tt
end-is-no-question start (Asked q frame memory call) none = absurd none

asks-in-same : (start frame : Frame) (ending : Ending) → first_of frame ≡ first_of start → AsksInRunOf frame ending → AsksInRunOf start ending
asks-in-same start frame (Returned bytes) same asks = tt
asks-in-same start frame (Faulted e trail) same asks = tt
asks-in-same start frame (Asked q caller memory call) same asks = asks ∙ same

going-on-asks : (budget : ℕ) (start : Frame) (next : Next) → Begins start next
    → ((frame : Frame) (memory : Memory) (block : ℕ) → AsksInRunOf frame (entering budget frame memory block).ending)
    → AsksInRunOf start (going_on budget next).ending
unfolding going_on
going-on-asks budget start (Stops ending) begins entered = end-is-no-question start ending begins
going-on-asks budget start (GoesTo frame memory block) begins entered = asks-in-same start frame (entering budget frame memory block).ending begins (entered frame memory block)
going-on-asks budget start (Asks q frame memory call) begins entered = begins

pub entering-asks : (budget : ℕ) (frame : Frame) (memory : Memory) (block : ℕ) → AsksInRunOf frame (entering budget frame memory block).ending
unfolding entering
entering-asks zero frame memory block = tt
entering-asks (suc budget) frame memory block =
    subst (λ ended. AsksInRunOf frame ended.ending) (sym (entering_is budget frame memory block))
    (going-on-asks budget frame (next_from frame memory (slice_get frame.body.basic_blocks block) 0) (begins-next frame memory (slice_get frame.body.basic_blocks block) 0) (entering-asks budget))

-- also a run that goes on from a call
pub call-asks : (budget : ℕ) (frame : Frame) (memory : Memory) (call : Calling) → AsksInRunOf frame (going_on budget (calls frame memory call)).ending
call-asks budget frame memory call = going-on-asks budget frame (calls frame memory call) (begins-calls frame memory call) (entering-asks budget)
