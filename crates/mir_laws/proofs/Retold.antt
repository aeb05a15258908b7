-- Where a block leads in a run that was told more: to the same place, or, where it led to a query, to where its call leads now.
use Rattle.std.proofs.Common.{◌≡◌, ℕ, suc, Bool, true, false, List, [], ◌∷◌, Option, Some, None, drop, refl}
use Rattle.std.specs.Prelude.{Result, Ok, Err, length, option_and_then, nat_le}
use Rattle.types.specs.declared.ids.FunctionId.{FunctionId}
use Rattle.types.specs.declared.ty.GenericArgs.{GenericArgs}
use Rattle.mir.specs.Answers.{answer_to}
use Rattle.mir.specs.declared.address.Interval.{Interval}
use Rattle.mir.specs.Memory.{Memory, number_held}
use Rattle.mir.specs.Run.{Frame, Waiting, Calling, Next, Faulted, Stops, GoesTo, Asks, callee_error, entry_of, operand_bytes, operand_out, operand_type, function_in, body_query, calling, calls_out, cell_now, led, levels_over, resumed, after_return, after_statements, called_cells, filled, entered, called, called_by, calls, switched, terminated, trail_of, next_from}
use Rattle.mir.specs.declared.answers.Answer.{Answer}
use Rattle.mir.specs.declared.answers.Answer.TheVariants as answer
use Rattle.mir.specs.declared.answers.Query.{Query}
use Rattle.mir.specs.declared.body.BasicBlock.{BasicBlock}
use Rattle.mir.specs.declared.body.MirBody.{MirBody}
use Rattle.mir.specs.declared.body.Terminator.{Terminator}
use Rattle.mir.specs.declared.body.TerminatorKind.{TerminatorKind}
use Rattle.mir.specs.declared.body.TerminatorKind.TheVariants.{Goto, SwitchInt, Return, Drop, Call}
use Rattle.mir.specs.declared.errors.MirEvalError.{MirEvalError}
use Rattle.mir.specs.declared.switch.SwitchTargets.{SwitchTargets}
use Rattle.mir_laws.specs.Questions.{telling, Extends}
use Rattle.mir_laws.proofs.Frames.{same_operand, same_statements, same_filled}

-- where a run goes on that was told more before it led to a place
abbrev pub retold : List (Query × Answer) → Next → Next
retold later (Stops ending) = Stops ending
retold later (GoesTo frame memory block) = GoesTo (telling later frame) memory block
retold later (Asks q frame memory call) = calls (telling later frame) memory call

module _ (later : List (Query × Answer)) (frame : Frame) where
  module _ (memory : Memory) (call : Calling) (id : FunctionId) (body : MirBody) where
    retold_filled : (destination : Option Interval) (placed : List Interval × Memory) (r : Result Memory MirEvalError)
        → called_cells frame.program.world body.locals destination memory ≡ Ok placed
        → filled frame placed.0 body.param_locals call.args placed.1 ≡ r
        → entered (telling later frame) memory call id body destination ≡ retold later (entered frame memory call id body destination)
    unfolding entered
    retold_filled destination placed (Ok after) is then_is = rw (is, same_filled later frame placed.0 body.param_locals call.args placed.1, then_is, entered)
    retold_filled destination placed (Err e) is then_is = rw (is, same_filled later frame placed.0 body.param_locals call.args placed.1, then_is, entered)

    retold_placed : (destination : Option Interval) (r : Result (List Interval × Memory) MirEvalError)
        → called_cells frame.program.world body.locals destination memory ≡ r
        → entered (telling later frame) memory call id body destination ≡ retold later (entered frame memory call id body destination)
    unfolding entered
    retold_placed destination (Ok placed) is = retold_filled destination placed (filled frame placed.0 body.param_locals call.args placed.1) is refl
    retold_placed destination (Err e) is = rw (is, entered)

    retold_entered : (destination : Option Interval) → entered (telling later frame) memory call id body destination ≡ retold later (entered frame memory call id body destination)
    retold_entered destination = retold_placed destination (called_cells frame.program.world body.locals destination memory) refl

    retold_returning : (cell : Option Interval) (block : ℕ) → call.target ≡ Some block → cell_now frame memory call.destination ≡ cell
        → called (telling later frame) memory call id body ≡ retold later (called frame memory call id body)
    unfolding called
    retold_returning (Some cell) block is cell_is = rw (is, cell_is, called) (retold_entered (Some cell))
    retold_returning None block is cell_is = rw (is, cell_is, called)

    retold_nested : (fits : Bool) → call.target ≡ None → nat_le (suc (levels_over frame.below)) frame.program.nesting ≡ fits
        → called (telling later frame) memory call id body ≡ retold later (called frame memory call id body)
    unfolding called
    retold_nested true is fits_is = rw (is, fits_is, called) (retold_entered None)
    retold_nested false is fits_is = rw (is, fits_is, called)

    retold_called : (target : Option ℕ) → call.target ≡ target → called (telling later frame) memory call id body ≡ retold later (called frame memory call id body)
    retold_called (Some block) is = retold_returning (cell_now frame memory call.destination) block is refl
    retold_called None is = retold_nested (nat_le (suc (levels_over frame.below)) frame.program.nesting) is refl

  -- something that is led to, or the fault of a place that is out of bounds
  retold_led : (out : Bool) (now before : Next) → now ≡ retold later before → led (telling later frame) out now ≡ retold later (led frame out before)
  retold_led true now before same = refl
  retold_led false now before same = same

  -- a call of a function, by the answer to the query for its body before the run was told more
  retold_by : (memory : Memory) (call : Calling) (callee : FunctionId × GenericArgs) (told : Option Answer) → Extends frame.program.answers later
      → option_and_then function_in (operand_type frame.program.world frame.body call.func.kind) ≡ Some callee → answer_to frame.program.answers (body_query callee) ≡ told
      → calls (telling later frame) memory call ≡ retold later (calls frame memory call)
  unfolding calls called_by
  retold_by memory call callee (Some (answer.Body body)) extends is told_is =
      let later_is : answer_to later (body_query callee) ≡ Some (answer.Body body) = extends (body_query callee) (answer.Body body) told_is in
      rw (is, told_is, later_is, calls)
      (retold_led (calls_out frame.program.world frame.body (number_held memory frame.cells) call) (called (telling later frame) memory call callee.0 body.value) (called frame memory call callee.0 body.value)
      (retold_called memory call callee.0 body.value call.target refl))
  retold_by memory call callee (Some (answer.Failed e)) extends is told_is =
      let later_is : answer_to later (body_query callee) ≡ Some (answer.Failed e) = extends (body_query callee) (answer.Failed e) told_is in
      rw (is, told_is, later_is, calls)
      (retold_led (calls_out frame.program.world frame.body (number_held memory frame.cells) call) (Stops (Faulted (callee_error callee.0 e) (entry_of (telling later frame) call callee.0 ∷ trail_of (telling later frame))))
      (Stops (Faulted (callee_error callee.0 e) (entry_of frame call callee.0 ∷ trail_of frame))) refl)
  retold_by memory call callee (Some (answer.Konst konst)) extends is told_is = rw (is, told_is, is, calls)
  retold_by memory call callee (Some (answer.Discriminant number)) extends is told_is = rw (is, told_is, is, calls)
  retold_by memory call callee None extends is told_is = rw (is, told_is, is, calls)

  retold_of : (memory : Memory) (call : Calling) (callee : Option (FunctionId × GenericArgs)) → Extends frame.program.answers later
      → option_and_then function_in (operand_type frame.program.world frame.body call.func.kind) ≡ callee
      → calls (telling later frame) memory call ≡ retold later (calls frame memory call)
  unfolding calls
  retold_of memory call (Some callee) extends is = retold_by memory call callee (answer_to frame.program.answers (body_query callee)) extends is refl
  retold_of memory call None extends is = rw (is, calls)

  pub retold_calls : (memory : Memory) (call : Calling) → Extends frame.program.answers later → calls (telling later frame) memory call ≡ retold later (calls frame memory call)
  retold_calls memory call extends = retold_of memory call (option_and_then function_in (operand_type frame.program.world frame.body call.func.kind)) extends refl

  retold_small : (memory : Memory) (targets : SwitchTargets) (bytes : List ℕ) (small : Bool) → nat_le (length bytes) 16 ≡ small
      → switched (telling later frame) memory targets (Some bytes) ≡ retold later (switched frame memory targets (Some bytes))
  unfolding switched
  retold_small memory targets bytes true is = rw (is, switched)
  retold_small memory targets bytes false is = rw (is, switched)

  retold_switched : (memory : Memory) (targets : SwitchTargets) (bytes : Option (List ℕ)) → switched (telling later frame) memory targets bytes ≡ retold later (switched frame memory targets bytes)
  unfolding switched
  retold_switched memory targets (Some bytes) = retold_small memory targets bytes (nat_le (length bytes) 16) refl
  retold_switched memory targets None = refl

  retold_resumed : (memory : Memory) (caller : Waiting) (below : List Waiting) (next : Option ℕ) → caller.next ≡ next
      → resumed (telling later frame).program memory caller below ≡ retold later (resumed frame.program memory caller below)
  unfolding resumed
  retold_resumed memory caller below (Some block) is = rw (is, resumed)
  retold_resumed memory caller below None is = rw (is, resumed)

  retold_return : (memory : Memory) (below : List Waiting) → frame.below ≡ below → after_return (telling later frame) memory ≡ retold later (after_return frame memory)
  unfolding after_return
  retold_return memory [] is = rw (is, after_return)
  retold_return memory (caller ∷ below) is = rw (is, after_return) (retold_resumed memory caller below caller.next refl)

  retold_kind : (memory : Memory) (terminator : Terminator) (kind : TerminatorKind) → Extends frame.program.answers later → terminator.kind ≡ kind
      → terminated (telling later frame) memory (Some terminator) ≡ retold later (terminated frame memory (Some terminator))
  unfolding terminated
  retold_kind memory terminator (Goto target) extends is = rw (is, terminated)
  retold_kind memory terminator (SwitchInt discr targets) extends is =
      rw (is, same_operand later frame memory discr.kind, terminated)
      (retold_led (operand_out frame.program.world frame.body (number_held memory frame.cells) discr.kind) (switched (telling later frame) memory targets (operand_bytes frame memory discr.kind)) (switched frame memory targets (operand_bytes frame memory discr.kind))
      (retold_switched memory targets (operand_bytes frame memory discr.kind)))
  retold_kind memory terminator Return extends is = rw (is, terminated) (retold_return memory frame.below refl)
  retold_kind memory terminator (Drop place target unwind) extends is = rw (is, terminated)
  retold_kind memory terminator (Call func args destination target cleanup from_hir_call) extends is =
      rw (is, terminated) (retold_calls memory (calling func args destination target terminator.span) extends)

  retold_terminated : (memory : Memory) (terminator : Option Terminator) → Extends frame.program.answers later
      → terminated (telling later frame) memory terminator ≡ retold later (terminated frame memory terminator)
  unfolding terminated
  retold_terminated memory (Some terminator) extends = retold_kind memory terminator terminator.kind extends refl
  retold_terminated memory None extends = refl

  retold_block : (memory : Memory) (block : BasicBlock) (index : ℕ) (after : Result Memory MirEvalError) → Extends frame.program.answers later
      → after_statements frame (drop index block.statements) memory ≡ after
      → next_from (telling later frame) memory (Some block) index ≡ retold later (next_from frame memory (Some block) index)
  unfolding next_from
  retold_block memory block index (Ok after) extends is =
      rw (same_statements later frame (drop index block.statements) memory, is, next_from) (retold_terminated after block.terminator extends)
  retold_block memory block index (Err e) extends is = rw (same_statements later frame (drop index block.statements) memory, is, next_from)

  pub retold_next : (memory : Memory) (block : Option BasicBlock) (index : ℕ) → Extends frame.program.answers later
      → next_from (telling later frame) memory block index ≡ retold later (next_from frame memory block index)
  unfolding next_from
  retold_next memory (Some block) index extends = retold_block memory block index (after_statements frame (drop index block.statements) memory) extends refl
  retold_next memory None index extends = refl
