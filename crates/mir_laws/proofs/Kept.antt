-- Where a block leads: to an end that isn't at a query, to a frame of the same program, or to a query for the body of a callee, which has no such answer yet.
use Rattle.std.proofs.Common.{◌≡◌, ◌≢◌, ℕ, Bool, true, false, List, [], ◌∷◌, Option, Some, None, drop, refl, ap, sym, subst, ◌∙◌}
use Rattle.std.specs.Prelude.{slice_get, Result, Ok, Err, length, option_and_then, nat_le}
use Rattle.types.specs.declared.ids.FunctionId.{FunctionId}
use Rattle.types.specs.declared.ty.GenericArgs.{GenericArgs}
use Rattle.mir.specs.Answers.{answer_to, answers_kind}
use Rattle.mir.specs.Memory.{Memory, cell_bytes, number_held}
use Rattle.mir.specs.Run.{Frame, Waiting, Calling, Next, Faulted, Stops, GoesTo, Asks, callee_error, entry_of, operand_bytes, operand_out, operand_type, function_in, body_query, calling, calls_out, led, returned, resumed, after_return, after_statements, called, called_by, calls, switched, terminated, trail_of, next_from}
use Rattle.mir.specs.declared.answers.Answer.{Answer}
use Rattle.mir.specs.declared.answers.Answer.TheVariants as answer
use Rattle.mir.specs.declared.body.BasicBlock.{BasicBlock}
use Rattle.mir.specs.declared.body.Terminator.{Terminator}
use Rattle.mir.specs.declared.body.TerminatorKind.{TerminatorKind}
use Rattle.mir.specs.declared.body.TerminatorKind.TheVariants.{Goto, SwitchInt, Return, Drop, Call}
use Rattle.mir.specs.declared.errors.MirEvalError.{MirEvalError}
use Rattle.mir.specs.declared.switch.SwitchTargets.{SwitchTargets}
use Rattle.mir_laws.specs.Questions.{DidNotAsk, IsQuestion}
use Rattle.mir_laws.proofs.Enters.{Enters, enters_called, enters_led}

-- what is known of where a block of a frame leads
abbrev pub Keeps : Frame → Next → Type 0
Keeps start (Stops ending) = DidNotAsk ending
Keeps start (GoesTo frame memory block) = frame.program ≡ start.program
Keeps start (Asks q frame memory call) = IsQuestion start q frame memory call

kept_by_entering : (start : Frame) (next : Next) → Enters start next → Keeps start next
kept_by_entering start (Stops ending) enters = enters
kept_by_entering start (GoesTo frame memory block) enters = enters
kept_by_entering start (Asks q frame memory call) enters = absurd enters

-- where the answer that was found isn't one of a query for a body, no answer was found that is
apart : (callee : FunctionId × GenericArgs) (told : Answer) (found : Option Answer) → found ≡ Some told → answers_kind (body_query callee) told ≡ false → (a : Answer) → found ≡ Some a →
    answers_kind (body_query callee) a ≡ true → ⊥
apart callee told found is wrong a a_is right =
    let same : told ≡ a = cc in
    let holds : ◌≡◌ {A = Bool} true false = sym right ∙ sym (ap (answers_kind (body_query callee)) same) ∙ wrong in
    absurd cc

module _ (frame : Frame) where
  kept_asking : (memory : Memory) (call : Calling) (callee : FunctionId × GenericArgs) → calls frame memory call ≡ Asks (body_query callee) frame memory call
      → ((a : Answer) → answer_to frame.program.answers (body_query callee) ≡ Some a → answers_kind (body_query callee) a ≢ true)
      → Keeps frame (calls frame memory call)
  kept_asking memory call callee asks unanswered =
      subst (Keeps frame) (sym asks) (record { callee = callee; wanted = refl; unanswered = unanswered; asks = asks; program = refl })

  kept_by : (memory : Memory) (call : Calling) (callee : FunctionId × GenericArgs) (told : Option Answer)
      → option_and_then function_in (operand_type frame.program.world frame.body call.func.kind) ≡ Some callee → answer_to frame.program.answers (body_query callee) ≡ told
      → Keeps frame (calls frame memory call)
  unfolding calls called_by
  kept_by memory call callee (Some (answer.Body body)) is told_is =
      rw (is, told_is, calls)
      (kept_by_entering frame (led frame (calls_out frame.program.world frame.body (number_held memory frame.cells) call) (called frame memory call callee.0 body.value))
      (enters_led frame (calls_out frame.program.world frame.body (number_held memory frame.cells) call) (called frame memory call callee.0 body.value) (enters_called frame memory call callee.0 body.value)))
  kept_by memory call callee (Some (answer.Failed e)) is told_is =
      let refused : Next = Stops (Faulted (callee_error callee.0 e) (entry_of frame call callee.0 ∷ trail_of frame)) in
      rw (is, told_is, calls)
      (kept_by_entering frame (led frame (calls_out frame.program.world frame.body (number_held memory frame.cells) call) refused)
      (enters_led frame (calls_out frame.program.world frame.body (number_held memory frame.cells) call) refused tt))
  kept_by memory call callee (Some (answer.Konst konst)) is told_is =
      kept_asking memory call callee (rw (is, told_is, calls)) (apart callee (answer.Konst konst) (answer_to frame.program.answers (body_query callee)) told_is refl)
  kept_by memory call callee (Some (answer.Discriminant number)) is told_is =
      kept_asking memory call callee (rw (is, told_is, calls)) (apart callee (answer.Discriminant number) (answer_to frame.program.answers (body_query callee)) told_is refl)
  kept_by memory call callee None is told_is = kept_asking memory call callee (rw (is, told_is, calls)) (λ a a_is right. absurd cc)

  kept_of : (memory : Memory) (call : Calling) (callee : Option (FunctionId × GenericArgs))
      → option_and_then function_in (operand_type frame.program.world frame.body call.func.kind) ≡ callee → Keeps frame (calls frame memory call)
  unfolding calls
  kept_of memory call (Some callee) is = kept_by memory call callee (answer_to frame.program.answers (body_query callee)) is refl
  kept_of memory call None is = rw (is, calls) tt

  pub kept_calls : (memory : Memory) (call : Calling) → Keeps frame (calls frame memory call)
  kept_calls memory call = kept_of memory call (option_and_then function_in (operand_type frame.program.world frame.body call.func.kind)) refl

  kept_small : (memory : Memory) (targets : SwitchTargets) (bytes : List ℕ) (small : Bool) → nat_le (length bytes) 16 ≡ small
      → Keeps frame (switched frame memory targets (Some bytes))
  unfolding switched
  kept_small memory targets bytes true is = rw (is, switched) refl
  kept_small memory targets bytes false is = rw (is, switched) tt

  kept_switched : (memory : Memory) (targets : SwitchTargets) (bytes : Option (List ℕ)) → Keeps frame (switched frame memory targets bytes)
  unfolding switched
  kept_switched memory targets (Some bytes) = kept_small memory targets bytes (nat_le (length bytes) 16) refl
  kept_switched memory targets None = tt

  kept_led : (out : Bool) (next : Next) → Keeps frame next → Keeps frame (led frame out next)
  kept_led true next keeps = tt
  kept_led false next keeps = keeps

  kept_resumed : (memory : Memory) (caller : Waiting) (below : List Waiting) (next : Option ℕ) → caller.next ≡ next
      → Keeps frame (resumed frame.program memory caller below)
  unfolding resumed
  kept_resumed memory caller below (Some block) is = rw (is, resumed) refl
  kept_resumed memory caller below None is = rw (is, resumed) tt

  kept_returned : (bytes : Option (List ℕ)) → DidNotAsk (returned bytes)
  kept_returned (Some bytes) = tt
  kept_returned None = tt

  kept_return : (memory : Memory) (below : List Waiting) → frame.below ≡ below → Keeps frame (after_return frame memory)
  unfolding after_return
  kept_return memory [] is = rw (is, after_return) (kept_returned (option_and_then (cell_bytes memory) (slice_get frame.cells 0)))
  kept_return memory (caller ∷ below) is =
      let goes_on : after_return frame memory ≡ resumed frame.program memory caller below = rw (is, after_return) in
      subst (Keeps frame) (sym goes_on) (kept_resumed memory caller below caller.next refl)

  kept_kind : (memory : Memory) (terminator : Terminator) (kind : TerminatorKind) → terminator.kind ≡ kind
      → Keeps frame (terminated frame memory (Some terminator))
  unfolding terminated
  kept_kind memory terminator (Goto target) is = rw (is, terminated) refl
  kept_kind memory terminator (SwitchInt discr targets) is =
      rw (is, terminated)
      (kept_led (operand_out frame.program.world frame.body (number_held memory frame.cells) discr.kind) (switched frame memory targets (operand_bytes frame memory discr.kind)) (kept_switched memory targets (operand_bytes frame memory discr.kind)))
  kept_kind memory terminator Return is = rw (is, terminated) (kept_return memory frame.below refl)
  kept_kind memory terminator (Drop place target unwind) is = rw (is, terminated) refl
  kept_kind memory terminator (Call func args destination target cleanup from_hir_call) is =
      rw (is, terminated) (kept_calls memory (calling func args destination target terminator.span))

  kept_terminated : (memory : Memory) (terminator : Option Terminator) → Keeps frame (terminated frame memory terminator)
  unfolding terminated
  kept_terminated memory (Some terminator) = kept_kind memory terminator terminator.kind refl
  kept_terminated memory None = tt

  kept_block : (memory : Memory) (block : BasicBlock) (index : ℕ) (after : Result Memory MirEvalError)
      → after_statements frame (drop index block.statements) memory ≡ after → Keeps frame (next_from frame memory (Some block) index)
  unfolding next_from
  kept_block memory block index (Ok after) is = rw (is, next_from) (kept_terminated after block.terminator)
  kept_block memory block index (Err e) is = rw (is, next_from) tt

  pub kept_next : (memory : Memory) (block : Option BasicBlock) (index : ℕ) → Keeps frame (next_from frame memory block index)
  unfolding next_from
  kept_next memory (Some block) index = kept_block memory block index (after_statements frame (drop index block.statements) memory) refl
  kept_next memory None index = tt
