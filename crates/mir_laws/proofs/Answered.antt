-- A call whose query is answered asks no more.
use Rattle.std.proofs.Common.{◌≡◌, Bool, List, ◌∷◌, Option, Some, None, refl, sym, subst, ◌∙◌}
use Rattle.std.specs.Prelude.{IsTrue, option_and_then}
use Rattle.types.specs.declared.ids.FunctionId.{FunctionId}
use Rattle.types.specs.declared.ty.GenericArgs.{GenericArgs}
use Rattle.mir.specs.Answers.{answer_to, answers_kind}
use Rattle.mir.specs.Memory.{Memory, number_held}
use Rattle.mir.specs.Run.{Frame, Calling, Next, Asks, Faulted, Stops, callee_error, entry_of, operand_type, function_in, body_query, called, called_by, calls, calls_out, led, trail_of}
use Rattle.mir.specs.declared.answers.Answer.{Answer}
use Rattle.mir.specs.declared.answers.Answer.TheVariants as answer
use Rattle.mir.specs.declared.answers.Query.{Query}
use Rattle.mir_laws.specs.Questions.{telling, AsksNothing, AnsweredCallsGoOn}
use Rattle.mir_laws.proofs.Enters.{Enters, enters_called, enters_led, entering_asks_nothing}

module _ (frame : Frame) (memory : Memory) (call : Calling) where
  -- whether the call uses a place that is out of bounds
  abbrev out_is : Bool
  out_is = calls_out frame.program.world frame.body (number_held memory frame.cells) call

  -- a call that asks, asks for the body of its callee
  query_is : (callee : FunctionId × GenericArgs) (told : Option Answer) (q : Query) → called_by frame memory call callee told ≡ Asks q frame memory call → body_query callee ≡ q
  unfolding called_by
  query_is callee (Some (answer.Body body)) q asks = absurd (subst (Enters frame) asks (enters_led frame out_is (called frame memory call callee.0 body.value) (enters_called frame memory call callee.0 body.value)))
  query_is callee (Some (answer.Failed e)) q asks = absurd (subst (Enters frame) asks (enters_led frame out_is (Stops (Faulted (callee_error callee.0 e) (entry_of frame call callee.0 ∷ trail_of frame))) tt))
  query_is callee (Some (answer.Konst konst)) q asks = cc
  query_is callee (Some (answer.Discriminant number)) q asks = cc
  query_is callee None q asks = cc

  asks_nothing_by : (callee : FunctionId × GenericArgs) (later : List (Query × Answer)) (a : Answer)
      → option_and_then function_in (operand_type frame.program.world frame.body call.func.kind) ≡ Some callee → answer_to later (body_query callee) ≡ Some a
      → IsTrue (answers_kind (body_query callee) a) → AsksNothing (calls (telling later frame) memory call)
  unfolding calls called_by
  asks_nothing_by callee later (answer.Body body) is told_is right =
      rw (is, told_is, calls)
      (entering_asks_nothing (telling later frame) (led (telling later frame) out_is (called (telling later frame) memory call callee.0 body.value))
      (enters_led (telling later frame) out_is (called (telling later frame) memory call callee.0 body.value) (enters_called (telling later frame) memory call callee.0 body.value)))
  asks_nothing_by callee later (answer.Failed e) is told_is right =
      let refused : Next = Stops (Faulted (callee_error callee.0 e) (entry_of (telling later frame) call callee.0 ∷ trail_of (telling later frame))) in
      rw (is, told_is, calls) (entering_asks_nothing (telling later frame) (led (telling later frame) out_is refused) (enters_led (telling later frame) out_is refused tt))
  asks_nothing_by callee later (answer.Konst konst) is told_is right = absurd cc
  asks_nothing_by callee later (answer.Discriminant number) is told_is right = absurd cc

  asks_nothing : (callee : Option (FunctionId × GenericArgs)) (q : Query) (later : List (Query × Answer)) (a : Answer)
      → option_and_then function_in (operand_type frame.program.world frame.body call.func.kind) ≡ callee → calls frame memory call ≡ Asks q frame memory call
      → answer_to later q ≡ Some a → IsTrue (answers_kind q a) → AsksNothing (calls (telling later frame) memory call)
  unfolding calls
  asks_nothing (Some callee) q later a is asks told_is right =
      let by : calls frame memory call ≡ called_by frame memory call callee (answer_to frame.program.answers (body_query callee)) = rw (is, calls) in
      let same : body_query callee ≡ q = query_is callee (answer_to frame.program.answers (body_query callee)) q (sym by ∙ asks) in
      asks_nothing_by callee later a is (subst (λ other. answer_to later other ≡ Some a) (sym same) told_is) (subst (λ other. IsTrue (answers_kind other a)) (sym same) right)
  asks_nothing None q later a is asks told_is right = rw (is, calls) tt

pub answered_calls : AnsweredCallsGoOn
answered_calls frame memory call q later a asks told_is right =
    asks_nothing frame memory call (option_and_then function_in (operand_type frame.program.world frame.body call.func.kind)) q later a refl asks told_is right
