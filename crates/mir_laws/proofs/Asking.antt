-- A run asks for nothing but the body of a function that it calls, which it wasn't told.
use Rattle.std.proofs.Common.{◌≡◌, ℕ, zero, suc, sym, subst, ◌∙◌}
use Rattle.std.specs.Prelude.{slice_get}
use Rattle.mir.specs.Memory.{Memory}
use Rattle.mir.specs.Run.{Frame, Returned, Faulted, Asked, Ending, Next, Stops, GoesTo, Asks, calls, next_from, entering, going_on}
use Rattle.mir_laws.specs.Questions.{DidNotAsk, IsQuestion, QuestionsAreCalls}
use Rattle.mir_laws.proofs.Kept.{Keeps, kept_calls, kept_next}
use Rattle.mir_laws.proofs.Runs.{entering_is}

-- what is known of the query of a run that ended so, in a frame of the program of `start`
Questions : Frame → Ending → Type 0
Questions start (Asked q frame memory call) = IsQuestion start q frame memory call
Questions start ending = Unit {0}

end_asks_nothing : (start : Frame) (ending : Ending) → DidNotAsk ending → Questions start ending
unfolding Questions
end_asks_nothing start (Returned bytes) is = tt
end_asks_nothing start (Faulted e trail) is = tt
end_asks_nothing start (Asked q frame memory call) is = absurd is

-- a query in a run of the same program
questions_of : (start frame : Frame) (ending : Ending) → frame.program ≡ start.program → Questions frame ending → Questions start ending
unfolding Questions
questions_of start frame (Returned bytes) same known = tt
questions_of start frame (Faulted e trail) same known = tt
questions_of start frame (Asked q caller memory call) same known =
    record { callee = known.callee; wanted = known.wanted; unanswered = known.unanswered; asks = known.asks; program = known.program ∙ same }

going_on_asks : (budget : ℕ) (start : Frame) (next : Next) → Keeps start next
    → ((frame : Frame) (memory : Memory) (block : ℕ) → Questions frame (entering budget frame memory block).ending)
    → Questions start (going_on budget next).ending
unfolding going_on Questions
going_on_asks budget start (Stops ending) keeps entered = end_asks_nothing start ending keeps
going_on_asks budget start (GoesTo frame memory block) keeps entered = questions_of start frame (entering budget frame memory block).ending keeps (entered frame memory block)
going_on_asks budget start (Asks q frame memory call) keeps entered = keeps

entering_asks : (budget : ℕ) (frame : Frame) (memory : Memory) (block : ℕ) → Questions frame (entering budget frame memory block).ending
unfolding entering Questions
entering_asks zero frame memory block = tt
entering_asks (suc budget) frame memory block =
    subst (λ ended. Questions frame ended.ending) (sym (entering_is budget frame memory block))
    (going_on_asks budget frame (next_from frame memory (slice_get frame.body.basic_blocks block) 0) (kept_next frame memory (slice_get frame.body.basic_blocks block) 0) (entering_asks budget))

pub questions : QuestionsAreCalls
unfolding Questions
questions = record {
  from_entry = λ budget frame memory block q caller then call left asked.
      subst (λ ended. Questions frame ended.ending) asked.is (entering_asks budget frame memory block);
  from_call = λ budget frame memory first q caller then call left asked.
      subst (λ ended. Questions frame ended.ending) asked.is (going_on_asks budget frame (calls frame memory first) (kept_calls frame memory first) (entering_asks budget));
}
