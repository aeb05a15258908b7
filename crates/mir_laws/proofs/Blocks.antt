-- A run enters a block before it asks.
use Rattle.std.proofs.Common.{ℕ, zero, suc, ◌<◌, sym, subst, arith}
use Rattle.std.specs.Prelude.{slice_get}
use Rattle.mir.specs.Memory.{Memory}
use Rattle.mir.specs.Run.{Frame, Returned, Faulted, Asked, Ending, Next, Stops, GoesTo, Asks, calls, next_from, entering, going_on}
use Rattle.mir_laws.specs.Questions.{DidNotAsk, AsksNothing, QuestionsTakeBlocks}
use Rattle.mir_laws.proofs.Kept.{Keeps, kept_calls, kept_next}
use Rattle.mir_laws.proofs.Runs.{entering_is}

-- a run over at most `budget` blocks that ended so, and may still enter `left`, took one of them if it asked
Takes : ℕ → Ending → ℕ → Type 0
Takes budget (Asked q frame memory call) left = left < budget
Takes budget ending left = Unit {0}

end_takes : (budget : ℕ) (ending : Ending) (left : ℕ) → DidNotAsk ending → Takes budget ending left
unfolding Takes
end_takes budget (Returned bytes) left is = tt
end_takes budget (Faulted e trail) left is = tt
end_takes budget (Asked q frame memory call) left is = absurd is

takes_of_more : (budget : ℕ) (ending : Ending) (left : ℕ) → Takes budget ending left → Takes (suc budget) ending left
unfolding Takes
takes_of_more budget (Returned bytes) left takes = tt
takes_of_more budget (Faulted e trail) left takes = tt
takes_of_more budget (Asked q frame memory call) left takes = omega arith

-- each run over at most `budget` blocks takes one of them before it asks
Entering : ℕ → Type 0
Entering budget = (frame : Frame) (memory : Memory) (block : ℕ) → Takes budget (entering budget frame memory block).ending (entering budget frame memory block).left

-- a run that took a block, and then goes on over `budget` blocks
going_on_took : (budget : ℕ) (start : Frame) (next : Next) → Keeps start next → Entering budget → Takes (suc budget) (going_on budget next).ending (going_on budget next).left
unfolding going_on Takes Entering
going_on_took budget start (Stops ending) keeps entered = end_takes (suc budget) ending budget keeps
going_on_took budget start (GoesTo frame memory block) keeps entered =
    takes_of_more budget (entering budget frame memory block).ending (entering budget frame memory block).left (entered frame memory block)
going_on_took budget start (Asks q frame memory call) keeps entered = omega arith

-- a run that goes on where no query is
going_on_takes : (budget : ℕ) (start : Frame) (next : Next) → Keeps start next → AsksNothing next → Entering budget → Takes budget (going_on budget next).ending (going_on budget next).left
unfolding going_on Takes Entering
going_on_takes budget start (Stops ending) keeps nothing entered = end_takes budget ending budget keeps
going_on_takes budget start (GoesTo frame memory block) keeps nothing entered = entered frame memory block
going_on_takes budget start (Asks q frame memory call) keeps nothing entered = absurd nothing

entering_takes : (budget : ℕ) → Entering budget
unfolding entering Takes Entering
entering_takes zero frame memory block = tt
entering_takes (suc budget) frame memory block =
    let next : Next = next_from frame memory (slice_get frame.body.basic_blocks block) 0 in
    subst (λ ended. Takes (suc budget) ended.ending ended.left) (sym (entering_is budget frame memory block))
    (going_on_took budget frame next (kept_next frame memory (slice_get frame.body.basic_blocks block) 0) (entering_takes budget))

pub questions_take_blocks : QuestionsTakeBlocks
unfolding Takes Entering
questions_take_blocks = record {
  from_entry = λ budget frame memory block q caller then call left asked.
      subst (λ ended. Takes budget ended.ending ended.left) asked.is (entering_takes budget frame memory block);
  from_call = λ budget frame memory first q caller then call left asked nothing.
      subst (λ ended. Takes budget ended.ending ended.left) asked.is
      (going_on_takes budget frame (calls frame memory first) (kept_calls frame memory first) nothing (entering_takes budget));
}
