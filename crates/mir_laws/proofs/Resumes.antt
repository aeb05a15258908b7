-- A run that was told more does the same, up to the call where it asked, or to its end.
use Rattle.std.proofs.Common.{◌≡◌, ℕ, zero, suc, List, refl, ap, sym, subst, ◌∙◌}
use Rattle.std.specs.Prelude.{slice_get}
use Rattle.mir.specs.Memory.{Memory}
use Rattle.mir.specs.Run.{Frame, Calling, Returned, Faulted, Asked, Ending, Ended, Next, Stops, GoesTo, Asks, calls, next_from, entering, going_on}
use Rattle.mir.specs.declared.answers.Answer.{Answer}
use Rattle.mir.specs.declared.answers.Query.{Query}
use Rattle.mir_laws.specs.Questions.{telling, Extends, DidNotAsk, MoreAnswersGoOn, AnswersChangeNoEnd}
use Rattle.mir_laws.proofs.Kept.{Keeps, kept_calls, kept_next}
use Rattle.mir_laws.proofs.Retold.{retold, retold_calls, retold_next}
use Rattle.mir_laws.proofs.Runs.{entering_is}

-- the run that ended so, once it is told more: where it asked, it goes on at the call
resumed_by : List (Query × Answer) → Ending → ℕ → Ended
resumed_by later (Asked q frame memory call) left = going_on left (calls (telling later frame) memory call)
resumed_by later ending left = record { ending = ending; left = left }

-- what became of a run, once it is told more
resumes : List (Query × Answer) → Ended → Ended
resumes later ended = resumed_by later ended.ending ended.left

module _ (later : List (Query × Answer)) where
  ended_stays : (ending : Ending) (left : ℕ) → DidNotAsk ending → record { ending = ending; left = left } ≡ resumed_by later ending left
  unfolding resumed_by
  ended_stays (Returned bytes) left is = refl
  ended_stays (Faulted e trail) left is = refl
  ended_stays (Asked q frame memory call) left is = absurd is

  -- more answers resume each run over at most `budget` blocks
  Resume : ℕ → Type 0
  Resume budget = (frame : Frame) (memory : Memory) (block : ℕ) → Extends frame.program.answers later →
      entering budget (telling later frame) memory block ≡ resumes later (entering budget frame memory block)

  going_on_resumes : (budget : ℕ) (start : Frame) (next : Next) → Keeps start next → Extends start.program.answers later → Resume budget
      → going_on budget (retold later next) ≡ resumes later (going_on budget next)
  unfolding going_on resumes resumed_by Resume
  going_on_resumes budget start (Stops ending) keeps extends entered = ended_stays ending budget keeps
  going_on_resumes budget start (GoesTo frame memory block) keeps extends entered =
      entered frame memory block (subst (λ program. Extends program.answers later) (sym keeps) extends)
  going_on_resumes budget start (Asks q frame memory call) keeps extends entered = refl

  entering_resumes : (budget : ℕ) → Resume budget
  unfolding entering resumes resumed_by Resume
  entering_resumes zero frame memory block extends = refl
  entering_resumes (suc budget) frame memory block extends =
      let next : Next = next_from frame memory (slice_get frame.body.basic_blocks block) 0 in
      entering_is budget (telling later frame) memory block
      ∙ ap (going_on budget) (retold_next later frame memory (slice_get frame.body.basic_blocks block) 0 extends)
      ∙ going_on_resumes budget frame next (kept_next frame memory (slice_get frame.body.basic_blocks block) 0) extends (entering_resumes budget)
      ∙ sym (ap (resumes later) (entering_is budget frame memory block))

  -- a run that goes on from a call, once it is told more
  call_resumes : (budget : ℕ) (frame : Frame) (memory : Memory) (first : Calling) → Extends frame.program.answers later
      → going_on budget (calls (telling later frame) memory first) ≡ resumes later (going_on budget (calls frame memory first))
  unfolding Resume
  call_resumes budget frame memory first extends =
      ap (going_on budget) (retold_calls later frame memory first extends)
      ∙ going_on_resumes budget frame (calls frame memory first) (kept_calls frame memory first) extends (entering_resumes budget)

pub more_answers : MoreAnswersGoOn
unfolding resumes resumed_by Resume
more_answers = record {
  from_entry = λ budget frame memory block later q caller then call left asked extends.
      entering_resumes later budget frame memory block extends ∙ ap (resumes later) asked.is;
  from_call = λ budget frame memory first later q caller then call left asked extends.
      call_resumes later budget frame memory first extends ∙ ap (resumes later) asked.is;
}

pub ends_stay : AnswersChangeNoEnd
unfolding resumes Resume
ends_stay = record {
  from_entry = λ budget frame memory block later did_not_ask extends.
      let ended : Ended = entering budget frame memory block in
      entering_resumes later budget frame memory block extends ∙ sym (ended_stays later ended.ending ended.left did_not_ask);
  from_call = λ budget frame memory first later did_not_ask extends.
      let ended : Ended = going_on budget (calls frame memory first) in
      call_resumes later budget frame memory first extends ∙ sym (ended_stays later ended.ending ended.left did_not_ask);
}
