-- How a run that is told what it asks comes to its end: each position that it comes to leads, with whatever else it is told, to the end of the
-- run from the body's start that is told all of this at once.
use Rattle.std.proofs.Common.{◌≡◌, ℕ, ◌<◌, List, [], Option, Some, None, Ok, refl, sym, ap, ◌∙◌, subst}
use Rattle.std.specs.Prelude.{option_and_then}
use Rattle.world.specs.declared.limits.Limits.{Limits}
use Rattle.mir.specs.Answers.{IsAfterPut, answer_to}
use Rattle.mir.specs.Memory.{Memory}
use Rattle.mir.specs.Run.{Program, Frame, Calling, calling, Asked, Ended, begun, calls, entering, first_body, going_on, terminated}
use Rattle.mir.specs.declared.answers.Answer.{Answer}
use Rattle.mir.specs.declared.answers.Query.{Query}
use Rattle.mir.specs.declared.body.MirBody.{MirBody}
use Rattle.mir.specs.declared.body.Terminator.{Terminator}
use Rattle.mir.specs.declared.body.TerminatorKind.{TerminatorKind}
use Rattle.mir.specs.declared.body.TerminatorKind.TheVariants.{Goto, SwitchInt, Return, Drop, Call}
use Rattle.mir_eval.specs.Machine.{Point, Entry, AtCall, Position, call_at, call_of, end_of, terminator_at, with_answers}
use Rattle.mir_laws.specs.Questions.{AsksNothing, Extends, HasAsked, IsQuestion, telling}
use Rattle.mir_laws.proofs.Answered.{answered_calls}
use Rattle.mir_laws.proofs.Asking.{questions}
use Rattle.mir_laws.proofs.Blocks.{questions_take_blocks}
use Rattle.mir_laws.proofs.Extending.{new_answers}
use Rattle.mir_laws.proofs.Resumes.{more_answers}
use Rattle.mir_lower.proofs.Whole.{begun-cells}
use Rattle.consteval.specs.Kept.{AreRightAnswers, IsRightAnswer, Kept, Stays, program_of, run_of}
use Rattle.consteval.proofs.Begins.{begun-from}
use Rattle.consteval.proofs.First.{AsksInRunOf, call-asks, entering-asks, first_of}
use Rattle.consteval.proofs.Right.{all-right-stay, none-wrong, put-right, right-kind}

-- a position from which a run doesn't ask at once: about to enter a block, or at a call whose query has its answer
abbrev pub GoesOn : Frame → Memory → Point → Type 0
GoesOn frame memory (Entry block) = Unit {0}
GoesOn frame memory (AtCall block) = (call : Calling) × (call_at frame.body block ≡ Some call) × AsksNothing (calls frame memory call)

-- A run of a body under limits, which began in `start`, came to a position, and was told nothing but what is right by what is kept. With
-- whatever else it is told it ends as the run from the start does that is told all of it.
pub record HasCome (kept : Kept) (body : MirBody) (limits : Limits) (start : Frame × Memory) (position : Position) : Type 0 where
  pub program : position.frame.program ≡ program_of kept.world limits position.frame.program.answers
  pub first : first_of position.frame ≡ body
  pub right : AreRightAnswers kept position.frame.program.answers
  pub ends : (later : List (Query × Answer)) → Extends position.frame.program.answers later → end_of (with_answers later position) ≡ run_of body (telling later start.0, start.1) limits.blocks
  pub goes_on : GoesOn position.frame position.memory position.point

-- a run that begins under a program begins so whatever it is told
pub begun-telling : (program : Program) (body : MirBody) (start : Frame × Memory) (answers : List (Query × Answer)) → begun program body ≡ Ok start → begun (record program { answers = answers }) body ≡ Ok (telling answers start.0, start.1)
begun-telling program body start answers began =
    let cells = begun-cells program body start began in
    subst (λ (s : Frame × Memory). begun (record program { answers = answers }) body ≡ Ok (telling answers s.0, s.1)) (sym cells.2) (begun-from (record program { answers = answers }) body cells.0 cells.1)

-- where a run begins it has come to
pub comes-first : (kept : Kept) (body : MirBody) (limits : Limits) (start : Frame × Memory) → begun (program_of kept.world limits []) body ≡ Ok start →
    HasCome kept body limits start (record { frame = start.0; memory = start.1; point = Entry body.start_block.0; left = limits.blocks })
unfolding end_of first_body
comes-first kept body limits start began =
    let cells = begun-cells (program_of kept.world limits []) body start began in
    record {
      program = subst (λ (s : Frame × Memory). s.0.program ≡ program_of kept.world limits s.0.program.answers) (sym cells.2) refl;
      first = subst (λ (s : Frame × Memory). first_of s.0 ≡ body) (sym cells.2) refl;
      right = subst (λ (s : Frame × Memory). AreRightAnswers kept s.0.program.answers) (sym cells.2) (none-wrong kept);
      ends = λ later extends. refl;
      goes_on = tt;
    }

module _ (frame : Frame) (memory : Memory) where
  -- what the terminator does that is a call
  called-kind : (call : Calling) (terminator : Terminator) (kind : TerminatorKind) → terminator.kind ≡ kind → call_of terminator ≡ Some call → terminated frame memory (Some terminator) ≡ calls frame memory call
  unfolding terminated
  called-kind call terminator (Call func args destination target cleanup from_hir_call) is is_call =
      let made : Some (calling func args destination target terminator.span) ≡ Some call = rw is at is_call in
      let same : calling func args destination target terminator.span ≡ call = cc in
      rw (is, terminated) (ap (calls frame memory) same)
  called-kind call terminator (Goto target) is is_call = absurd (let none : None ≡ Some call = rw is at is_call in cc)
  called-kind call terminator (SwitchInt discr targets) is is_call = absurd (let none : None ≡ Some call = rw is at is_call in cc)
  called-kind call terminator Return is is_call = absurd (let none : None ≡ Some call = rw is at is_call in cc)
  called-kind call terminator (Drop place target unwind) is is_call = absurd (let none : None ≡ Some call = rw is at is_call in cc)

  called-at : (call : Calling) (terminator : Option Terminator) → option_and_then call_of terminator ≡ Some call → terminated frame memory terminator ≡ calls frame memory call
  called-at call (Some terminator) is_call = called-kind call terminator terminator.kind refl is_call
  called-at call None is_call = absurd cc

  -- the end of a run from a call
  end-at-call : (left block : ℕ) (call : Calling) → call_at frame.body block ≡ Some call → end_of (record { frame = frame; memory = memory; point = AtCall block; left = left }) ≡ going_on left (calls frame memory call)
  unfolding end_of
  end-at-call left block call is_call = ap (going_on left) (called-at call (terminator_at frame.body block) is_call)

-- a run that goes on from a position, and asks
module _ (frame : Frame) (memory : Memory) (q : Query) (caller : Frame) (then : Memory) (call : Calling) (left : ℕ) where
  abbrev At : Point → ℕ → Position
  At point budget = record { frame = frame; memory = memory; point = point; left = budget }

  abbrev Asks : Point → ℕ → Type 0
  Asks point budget = end_of (At point budget) ≡ record { ending = Asked q caller then call; left = left }

  entered-asked : (budget block : ℕ) → Asks (Entry block) budget → HasAsked (entering budget frame memory block) q caller then call left
  unfolding end_of
  entered-asked budget block is = record { is = is }

  called-asked : (budget block : ℕ) (first : Calling) → call_at frame.body block ≡ Some first → Asks (AtCall block) budget → HasAsked (going_on budget (calls frame memory first)) q caller then call left
  called-asked budget block first is_call is = record { is = sym (end-at-call frame memory budget block first is_call) ∙ is }

  -- what it asks
  pub is-question : (point : Point) (budget : ℕ) → GoesOn frame memory point → Asks point budget → IsQuestion frame q caller then call
  is-question (Entry block) budget goes is = questions.from_entry budget frame memory block q caller then call left (entered-asked budget block is)
  is-question (AtCall block) budget goes is = questions.from_call budget frame memory goes.0 q caller then call left (called-asked budget block goes.0 goes.1 is)

  -- before it asks, it enters a block
  pub takes-a-block : (point : Point) (budget : ℕ) → GoesOn frame memory point → Asks point budget → left < budget
  takes-a-block (Entry block) budget goes is = questions_take_blocks.from_entry budget frame memory block q caller then call left (entered-asked budget block is)
  takes-a-block (AtCall block) budget goes is =
      questions_take_blocks.from_call budget frame memory goes.0 q caller then call left (called-asked budget block goes.0 goes.1 is) goes.2

  -- it is still a run of the same body
  pub asks-in-first : (point : Point) (budget : ℕ) → GoesOn frame memory point → Asks point budget → first_of caller ≡ first_of frame
  asks-in-first (Entry block) budget goes is = let asked = entered-asked budget block is in subst (λ (ended : Ended). AsksInRunOf frame ended.ending) asked.is (entering-asks budget frame memory block)
  asks-in-first (AtCall block) budget goes is = let asked = called-asked budget block goes.0 goes.1 is in subst (λ (ended : Ended). AsksInRunOf frame ended.ending) asked.is (call-asks budget frame memory goes.0)

  -- told more, it goes on from the call
  pub goes-on-from-call : (point : Point) (budget : ℕ) (later : List (Query × Answer)) → GoesOn frame memory point → Asks point budget → Extends frame.program.answers later →
      end_of (with_answers later (At point budget)) ≡ going_on left (calls (telling later caller) then call)
  unfolding end_of
  goes-on-from-call (Entry block) budget later goes is extends = more_answers.from_entry budget frame memory block later q caller then call left (entered-asked budget block is) extends
  goes-on-from-call (AtCall block) budget later goes is extends =
      end-at-call (telling later frame) memory budget block goes.0 goes.1
      ∙ more_answers.from_call budget frame memory goes.0 later q caller then call left (called-asked budget block goes.0 goes.1 is) extends

-- a run that came to a position, and asks from there at a call
pub record AsksFrom (position : Position) (q : Query) (caller : Frame) (then : Memory) (call : Calling) (left block : ℕ) : Type 0 where
  pub ends : end_of position ≡ record { ending = Asked q caller then call; left = left }
  pub is_call : call_at caller.body block ≡ Some call

module _ (kept : Kept) (body : MirBody) (limits : Limits) (start : Frame × Memory) (position : Position) (come : HasCome kept body limits start position) where
  module _ (q : Query) (caller : Frame) (then : Memory) (call : Calling) (left block : ℕ) (asks : AsksFrom position q caller then call left block) where
    pub question-of : IsQuestion position.frame q caller then call
    question-of = is-question position.frame position.memory q caller then call left position.point position.left come.goes_on asks.ends

    pub left-less : left < position.left
    left-less = takes-a-block position.frame position.memory q caller then call left position.point position.left come.goes_on asks.ends

    -- where the run goes on that was told the answer
    abbrev pub Told : List (Query × Answer) → Position
    Told answers = with_answers answers (record { frame = caller; memory = then; point = AtCall block; left = left })

    -- it comes to there, where the answer is right by what is kept then
    pub comes-told : (after : Kept) (answers : List (Query × Answer)) (a : Answer) → Stays kept after → IsRightAnswer after q a → IsAfterPut caller.program.answers answers q a → HasCome after body limits start (Told answers)
    comes-told after answers a stays own put =
        record {
          program = ap (λ (p : Program). record p { answers = answers }) (question.program ∙ come.program) ∙ ap (λ world. program_of world limits answers) (sym stays.world);
          first = asks-in-first position.frame position.memory q caller then call left position.point position.left come.goes_on asks.ends ∙ come.first;
          right = put-right after caller.program.answers answers q a put (all-right-stay kept after stays caller.program.answers right) own;
          ends = λ later extends.
              end-at-call (telling later caller) then left block call asks.is_call
              ∙ sym (goes-on-from-call position.frame position.memory q caller then call left position.point position.left later come.goes_on asks.ends (from-first later extends))
              ∙ come.ends later (from-first later extends);
          goes_on = (call, asks.is_call, answered_calls caller then call q answers a question.asks put.answered (right-kind after q a own));
        }
      where
        question : IsQuestion position.frame q caller then call
        question = question-of

        right : AreRightAnswers kept caller.program.answers
        right = subst (λ (p : Program). AreRightAnswers kept p.answers) (sym question.program) come.right

        grows : Extends caller.program.answers answers
        grows = new_answers caller.program.answers answers q a put (λ b is. question.unanswered b is (right-kind kept q b (right.each q b is)))

        from-first : (later : List (Query × Answer)) → Extends answers later → Extends position.frame.program.answers later
        from-first later extends other b is = extends other b (grows other b (subst (λ (p : Program). answer_to p.answers other ≡ Some b) (sym question.program) is))
