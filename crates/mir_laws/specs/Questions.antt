-- The questions of a run: when it asks, and how it goes on with the answers.
use Rattle.std.specs.Prelude.{◌≡◌, ◌≢◌, ℕ, ◌<◌, List, Some, IsTrue, true}
use Rattle.types.specs.declared.ids.FunctionId.{FunctionId}
use Rattle.types.specs.declared.ty.GenericArgs.{GenericArgs}
use Rattle.mir.specs.Answers.{IsAfterPut, answer_to, answers_kind}
use Rattle.mir.specs.declared.answers.Answer.{Answer}
use Rattle.mir.specs.declared.answers.Query.{Query}
use Rattle.mir.specs.Memory.{Memory}
use Rattle.mir.specs.Run.{Frame, Calling, Returned, Faulted, Asked, Ending, Next, Stops, GoesTo, Asks, Ended, entering, going_on, calls, body_query}

-- the frame of a run that was told these answers instead
abbrev pub telling : List (Query × Answer) → Frame → Frame
telling answers frame = record frame { program = record frame.program { answers = answers } }

-- each query that has an answer has the same one later
abbrev pub Extends : List (Query × Answer) → List (Query × Answer) → Type 0
Extends before later = (q : Query) (a : Answer) → answer_to before q ≡ Some a → answer_to later q ≡ Some a

-- a run ended at a call, with a query that it wasn't told an answer to, and may still enter `left` blocks
pub record HasAsked (ended : Ended) (q : Query) (frame : Frame) (memory : Memory) (call : Calling) (left : ℕ) : Type 0 where
  pub is : ended ≡ record { ending = Asked q frame memory call; left = left }

-- an end that isn't at a query
abbrev pub DidNotAsk : Ending → Type 0
DidNotAsk (Returned bytes) = Unit {0}
DidNotAsk (Faulted e trail) = Unit {0}
DidNotAsk (Asked q frame memory call) = ⊥

-- a call that asks for nothing
abbrev pub AsksNothing : Next → Type 0
AsksNothing (Stops ending) = Unit {0}
AsksNothing (GoesTo frame memory block) = Unit {0}
AsksNothing (Asks q frame memory call) = ⊥

-- A run that asked would, with more answers, come to the same call over the same blocks, and go on there: also a run that goes on from a call.
pub record MoreAnswersGoOn : Type 0 where
  pub from_entry : (budget : ℕ) (frame : Frame) (memory : Memory) (block : ℕ) (later : List (Query × Answer)) (q : Query) (caller : Frame) (then : Memory) (call : Calling) (left : ℕ) →
      HasAsked (entering budget frame memory block) q caller then call left → Extends frame.program.answers later →
      entering budget (telling later frame) memory block ≡ going_on left (calls (telling later caller) then call)
  pub from_call : (budget : ℕ) (frame : Frame) (memory : Memory) (first : Calling) (later : List (Query × Answer)) (q : Query) (caller : Frame) (then : Memory) (call : Calling) (left : ℕ) →
      HasAsked (going_on budget (calls frame memory first)) q caller then call left → Extends frame.program.answers later →
      going_on budget (calls (telling later frame) memory first) ≡ going_on left (calls (telling later caller) then call)

-- A run that ended, and didn't ask, ends the same with more answers, and with as many blocks left: also a run that goes on from a call.
pub record AnswersChangeNoEnd : Type 0 where
  pub from_entry : (budget : ℕ) (frame : Frame) (memory : Memory) (block : ℕ) (later : List (Query × Answer)) →
      DidNotAsk (entering budget frame memory block).ending → Extends frame.program.answers later →
      entering budget (telling later frame) memory block ≡ entering budget frame memory block
  pub from_call : (budget : ℕ) (frame : Frame) (memory : Memory) (first : Calling) (later : List (Query × Answer)) →
      DidNotAsk (going_on budget (calls frame memory first)).ending → Extends frame.program.answers later →
      going_on budget (calls (telling later frame) memory first) ≡ going_on budget (calls frame memory first)

-- what is known of a query that a run asked at a call: it is for the body of a function, it has no answer of the kind that it wants, and the
-- run goes by the same program
pub record IsQuestion (start : Frame) (q : Query) (caller : Frame) (then : Memory) (call : Calling) : Type 0 where
  pub callee : FunctionId × GenericArgs
  pub wanted : q ≡ body_query callee
  pub unanswered : (a : Answer) → answer_to caller.program.answers q ≡ Some a → answers_kind q a ≢ true
  pub asks : calls caller then call ≡ Asks q caller then call
  pub program : caller.program ≡ start.program

pub record QuestionsAreCalls : Type 0 where
  pub from_entry : (budget : ℕ) (frame : Frame) (memory : Memory) (block : ℕ) (q : Query) (caller : Frame) (then : Memory) (call : Calling) (left : ℕ) →
      HasAsked (entering budget frame memory block) q caller then call left → IsQuestion frame q caller then call
  pub from_call : (budget : ℕ) (frame : Frame) (memory : Memory) (first : Calling) (q : Query) (caller : Frame) (then : Memory) (call : Calling) (left : ℕ) →
      HasAsked (going_on budget (calls frame memory first)) q caller then call left → IsQuestion frame q caller then call

-- before it asks, a run enters a block; where it goes on from a call, then if that call asks for nothing
pub record QuestionsTakeBlocks : Type 0 where
  pub from_entry : (budget : ℕ) (frame : Frame) (memory : Memory) (block : ℕ) (q : Query) (caller : Frame) (then : Memory) (call : Calling) (left : ℕ) →
      HasAsked (entering budget frame memory block) q caller then call left → left < budget
  pub from_call : (budget : ℕ) (frame : Frame) (memory : Memory) (first : Calling) (q : Query) (caller : Frame) (then : Memory) (call : Calling) (left : ℕ) →
      HasAsked (going_on budget (calls frame memory first)) q caller then call left → AsksNothing (calls frame memory first) → left < budget

-- a call that asked, and whose query has an answer of its kind later, asks for nothing then
abbrev pub AnsweredCallsGoOn : Type 0
AnsweredCallsGoOn =
    (frame : Frame) (memory : Memory) (call : Calling) (q : Query) (later : List (Query × Answer)) (a : Answer) →
    calls frame memory call ≡ Asks q frame memory call → answer_to later q ≡ Some a → IsTrue (answers_kind q a) → AsksNothing (calls (telling later frame) memory call)

-- answers to which one was put, for a query that had none, keep each answer that there was
abbrev pub NewAnswersExtend : Type 0
NewAnswersExtend =
    (before after : List (Query × Answer)) (q : Query) (a : Answer) → IsAfterPut before after q a → ((b : Answer) → answer_to before q ≢ Some b) → Extends before after
