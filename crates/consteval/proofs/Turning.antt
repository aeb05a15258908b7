-- A machine over a run that is told what it asks.
use Rattle.std.proofs.Common.{◌≡◌, ◌≢◌, ℕ, ◌-◌, ◌<◌, ◌≤◌, ⊎_elim, inl, inr, [], Option, Some, None, Result, Ok, Err, refl, sym, ap, ◌∙◌, subst, arith}
use Rattle.std.specs.Prelude.{IsTrue}
use Rattle.world.specs.declared.database.HirDatabase.{HirDatabase}
use Rattle.world.specs.declared.limits.Limits.{Limits}
use Rattle.types.specs.declared.ids.DefWithBodyId.{DefWithBodyId}
use Rattle.types.specs.declared.ids.DefWithBodyId.TheVariants.{FunctionId as FunctionBody}
use Rattle.types.specs.declared.ty.Const.{Const}
use Rattle.mir.specs.declared.answers.Query.{Query}
use Rattle.mir.specs.declared.body.MirBody.{MirBody}
use Rattle.mir.specs.declared.errors.ConstEvalError.{ConstEvalError}
use Rattle.mir.specs.declared.errors.ConstEvalError.TheVariants as constant
use Rattle.mir.specs.declared.errors.MirEvalError.{MirEvalError}
use Rattle.mir.specs.declared.errors.MirEvalError as error
use Rattle.mir.specs.Memory.{Memory}
use Rattle.mir.specs.Run.{Program, Frame, Calling, Ending, Returned, Faulted, Asked, Ended, begun}
use Rattle.mir_eval.specs.declared.evaluator.Turned.TheVariants as turns
use Rattle.mir_eval.specs.Evaluators.{Goes, IsTold, has_stopped, in_state, is_going, is_over, outcome, turned, wanted_in}
use Rattle.mir_eval.specs.Machine.{Machine, Position, State, Fresh, Going, Asking, Over, Entry as BeforeBlock, AtCall, EndsIn, IsOver, RunsTo, blocks_left, end_of, outcome_from, outcome_of, pointer_bytes, turns_of, with_answers}
use Rattle.consteval.specs.Answers.{AnswersBody, carried}
use Rattle.consteval.specs.Kept.{HasBegun, IsRightAnswer, Kept, Stays, program_of, run_of}
use Rattle.consteval.specs.Questions.{AsksForBody, IsCarried, IsToldRightly}
use Rattle.consteval.proofs.Coming.{AsksFrom, HasCome, begun-telling, comes-first, comes-told, left-less, question-of}
use Rattle.consteval.proofs.Right.{all-right-stay}
use Rattle.mir_laws.specs.Questions.{telling}

-- a run of a definition's body, which has no parameters, began under limits
pub record HasStarted (world : HirDatabase) (def : DefWithBodyId) (body : MirBody) (limits : Limits) : Type 0 where
  pub pointers : pointer_bytes world def ≡ Some 8
  pub nests : 0 < limits.nesting
  pub start : Frame × Memory
  pub began : begun (program_of world limits []) body ≡ Ok start
  pub no_params : body.param_locals ≡ []

-- a machine's run of a body came to where it goes on
pub record IsOnItsWay (kept : Kept) (def : DefWithBodyId) (body : MirBody) (limits : Limits) (machine : Machine) : Type 0 where
  pub started : HasStarted kept.world def body limits
  pub blocks : machine.blocks ≡ limits.blocks
  pub position : Position
  pub come : HasCome kept body limits started.start position
  pub state : machine.state ≡ Going position

-- a machine's run of a body asks, from a position to which it came
pub record IsAsking (kept : Kept) (def : DefWithBodyId) (body : MirBody) (limits : Limits) (position : Position) (machine : Machine) : Type 0 where
  pub started : HasStarted kept.world def body limits
  pub blocks : machine.blocks ≡ limits.blocks
  pub come : HasCome kept body limits started.start position
  pub q : Query
  pub caller : Frame
  pub then : Memory
  pub call : Calling
  pub left : ℕ
  pub block : ℕ
  pub asks : AsksFrom position q caller then call left block
  pub state : machine.state ≡ Asking q (record { frame = caller; memory = then; point = AtCall block; left = left })

-- a run came where it is also where more is kept now
come-stays : (before after : Kept) → Stays before after → (body : MirBody) (limits : Limits) (start : Frame × Memory) (position : Position) → HasCome before body limits start position → HasCome after body limits start position
come-stays before after stays body limits start position come =
    record {
      program = come.program ∙ ap (λ world. program_of world limits position.frame.program.answers) (sym stays.world);
      first = come.first;
      right = all-right-stay before after stays position.frame.program.answers come.right;
      ends = come.ends;
      goes_on = come.goes_on;
    }

-- a machine that has begun
pub begins-on-its-way : (kept : Kept) (world : HirDatabase) (def : DefWithBodyId) (body : MirBody) (limits : Limits) (machine : Machine) → world ≡ kept.world → HasBegun world def body limits machine → IsOnItsWay kept def body limits machine
begins-on-its-way kept world def body limits machine same has = on (subst (λ w. HasBegun w def body limits machine) same has) where
  on : HasBegun kept.world def body limits machine → IsOnItsWay kept def body limits machine
  on has =
      record {
        started = record { pointers = has.pointers; nests = has.nests; start = has.start; began = has.began; no_params = has.no_params };
        blocks = has.blocks;
        position = record { frame = has.start.0; memory = has.start.1; point = BeforeBlock body.start_block.0; left = limits.blocks };
        come = comes-first kept body limits has.start has.began;
        state = has.state;
      }

pub way-goes : (kept : Kept) (def : DefWithBodyId) (body : MirBody) (limits : Limits) (machine : Machine) → IsOnItsWay kept def body limits machine → IsTrue (is_going machine.state)
way-goes kept def body limits machine way = subst (λ s. IsTrue (is_going s)) (sym way.state) refl

same-query : (q other : Query) → ◌≡◌ {A = Option Query} (Some q) (Some other) → q ≡ other
same-query q other h = cc

-- what a run for which memory ran out answers, which would have entered as many blocks as it has entered
module _ (kept : Kept) (def : DefWithBodyId) (body : MirBody) (limits : Limits) (position : Position) (started : HasStarted kept.world def body limits) (come : HasCome kept body limits started.start position) where
  -- the start of the run that was told at once what it was told on its way
  abbrev Start : Frame × Memory
  Start = (telling position.frame.program.answers started.start.0, started.start.1)

  same-end : run_of body Start limits.blocks ≡ end_of position
  same-end = sym (come.ends position.frame.program.answers (λ q a is. is))

  began-so : begun (program_of kept.world limits position.frame.program.answers) body ≡ Ok Start
  began-so = begun-telling (program_of kept.world limits []) body started.start position.frame.program.answers started.began

  answers-out : (entered : ℕ) (answer : Result Const ConstEvalError) → entered ≤ limits.blocks - (end_of position).left → answer ≡ Err constant.NoMemory → AnswersBody kept def body limits entered answer
  answers-out entered answer fewer is =
      inr (inr (record {
        pointers = started.pointers;
        nests = started.nests;
        answers = position.frame.program.answers;
        right = come.right;
        start = Start;
        began = began-so;
        no_params = started.no_params;
        entered = subst (λ (ended : Ended). entered ≤ limits.blocks - ended.left) (sym same-end) fewer;
        is = is;
      }))

  -- and one that came to its end
  answers-ended : (entered : ℕ) (result : Result Const MirEvalError) → outcome_from position.frame (end_of position).ending ≡ Some result → entered ≡ limits.blocks - (end_of position).left → AnswersBody kept def body limits entered (carried result)
  answers-ended entered result handed_out counts =
      inl (record {
        pointers = started.pointers;
        outcome = result;
        ran = record {
          nests = started.nests;
          answers = position.frame.program.answers;
          right = come.right;
          start = Start;
          began = began-so;
          no_params = started.no_params;
          ended =
              ap (λ (ended : Ended). outcome_of kept.world (limits.nesting - 1) body ended.ending) same-end
              ∙ sym (ap (λ (p : Program). outcome_of p.world (p.nesting - 1) body (end_of position).ending) come.program)
              ∙ sym (ap (λ (b : MirBody). outcome_of position.frame.program.world (position.frame.program.nesting - 1) b (end_of position).ending) come.first)
              ∙ handed_out;
          entered = counts ∙ sym (ap (λ (ended : Ended). limits.blocks - ended.left) same-end);
        };
        is = refl;
      })

-- a machine that ran from where its run came to
module _ (kept : Kept) (def : DefWithBodyId) (body : MirBody) (limits : Limits) (before after : Machine) (way : IsOnItsWay kept def body limits before) (ran : Goes before.state RunsTo after.state) (same : after ≡ in_state after.state before) where
  ran-to : RunsTo way.position after.state
  ran-to = subst (λ s. Goes s RunsTo after.state) way.state ran

  same-blocks : after.blocks ≡ limits.blocks
  same-blocks = ap (λ (m : Machine). m.blocks) same ∙ way.blocks

  is-no-question : (result : Result Const MirEvalError) (left : ℕ) → after.state ≡ Over result left → turned after.state ≡ turns.Ask → ⊥
  is-no-question (Ok konst) left is asks = let both : turns.Done ≡ turns.Ask = sym (ap turned is) ∙ asks in cc
  is-no-question (Err e) left is asks = let both : turns.Fault ≡ turns.Ask = sym (ap turned is) ∙ asks in cc

  asking-by : (ending : Ending) (left : ℕ) → end_of way.position ≡ record { ending = ending; left = left } → EndsIn way.position.frame (record { ending = ending; left = left }) after.state → turned after.state ≡ turns.Ask → IsAsking kept def body limits way.position after
  asking-by (Returned bytes) left ends over asks = absurd (is-no-question over.result left over.state_is asks)
  asking-by (Faulted e trail) left ends over asks = absurd (is-no-question over.result left over.state_is asks)
  asking-by (Asked q caller then call) left ends waits asks =
      record {
        started = way.started;
        blocks = same-blocks;
        come = way.come;
        q = q;
        caller = caller;
        then = then;
        call = call;
        left = left;
        block = waits.block;
        asks = record { ends = ends; is_call = waits.is_call };
        state = waits.state_is;
      }

  -- a machine that turned out to ask
  pub asks-now : turned after.state ≡ turns.Ask → IsAsking kept def body limits way.position after
  asks-now asks =
      ⊎_elim (λ ends. asking-by (end_of way.position).ending (end_of way.position).left refl ends asks)
      (λ out. absurd (is-no-question (Err error.NoMemory) out.0 out.2 asks)) ran-to

  -- and one that turned out not to is over
  pub is-over-now : IsTrue (has_stopped after.state) → turned after.state ≢ turns.Ask → IsTrue (is_over after.state)
  is-over-now stopped asks_not = by after.state stopped asks_not where
    by : (state : State) → IsTrue (has_stopped state) → turned state ≢ turns.Ask → IsTrue (is_over state)
    by Fresh stopped asks_not = absurd cc
    by (Going position) stopped asks_not = absurd cc
    by (Asking q position) stopped asks_not = absurd (asks_not refl)
    by (Over result left) stopped asks_not = refl

  counted : (result : Result Const MirEvalError) (left entered : ℕ) → after.state ≡ Over result left → entered ≡ turns_of after → entered ≡ limits.blocks - left
  counted result left entered is counts = counts ∙ ap (λ s. after.blocks - blocks_left after.blocks s) is ∙ ap (λ n. n - left) same-blocks

  handed-out : (result : Result Const MirEvalError) (left : ℕ) (answer : Result Const ConstEvalError) → after.state ≡ Over result left → IsCarried after.state answer → answer ≡ carried result
  handed-out result left answer is out =
      let both : ◌≡◌ {A = Option (Result Const MirEvalError)} (Some out.0) (Some result) = sym out.1 ∙ ap outcome is in
      let one : out.0 ≡ result = cc in
      out.2 ∙ ap carried one

  answers-over : (ending : Ending) (left entered : ℕ) (answer : Result Const ConstEvalError) → end_of way.position ≡ record { ending = ending; left = left } → IsOver way.position.frame ending left after.state → IsCarried after.state answer → entered ≡ turns_of after → AnswersBody kept def body limits entered answer
  answers-over ending left entered answer ends over out counts =
      subst (AnswersBody kept def body limits entered) (sym (handed-out over.result left answer over.state_is out))
      (answers-ended kept def body limits way.position way.started way.come entered over.result
      (ap (λ (ended : Ended). outcome_from way.position.frame ended.ending) ends ∙ over.outcome)
      (counted over.result left entered over.state_is counts ∙ sym (ap (λ (ended : Ended). limits.blocks - ended.left) ends)))

  answers-by : (ending : Ending) (left entered : ℕ) (answer : Result Const ConstEvalError) → end_of way.position ≡ record { ending = ending; left = left } → EndsIn way.position.frame (record { ending = ending; left = left }) after.state → IsCarried after.state answer → entered ≡ turns_of after → AnswersBody kept def body limits entered answer
  answers-by (Returned bytes) left entered answer ends over out counts = answers-over (Returned bytes) left entered answer ends over out counts
  answers-by (Faulted e trail) left entered answer ends over out counts = answers-over (Faulted e trail) left entered answer ends over out counts
  answers-by (Asked q caller then call) left entered answer ends waits out counts = absurd (let both : None ≡ Some out.0 = sym (ap outcome waits.state_is) ∙ out.1 in cc)

  -- what a machine answers that is over
  pub answers-now : (entered : ℕ) (answer : Result Const ConstEvalError) → IsCarried after.state answer → entered ≡ turns_of after → AnswersBody kept def body limits entered answer
  answers-now entered answer out counts =
      ⊎_elim (λ ends. answers-by (end_of way.position).ending (end_of way.position).left entered answer refl ends out counts)
      (λ ran_out. answers-out kept def body limits way.position way.started way.come entered answer
      (let fewer = ran_out.1 in let counts_so = counted (Err error.NoMemory) ran_out.0 entered ran_out.2 counts in omega arith)
      (handed-out (Err error.NoMemory) ran_out.0 answer ran_out.2 out)) ran-to

-- how many blocks a run has left at least
left-at-least : (blocks : ℕ) (state : State) → blocks_left 0 state ≤ blocks_left blocks state
left-at-least blocks Fresh = omega arith
left-at-least blocks (Going position) = omega arith
left-at-least blocks (Asking q position) = omega arith
left-at-least blocks (Over result left) = omega arith

-- what a run that is on its way has left
pub way-left : (kept : Kept) (def : DefWithBodyId) (body : MirBody) (limits : Limits) (machine : Machine) (way : IsOnItsWay kept def body limits machine) → blocks_left 0 machine.state ≡ way.position.left
way-left kept def body limits machine way = ap (blocks_left 0) way.state

-- a machine that asks
module _ (kept : Kept) (def : DefWithBodyId) (body : MirBody) (limits : Limits) (position : Position) (before : Machine) (asking : IsAsking kept def body limits position before) where
  -- it asks for a body
  pub asks-for-body : AsksForBody before.state
  asks-for-body =
      let question = question-of kept body limits asking.started.start position asking.come asking.q asking.caller asking.then asking.call asking.left asking.block asking.asks in
      (FunctionBody question.callee.0, question.callee.1, ap wanted_in asking.state ∙ ap Some question.wanted)

  asks-less : asking.left < position.left
  asks-less = left-less kept body limits asking.started.start position asking.come asking.q asking.caller asking.then asking.call asking.left asking.block asking.asks

  module _ (later : Kept) (stays : Stays kept later) (after : Machine) (same : after ≡ in_state after.state before) where
    now-blocks : after.blocks ≡ limits.blocks
    now-blocks = ap (λ (m : Machine). m.blocks) same ∙ asking.blocks

    module _ (told : IsToldRightly later before.state after.state) where
      goes-on : IsTold (Asking asking.q (record { frame = asking.caller; memory = asking.then; point = AtCall asking.block; left = asking.left })) told.answer after.state
      goes-on = subst (λ s. IsTold s told.answer after.state) asking.state told.told

      own-answer : IsRightAnswer later asking.q told.answer
      own-answer = subst (λ q. IsRightAnswer later q told.answer) (same-query told.q asking.q (sym told.wanted ∙ ap wanted_in asking.state)) told.right

      -- once it was told, its run goes on
      pub told-on-its-way : IsOnItsWay later def body limits after
      told-on-its-way =
          let started = asking.started in
          record {
            started = record {
              pointers = ap (λ world. pointer_bytes world def) stays.world ∙ started.pointers;
              nests = started.nests;
              start = started.start;
              began = ap (λ world. begun (program_of world limits []) body) stays.world ∙ started.began;
              no_params = started.no_params;
            };
            blocks = now-blocks;
            position = with_answers goes-on.0 (record { frame = asking.caller; memory = asking.then; point = AtCall asking.block; left = asking.left });
            come = comes-told kept body limits started.start position asking.come asking.q asking.caller asking.then asking.call asking.left asking.block asking.asks later goes-on.0 told.answer stays own-answer goes-on.1;
            state = goes-on.2;
          }

      -- and it has fewer blocks left
      pub told-less : blocks_left 0 after.state < position.left
      told-less = subst (λ left. left < position.left) (sym (ap (blocks_left 0) goes-on.2)) asks-less

    -- where memory ran out it answers that
    pub answers-exhausted : (entered : ℕ) (answer : Result Const ConstEvalError) → blocks_left 0 after.state ≡ blocks_left 0 before.state → entered ≡ turns_of after → answer ≡ Err constant.NoMemory → AnswersBody later def body limits entered answer
    answers-exhausted entered answer left counts is =
        let started = asking.started in
        let asks = asking.asks in
        let had : blocks_left 0 before.state ≡ asking.left = ap (blocks_left 0) asking.state in
        let end : (end_of position).left ≡ asking.left = ap (λ (ended : Ended). ended.left) asks.ends in
        let least = left-at-least after.blocks after.state in
        let limit = now-blocks in
        answers-out later def body limits position
        (record {
          pointers = ap (λ world. pointer_bytes world def) stays.world ∙ started.pointers;
          nests = started.nests;
          start = started.start;
          began = ap (λ world. begun (program_of world limits []) body) stays.world ∙ started.began;
          no_params = started.no_params;
        })
        (come-stays kept later stays body limits started.start position asking.come) entered answer (omega arith) is
