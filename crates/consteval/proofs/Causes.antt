-- The causes of answers, over what is kept.
use Rattle.std.proofs.Common.{◌≡◌, ◌-◌, ℕ, ◌⊎◌, ⊎_elim, inl, inr, false, [], Result, Ok, Err, refl, sym, ap, ◌∙◌, subst, arith}
use Rattle.std.specs.Prelude.{Contains, IfOk}
use Rattle.world.specs.declared.database.HirDatabase.{HirDatabase}
use Rattle.world.specs.declared.limits.Limits.{Limits}
use Rattle.types.specs.declared.ids.DefWithBodyId.{DefWithBodyId}
use Rattle.types.specs.declared.ty.Const.{Const}
use Rattle.types.specs.declared.ty.GenericArgs.{GenericArgs}
use Rattle.mir.specs.declared.body.MirBody.{MirBody}
use Rattle.mir.specs.declared.errors.ConstEvalError.{ConstEvalError}
use Rattle.mir.specs.declared.errors.ConstEvalError.TheVariants as constant
use Rattle.mir.specs.declared.errors.MirEvalError.{MirEvalError}
use Rattle.mir.specs.declared.errors.MirEvalError as error
use Rattle.mir.specs.declared.errors.MirLowerError.{MirLowerError}
use Rattle.mir.specs.declared.errors.MirLowerError.TheVariants as refusal
use Rattle.mir.specs.Errors.{from_lower_error}
use Rattle.mir.specs.Run.{begun}
use Rattle.mir_eval.specs.Machine.{outcome_of, pointer_bytes}
use Rattle.consteval.specs.Answers.{AnswersBody, AnswersKept, HasCause, NeverBegins, NeverLowered, RunsOut, RunsTo, carried}
use Rattle.consteval.specs.Refusals.{RefusesBody}
use Rattle.consteval.specs.Built.{is_unbuilt}
use Rattle.consteval.specs.Kept.{Entry, IsLowered, IsSound, IsValueOf, Kept, Lowered, Value, Ran, RestsOn, Stays, program_of, run_of}
use Rattle.consteval.proofs.Built.{built-without-args}
use Rattle.consteval.proofs.Keeping.{contains-stays, kept-body-lowered}
use Rattle.consteval.proofs.Right.{all-right-stay}

-- a refusal to lower a body
pub cause-refused : (kept : Kept) (world : HirDatabase) (def : DefWithBodyId) (args : GenericArgs) (limits : Limits) (e : MirLowerError) → kept.world ≡ world → (e ≡ refusal.NoMemory) ⊎ RefusesBody world def args e → HasCause kept def args limits 0 (Err (from_lower_error e))
cause-refused kept world def args limits e same refuses =
    inr (record { none = refl; fault = e; is = refl; refuses = subst (λ w. (e ≡ refusal.NoMemory) ⊎ RefusesBody w def args e) (sym same) refuses })

-- an answer of a kept body
pub cause-answered : (kept : Kept) (def : DefWithBodyId) (args : GenericArgs) (limits : Limits) (turns : ℕ) (body : MirBody) (answer : Result Const ConstEvalError) → IsSound kept → args.0 ≡ [] → Contains kept.entries (Lowered def body) → AnswersBody kept def body limits turns answer → HasCause kept def args limits turns answer
cause-answered kept def args limits turns body answer sound given found answers =
    let lowered = kept-body-lowered kept sound def body found in
    inl (record {
      built = built-without-args kept.world def args given lowered.built;
      body = body;
      found = found;
      lowered = lowered;
      answers = answers;
    })

module _ (before after : Kept) (stays : Stays before after) where
  -- a run that goes by what is kept is one where more is kept
  pub ran-stays : (body : MirBody) (limits : Limits) (turns : ℕ) (outcome : Result Const MirEvalError) → Ran before body limits turns outcome → Ran after body limits turns outcome
  ran-stays body limits turns outcome ran =
      record {
        nests = ran.nests;
        answers = ran.answers;
        right = all-right-stay before after stays ran.answers ran.right;
        start = ran.start;
        began = ap (λ world. begun (program_of world limits ran.answers) body) stays.world ∙ ran.began;
        no_params = ran.no_params;
        ended = ap (λ (world : HirDatabase). outcome_of world (limits.nesting - 1) body (run_of body ran.start limits.blocks).ending) stays.world ∙ ran.ended;
        entered = ran.entered;
      }

  -- and so what a run returned is a value of its definition
  pub value-stays : (def : DefWithBodyId) (konst : Const) → IsValueOf before def konst → IsValueOf after def konst
  value-stays def konst value =
      record {
        body = value.body;
        from = contains-stays before after stays (Lowered def value.body) value.from;
        limits = value.limits;
        turns = value.turns;
        ran = ran-stays value.body value.limits value.turns (Ok konst) value.ran;
      }

  -- each answer that rests on what is kept rests on it where more is kept
  pub rests-stays : (entry : Entry) → RestsOn before entry → RestsOn after entry
  rests-stays (Lowered def body) rests = subst (λ world. IsLowered world def body) (sym stays.world) rests
  rests-stays (Value def konst) rests = value-stays def konst rests

  module _ (def : DefWithBodyId) (body : MirBody) (limits : Limits) (turns : ℕ) (answer : Result Const ConstEvalError) where
    runs-stay : RunsTo before def body limits turns answer → RunsTo after def body limits turns answer
    runs-stay runs =
        record {
          pointers = ap (λ world. pointer_bytes world def) stays.world ∙ runs.pointers;
          outcome = runs.outcome;
          ran = ran-stays body limits turns runs.outcome runs.ran;
          is = runs.is;
        }

    out-stays : RunsOut before def body limits turns answer → RunsOut after def body limits turns answer
    out-stays out =
        record {
          pointers = ap (λ world. pointer_bytes world def) stays.world ∙ out.pointers;
          nests = out.nests;
          answers = out.answers;
          right = all-right-stay before after stays out.answers out.right;
          start = out.start;
          began = ap (λ world. begun (program_of world limits out.answers) body) stays.world ∙ out.began;
          no_params = out.no_params;
          entered = out.entered;
          is = out.is;
        }

    body-stays : AnswersBody before def body limits turns answer → AnswersBody after def body limits turns answer
    body-stays =
        ⊎_elim (λ runs. inl (runs-stay runs))
        (⊎_elim (λ never. inr (inl (subst (λ world. NeverBegins world def body limits turns answer) (sym stays.world) never))) (λ out. inr (inr (out-stays out))))

module _ (before after : Kept) (stays : Stays before after) (def : DefWithBodyId) (args : GenericArgs) (limits : Limits) (turns : ℕ) where
  answers-stay : (answer : Result Const ConstEvalError) → AnswersKept before def args limits turns answer → AnswersKept after def args limits turns answer
  answers-stay answer answers =
      record {
        built = subst (λ w. is_unbuilt w def args ≡ false) (sym stays.world) answers.built;
        body = answers.body;
        found = contains-stays before after stays (Lowered def answers.body) answers.found;
        lowered = subst (λ w. IsLowered w def answers.body) (sym stays.world) answers.lowered;
        answers = body-stays before after stays def answers.body limits turns answer answers.answers;
      }

  -- a cause stays one where more is kept
  pub cause-stays : (answer : Result Const ConstEvalError) → HasCause before def args limits turns answer → HasCause after def args limits turns answer
  cause-stays answer =
      ⊎_elim (λ answers. inl (answers-stay answer answers)) (λ refused. inr (subst (λ w. NeverLowered w def args turns answer) (sym stays.world) refused))

  -- where memory runs out once an answer is there, no more blocks were entered
  body-out : (body : MirBody) (answer : Result Const ConstEvalError) → AnswersBody before def body limits turns answer → AnswersBody before def body limits turns (Err constant.NoMemory)
  body-out body answer =
      ⊎_elim
      (λ runs. inr (inr (record {
        pointers = runs.pointers;
        nests = runs.ran.nests;
        answers = runs.ran.answers;
        right = runs.ran.right;
        start = runs.ran.start;
        began = runs.ran.began;
        no_params = runs.ran.no_params;
        entered = (let is = runs.ran.entered in omega arith);
        is = refl;
      })))
      (⊎_elim (λ never. inr (inl (record { none = never.none; fault = error.NoMemory; is = refl; refuses = inl refl })))
      (λ out. inr (inr (record { pointers = out.pointers; nests = out.nests; answers = out.answers; right = out.right; start = out.start; began = out.began; no_params = out.no_params; entered = out.entered; is = refl }))))

  pub cause-out : (answer : Result Const ConstEvalError) → HasCause before def args limits turns answer → HasCause after def args limits turns (Err constant.NoMemory)
  cause-out answer cause =
      cause-stays (Err constant.NoMemory)
      (⊎_elim (λ answers. inl (record {
        built = answers.built;
        body = answers.body;
        found = answers.found;
        lowered = answers.lowered;
        answers = body-out answers.body answer answers.answers;
      }))
      (λ refused. inr (record { none = refused.none; fault = refusal.NoMemory; is = refl; refuses = inl refl })) cause)

-- a value that is carried is the outcome's
pub carried-value : (outcome : Result Const MirEvalError) (konst : Const) → ◌≡◌ {A = Result Const ConstEvalError} (Ok konst) (carried outcome) → Ok konst ≡ outcome
carried-value (Ok value) konst h = let same : konst ≡ value = cc in ap Ok same
carried-value (Err e) konst h = absurd cc

-- a value that is answered is what a run of the kept body returned
pub cause-value : (kept : Kept) (def : DefWithBodyId) (args : GenericArgs) (limits : Limits) (turns : ℕ) (answer : Result Const ConstEvalError) → HasCause kept def args limits turns answer → IfOk answer (IsValueOf kept def)
cause-value kept def args limits turns (Err e) cause = tt
cause-value kept def args limits turns (Ok konst) cause = ⊎_elim (λ answers. by-body answers.body answers.found answers.answers) (λ refused. let is = refused.is in absurd cc) cause where
  by-body : (body : MirBody) → Contains kept.entries (Lowered def body) → AnswersBody kept def body limits turns (Ok konst) → IsValueOf kept def konst
  by-body body found =
      ⊎_elim
      (λ runs. record {
        body = body;
        from = found;
        limits = limits;
        turns = turns;
        ran = subst (Ran kept body limits turns) (sym (carried-value runs.outcome konst runs.is)) runs.ran;
      })
      (⊎_elim (λ never. let is = never.is in absurd cc) (λ out. let is = out.is in absurd cc))
