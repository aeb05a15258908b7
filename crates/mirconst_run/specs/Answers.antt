-- The outcomes of the evaluations of goals. A goal is a definition whose body is to be evaluated as a constant, with generic
-- arguments and with limits on the evaluation.
use Rattle.std.specs.Prelude.{◌≡◌, ◌≤◌, ℕ, Bool, true, false, List, [], ◌∷◌, Result, Ok, Err, Some, Contains, IfErr, IsOk, is_ok, unwrap_or}
use Rattle.mir.specs.declared.errors.ConstEvalError.{ConstEvalError}
use Rattle.mir.specs.declared.errors.ConstEvalError.TheVariants as constant
use Rattle.mir.specs.declared.errors.MirEvalError.{MirEvalError}
use Rattle.world.specs.Limits.{default_limits}
use Rattle.world.specs.declared.limits.Limits.{Limits}
use Rattle.consteval.specs.Kept.{Kept, IsSound, Stays, Value}
use Rattle.consteval.specs.Sources.{source_of}
use Rattle.consteval.specs.Valid.{IsValid}
use Rattle.consteval.specs.Answers.{GivesValue, CountsBlocks, GivesPanic, GivesUndefined, AnswersWithin, AnswersEndless, HasNoEnd, EndsIn, HasCause, panic_word, undefined_text}
use Rattle.consteval.specs.declared.evaluated.Evaluated.{Evaluated}
use Rattle.world.specs.declared.database.BodyRow.{BodyRow}
use Rattle.world.specs.declared.database.HirDatabase.{HirDatabase}
use Rattle.types.specs.declared.ids.DefWithBodyId.{DefWithBodyId}
use Rattle.types.specs.declared.ty.Const.{Const}
use Rattle.types.specs.declared.ty.GenericArgs.{GenericArgs}
use Rattle.world_json.specs.declared.goal.Goal.{Goal}

-- the outcome of evaluating a definition under limits, with the lowered bodies and the values that are kept, for later evaluations to
-- take over, before and after it
pub record IsAnswer (before after : Kept) (def : DefWithBodyId) (args : GenericArgs) (limits : Limits) (answer : Evaluated) : Type 0 where
  pub printed : answer.output ≡ ([], [])
  pub value : (row : BodyRow) (konst : Const) → IsValid before.world def args row → answer.result ≡ Ok konst →
      GivesValue (source_of before.world row) konst
  pub counts : (row : BodyRow) (konst : Const) → IsValid before.world def args row → answer.result ≡ Ok konst →
      CountsBlocks (source_of before.world row) answer.turns
  pub panic : (row : BodyRow) (e : MirEvalError) (word : List ℕ) → IsValid before.world def args row →
      answer.result ≡ Err (constant.MirEvalError e) → panic_word e ≡ Some word → GivesPanic (source_of before.world row) word
  pub undefined : (row : BodyRow) (e : MirEvalError) (text : List ℕ) → IsValid before.world def args row →
      answer.result ≡ Err (constant.MirEvalError e) → undefined_text e ≡ Some text → GivesUndefined (source_of before.world row) text
  pub closed : (row : BodyRow) → IsValid before.world def args row → IfErr answer.result (EndsIn (source_of before.world row) limits)
  pub complete : (row : BodyRow) → IsValid before.world def args row → AnswersWithin (source_of before.world row) limits answer.result
  pub endless : (row : BodyRow) → IsValid before.world def args row → HasNoEnd (source_of before.world row) → AnswersEndless (source_of before.world row) limits answer.result
  pub cause : HasCause after def args limits answer.turns answer.result
  pub turns : answer.turns ≤ limits.blocks
  pub stays : Stays before after
  pub kept : IsOk answer.result → (konst : Const) × Contains after.entries (Value def konst)
  pub sound : IsSound after

-- whether an evaluation ended since memory ran out
abbrev pub is_want_of_memory : Result Const ConstEvalError → Bool
is_want_of_memory (Ok konst) = false
is_want_of_memory (Err constant.NoMemory) = true
is_want_of_memory (Err (constant.MirLowerError error)) = false
is_want_of_memory (Err (constant.MirEvalError error)) = false

-- the limits on the evaluation of a goal, or the default ones where it has none
abbrev pub limits_of : Goal → Limits
limits_of goal = unwrap_or goal.limits default_limits

-- the outcome of evaluating a goal under its limits, where memory did not run out
pub record IsGoalAnswer (before after : Kept) (goal : Goal) (answer : Evaluated) : Type 0 where
  pub answers : IsAnswer before after goal.def goal.args (limits_of goal) answer
  pub in_memory : is_want_of_memory answer.result ≡ false

-- the outcomes of evaluating goals in order; each evaluation begins with the lowered bodies and the values that are kept after the one
-- before
abbrev pub AreAnswers : Kept → List Goal → List Evaluated → Kept → Type 0
AreAnswers before [] [] after = before ≡ after
AreAnswers before [] (answer ∷ answers) after = ⊥
AreAnswers before (goal ∷ goals) [] after = ⊥
AreAnswers before (goal ∷ goals) (answer ∷ answers) after =
    (between : Kept) × IsGoalAnswer before between goal answer × AreAnswers between goals answers after

-- a world of which no lowered body and no value is kept yet
abbrev pub nothing_kept : HirDatabase → Kept
nothing_kept world = record { world = world; entries = [] }

-- whether an evaluation gave a value
abbrev pub has_value : Evaluated → Bool
has_value answer = is_ok answer.result
