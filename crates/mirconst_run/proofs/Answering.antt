-- The outcomes of evaluating goals, one after another.
use Rattle.std.proofs.Common.{◌≡◌, ◌∙◌, ℕ, zero, suc, cond, ◌+◌, ◌<◌, ◌≤◌, List, [], ◌∷◌, ◌++◌, length, get_or, take, refl, sym, subst, arith}
use Rattle.std.proofs.lemmas.Bool.Decides.{nat_tests}
use Rattle.std.proofs.lemmas.Iterator.Adapters.{position_from-zero}
use Rattle.std.proofs.lemmas.List.{take_more}
use Rattle.std.specs.List.{position_from}
use Rattle.consteval.specs.Kept.{Kept}
use Rattle.consteval.specs.declared.evaluated.Evaluated.{Evaluated}
use Rattle.world_json.specs.declared.goal.Goal.{Goal}
use Rattle.mirconst_run.specs.Answers.{AreAnswers, IsAnswer, IsGoalAnswer, is_want_of_memory, limits_of, nothing_kept}
use Rattle.mirconst_input.specs.Goals.{are_within, is_misfit, is_variant}
use Rattle.world.specs.Limits.{IsWithin, is_within}
use Rattle.world.specs.declared.limits.Limits.{Limits}
use Rattle.check_names.specs.Known.{are_args_known, is_def_known}
use Rattle.std.specs.Prelude.{Bool, true, false, Some, None, not, ◌&&◌, ◌||◌, ◌^◌, nat_le, position}
use Rattle.world.specs.declared.database.HirDatabase.{HirDatabase}

-- the outcomes of evaluating goals, followed by the outcome of evaluating one more
last_too : (before between after : Kept) (goals : List Goal) (answers : List Evaluated) (goal : Goal) (answer : Evaluated) →
    AreAnswers before goals answers between → IsGoalAnswer between after goal answer → AreAnswers before (goals ++ goal ∷ []) (answers ++ answer ∷ []) after
last_too before between after [] [] goal answer same one =
    (after, subst (λ (kept : Kept). IsGoalAnswer kept after goal answer) (sym same) one, refl)
last_too before between after [] (a ∷ answers) goal answer same one = absurd same
last_too before between after (g ∷ goals) [] goal answer same one = absurd same
last_too before between after (g ∷ goals) (a ∷ answers) goal answer (next, first, others) one =
    (next, first, last_too next between after goals answers goal answer others one)

pub one_more : (before between after : Kept) (goals : List Goal) (answers answers' : List Evaluated) (i : ℕ) (d : Goal) (answer : Evaluated) →
    i < length goals → answers' ≡ answers ++ answer ∷ [] → AreAnswers before (take i goals) answers between →
    IsGoalAnswer between after (get_or goals i d) answer → AreAnswers before (take (i + 1) goals) answers' after
one_more before between after goals answers answers' i d answer within more firsts one =
    let whole = last_too before between after (take i goals) answers (get_or goals i d) answer firsts one in
    rw (take_more goals i d within, more) whole

-- the outcomes of evaluations of which the first began with no lowered body and no value kept
pub from_nothing : (world : HirDatabase) (before after : Kept) (goals : List Goal) (answers : List Evaluated) → before ≡ nothing_kept world →
    AreAnswers before goals answers after → (after : Kept) × AreAnswers (nothing_kept world) goals answers after
from_nothing world before after goals answers same are = (after, subst (λ (kept : Kept). AreAnswers kept goals answers after) same are)

-- the outcome of evaluating the definition of a goal under the goal's limits is the outcome of the goal
pub goal_answer : (before after : Kept) (goal : Goal) (limits : Limits) (answer : Evaluated) → limits ≡ limits_of goal →
    IsAnswer before after goal.def goal.args limits answer → is_want_of_memory answer.result ≡ false → IsGoalAnswer before after goal answer
goal_answer before after goal limits answer same answers in_memory = record {
  answers = subst (λ (under : Limits). IsAnswer before after goal.def goal.args under answer) same answers;
  in_memory = in_memory;
}

both_hold : (one other : Bool) → (one && other) ≡ true → (one ≡ true) × (other ≡ true)
both_hold true other is = (refl, is)
both_hold false other is = cc

le_from_test : (a b : ℕ) → nat_le a b ≡ true → a ≤ b
le_from_test a b is = grind (arith, nat_tests)

-- limits that pass the test are at most the greatest ones
pub within : (limits : Limits) → is_within limits ≡ true → IsWithin limits
within limits is =
    let last = both_hold (nat_le limits.blocks (2 ^ 63) && nat_le limits.nesting 1000) (nat_le limits.bytes (2 ^ 59)) is in
    let first = both_hold (nat_le limits.blocks (2 ^ 63)) (nat_le limits.nesting 1000) last.0 in
    record {
      blocks = le_from_test limits.blocks (2 ^ 63) first.0;
      nesting = le_from_test limits.nesting 1000 first.1;
      bytes = le_from_test limits.bytes (2 ^ 59) last.1;
    }

-- where no goal is wrong, each has limits that are at most the greatest ones
fits : (variant unknown foreign within : Bool) → (variant || unknown || foreign || not within) ≡ false → within ≡ true
fits false false false true is = refl
fits false false false false is = cc
fits false false true within is = cc
fits false true foreign within is = cc
fits true unknown foreign within is = cc

none_from : {X : Type 0} (test : X → Bool) (k : ℕ) (xs : List X) (i : ℕ) (d : X) → position_from test k xs ≡ None → i < length xs → test (get_or xs i d) ≡ false
none_from test k [] i d none within = absurd (omega (arith, within))
none_from test k (x ∷ xs) zero d none within = by (test x) refl none
  where
    by : (b : Bool) → test x ≡ b → cond b (Some k) (position_from test (k + 1) xs) ≡ None → test x ≡ false
    by true is n = cc
    by false is n = is
none_from test k (x ∷ xs) (suc i) d none within = by (test x) none (λ rest. none_from test (k + 1) xs i d rest (omega (arith, within)))
  where
    by : (b : Bool) → cond b (Some k) (position_from test (k + 1) xs) ≡ None → (position_from test (k + 1) xs ≡ None → test (get_or xs i d) ≡ false) → test (get_or xs i d) ≡ false
    by true n in_rest = cc
    by false n in_rest = in_rest n

none_at : {X : Type 0} (test : X → Bool) (xs : List X) (i : ℕ) (d : X) → position test xs ≡ None → i < length xs → test (get_or xs i d) ≡ false
none_at test xs i d none within = none_from test 0 xs i d (sym (position_from-zero test xs) ∙ none) within

pub limits_fit : (world : HirDatabase) (goals : List Goal) (i : ℕ) (d : Goal) → position (is_misfit world) goals ≡ None → i < length goals → are_within (get_or goals i d).limits ≡ true
limits_fit world goals i d none within =
    let goal = get_or goals i d in
    fits (is_variant goal.def) (not (is_def_known world goal.def)) (not (are_args_known world goal.args)) (are_within goal.limits) (none_at (is_misfit world) goals i d none within)
