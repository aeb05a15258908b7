-- The queries at which a run of a body stops, and the answers to them.
use Rattle.std.specs.Prelude.{◌≡◌, ◌≢◌, Bool, true, false, List, Option, Some, IsTrue}
use Rattle.std.specs.BTreeMap.{is_at}
use Rattle.std.specs.Map.{lookup}
use Rattle.mir.specs.contracts.answers.QueryOrd.TheImpl as QueryOrd
use Rattle.mir.specs.declared.answers.Answer.{Answer}
use Rattle.mir.specs.declared.answers.Answer.TheVariants as answer
use Rattle.mir.specs.declared.answers.Query.{Query}
use Rattle.mir.specs.declared.errors.ConstEvalError.{ConstEvalError}
use Rattle.mir.specs.declared.errors.ConstEvalError.TheVariants as constant
use Rattle.mir.specs.declared.answers.Query.TheVariants as query

-- whether an error is one for which a body can't be got: lowering refused it, or memory ran out
abbrev pub is_refusal : ConstEvalError → Bool
is_refusal (constant.MirLowerError e) = true
is_refusal constant.NoMemory = true
is_refusal (constant.MirEvalError e) = false

-- Whether an answer is of the kind that a query wants: a value, a discriminant or a body. To have failed answers each; a body fails for a
-- refusal alone.
abbrev pub answers_kind : Query → Answer → Bool
answers_kind (query.Konst item args) (answer.Konst konst) = true
answers_kind (query.Static item) (answer.Konst konst) = true
answers_kind (query.Discriminant variant) (answer.Discriminant number) = true
answers_kind (query.Body def args) (answer.Body body) = true
answers_kind (query.Closure closure args) (answer.Body body) = true
answers_kind (query.Body def args) (answer.Failed e) = is_refusal e
answers_kind (query.Closure closure args) (answer.Failed e) = is_refusal e
answers_kind _ (answer.Failed e) = true
answers_kind _ _ = false

-- the answer to a query, where there is one
abbrev pub answer_to : List (Query × Answer) → Query → Option Answer
answer_to answers q = lookup (is_at (QueryOrd.ghosts.cmp q)) answers

-- each answer is of the kind that its query wants
pub record AreOfKind (answers : List (Query × Answer)) : Type 0 where
  pub each : (q : Query) (a : Answer) → answer_to answers q ≡ Some a → IsTrue (answers_kind q a)

-- answers after an answer to a query was put among them: the query has that answer, and every other query has the answer that it had before
pub record IsAfterPut (before after : List (Query × Answer)) (q : Query) (a : Answer) : Type 0 where
  pub answered : answer_to after q ≡ Some a
  pub others : (other : Query) → other ≢ q → answer_to after other ≡ answer_to before other
