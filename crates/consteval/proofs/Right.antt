-- Answers that are right by what is kept.
use Rattle.std.proofs.Common.{◌≡◌, Bool, true, false, List, [], Option, Some, refl, sym, ap, ◌∙◌, subst}
use Rattle.mir.proofs.Queries.{query_decides}
use Rattle.mir.specs.Answers.{IsAfterPut, answer_to, answers_kind}
use Rattle.mir.specs.contracts.answers.QueryPartialEq.TheImpl as QueryPartialEq
use Rattle.mir.specs.declared.answers.Answer.{Answer}
use Rattle.mir.specs.declared.answers.Answer.TheVariants as answer
use Rattle.mir.specs.declared.answers.Query.{Query}
use Rattle.mir.specs.declared.answers.Query.TheVariants as query
use Rattle.mir.specs.declared.errors.ConstEvalError.TheVariants as constant
use Rattle.consteval.specs.Kept.{AreRightAnswers, IsRightAnswer, Kept, Lowered, Stays}
use Rattle.consteval.specs.Refusals.{RefusesBody}
use Rattle.consteval.proofs.Keeping.{contains-stays}

-- what is right by what is kept is right where more is kept
module _ (before after : Kept) (stays : Stays before after) where
  pub right-stays : (q : Query) (a : Answer) → IsRightAnswer before q a → IsRightAnswer after q a
  right-stays (query.Body def args) (answer.Body body) right = (right.0, contains-stays before after stays (Lowered def body.value) right.1)
  right-stays (query.Body def args) (answer.Failed (constant.MirLowerError e)) right = (right.0, subst (λ world. RefusesBody world def args e) (sym stays.world) right.1)
  right-stays _ _ right = absurd right

  pub all-right-stay : (answers : List (Query × Answer)) → AreRightAnswers before answers → AreRightAnswers after answers
  all-right-stay answers right = record { each = λ q a is. right-stays q a (right.each q a is) }

-- a right answer is of the kind that its query wants
pub right-kind : (kept : Kept) (q : Query) (a : Answer) → IsRightAnswer kept q a → answers_kind q a ≡ true
right-kind kept (query.Body def args) (answer.Body body) right = refl
right-kind kept (query.Body def args) (answer.Failed (constant.MirLowerError e)) right = refl
right-kind kept _ _ right = absurd right

-- no answers are right
pub none-wrong : (kept : Kept) → AreRightAnswers kept []
none-wrong kept = record { each = λ q a is. cc }

same-answer : (a b : Answer) → ◌≡◌ {A = Option Answer} (Some a) (Some b) → a ≡ b
same-answer a b h = cc

-- right answers with one more that is right
pub put-right : (kept : Kept) (before after : List (Query × Answer)) (q : Query) (a : Answer) → IsAfterPut before after q a → AreRightAnswers kept before → IsRightAnswer kept q a → AreRightAnswers kept after
put-right kept before after q a put right own = record { each = λ other b is. at other b is (QueryPartialEq.ghosts.eq other q) refl } where
  at : (other : Query) (b : Answer) → answer_to after other ≡ Some b → (r : Bool) → QueryPartialEq.ghosts.eq other q ≡ r → IsRightAnswer kept other b
  at other b is true e =
      let same : other ≡ q = (query_decides other q).0 e in
      let told : a ≡ b = same-answer a b (sym put.answered ∙ sym (ap (answer_to after) same) ∙ is) in
      subst (λ x. IsRightAnswer kept x b) (sym same) (subst (IsRightAnswer kept q) told own)
  at other b is false e =
      let apart : (other ≡ q) → ⊥ = (λ same. let both : true ≡ false = sym ((query_decides other q).1 same) ∙ e in absurd cc) in
      right.each other b (sym (put.others other apart) ∙ is)
