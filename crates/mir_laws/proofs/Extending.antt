-- An answer to a query that had none keeps each answer that there was.
use Rattle.std.proofs.Common.{◌≡◌, Some, subst, ◌∙◌}
use Rattle.mir.specs.Answers.{answer_to}
use Rattle.mir_laws.specs.Questions.{NewAnswersExtend}

pub new_answers : NewAnswersExtend
new_answers before after q a put unanswered other b is =
    put.others other (λ same. unanswered b (subst (λ asked. answer_to before asked ≡ Some b) same is)) ∙ is
