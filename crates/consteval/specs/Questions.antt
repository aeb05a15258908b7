-- What a run asks, and what it is told.
use Rattle.std.specs.Prelude.{◌≡◌, Some, Result}
use Rattle.types.specs.declared.ids.DefWithBodyId.{DefWithBodyId}
use Rattle.types.specs.declared.ty.Const.{Const}
use Rattle.types.specs.declared.ty.GenericArgs.{GenericArgs}
use Rattle.mir.specs.declared.answers.Answer.{Answer}
use Rattle.mir.specs.declared.answers.Query.{Query}
use Rattle.mir.specs.declared.answers.Query.TheVariants as query
use Rattle.mir.specs.declared.errors.ConstEvalError.{ConstEvalError}
use Rattle.mir.specs.declared.errors.MirEvalError.{MirEvalError}
use Rattle.mir_eval.specs.Evaluators.{IsTold, outcome, wanted_in}
use Rattle.mir_eval.specs.Machine.{State}
use Rattle.consteval.specs.Answers.{carried}
use Rattle.consteval.specs.Kept.{IsRightAnswer, Kept}

-- a run asks for the body of a definition
abbrev pub AsksForBody : State → Type 0
AsksForBody state = (def : DefWithBodyId) × (args : GenericArgs) × (wanted_in state ≡ Some (query.Body def args))

-- a run that asked was told an answer that is right by what is kept
pub record IsToldRightly (kept : Kept) (before after : State) : Type 0 where
  pub q : Query
  pub wanted : wanted_in before ≡ Some q
  pub answer : Answer
  pub right : IsRightAnswer kept q answer
  pub told : IsTold before answer after

-- an answer is what a run that is over handed out
abbrev pub IsCarried : State → Result Const ConstEvalError → Type 0
IsCarried state answer = (result : Result Const MirEvalError) × (outcome state ≡ Some result) × (answer ≡ carried result)
