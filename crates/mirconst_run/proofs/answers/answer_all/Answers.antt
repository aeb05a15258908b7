use Rattle.std.proofs.Common.{◌≡◌, sym, subst}
use Rattle.std.specs.Prelude.{true}
use Rattle.world_json.specs.declared.goal.Goal.{Goal}
use Rattle.mirconst_run.specs.Answers.{IsGoalAnswer}
use Rattle.mirconst_input.specs.Goals.{are_within}
use Rattle.mirconst_run.proofs.Answering.{limits_fit, one_more}
use Rattle.mirconst_run.proofs.answers.answer_all.Goals as goal

pub loop-goal-preserved : goal.loop-goal-preserved
loop-goal-preserved c =
    let answers = subst (λ (one : Goal). IsGoalAnswer c.loop-goal.evaluations c.answer.new.evaluations one c.in_ok-outcome.outcome) c.goal-item.is c.in_ok-outcome.ensures in
    one_more c.args.evaluations.now c.loop-goal.evaluations c.answer.new.evaluations c.args.goals.now c.loop-goal.outcomes c.push.new.self c.loop-goal.goal-index c.goal-item.result c.in_ok-outcome.outcome
    c.loop-goal-test.true c.in_ok-push.ensures.ok c.loop-goal.invariant answers

pub answer-requires : goal.answer-requires
answer-requires c =
    subst (λ (one : Goal). are_within one.limits ≡ true) (sym c.goal-item.is) (limits_fit c.requires.0 c.args.goals.now c.loop-goal.goal-index c.goal-item.result c.requires.1 c.loop-goal-test.true)
