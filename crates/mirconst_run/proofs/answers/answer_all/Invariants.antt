use Rattle.std.proofs.Common.{take}
use Rattle.mirconst_run.specs.Answers.{AreAnswers}
use Rattle.mirconst_run.proofs.answers.answer_all.Given as goal

abbrev pub invariant-loop-goal : goal.invariant-loop-goal
invariant-loop-goal l = AreAnswers l.initial.evaluations (take l.goal-index l.goals) l.outcomes l.evaluations
