use Rattle.std.proofs.Common.{sym, ◌∙◌}
use Rattle.mirconst_run.proofs.Answering.{goal_answer}
use Rattle.mirconst_run.proofs.answers.answer.Goals as goal

pub returns : goal.returns
returns c =
    let evaluated = c.eval_def-outcome.ensures in
    goal_answer c.args.evaluations.now c.eval_def-outcome.new.self c.args.goal.now c.limits_of-limits.result c.eval_def-outcome.result
    c.limits_of-limits.ensures.same
    (record {
      printed = evaluated.printed;
      value = evaluated.value;
      counts = evaluated.counts;
      panic = evaluated.panic;
      undefined = evaluated.undefined;
      closed = evaluated.closed;
      complete = evaluated.complete;
      endless = evaluated.endless;
      cause = evaluated.cause;
      turns = evaluated.turns;
      stays = evaluated.stays;
      kept = evaluated.kept;
      sound = evaluated.sound;
    })
    (sym c.is_want_of_memory.ensures ∙ c.if-is_want_of_memory.false)
