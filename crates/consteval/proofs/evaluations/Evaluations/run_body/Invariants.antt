-- A run that is told what it asks is on its way between its questions, and takes a block before each.
use Rattle.mir_eval.specs.Machine.{blocks_left}
use Rattle.consteval.specs.Kept.{IsSound, Stays}
use Rattle.consteval.specs.Machines.{machine_of}
use Rattle.consteval.proofs.Turning.{IsOnItsWay}
use Rattle.consteval.proofs.evaluations.Evaluations.run_body.Given as goal

abbrev pub invariant-questions : goal.invariant-questions
invariant-questions l = record {
  way : IsOnItsWay l.self l.fn.def l.fn.body.value l.fn.limits (machine_of l.evaluator);
  stays : Stays l.fn.self l.self;
  sound : IsSound l.self;
}

abbrev pub decreases-questions : goal.decreases-questions
decreases-questions l = blocks_left 0 (machine_of l.evaluator).state
