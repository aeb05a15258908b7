use Rattle.std.proofs.Common.{sym}
use Rattle.mir_eval.proofs.Operated.{operated-on-wide}
use Rattle.mir_eval.proofs.steps.operate_on.Goals as goal

pub returns-in-None-clause-bytes : goal.returns-in-None-clause-bytes
returns-in-None-clause-bytes g c = sym (operated-on-wide c.args.op _ _ _ (sym c.in-Some.ensures) c.in-None.ensures.none)
