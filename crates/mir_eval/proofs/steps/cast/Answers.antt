use Rattle.std.proofs.Common.{sym}
use Rattle.mir_eval.proofs.Operated.{cast-unbuilt, cast-wide}
use Rattle.mir_eval.proofs.steps.cast.Goals as goal

pub returns-in_default-fixed_size-clause-bytes : goal.returns-in_default-fixed_size-clause-bytes
returns-in_default-fixed_size-clause-bytes g c = sym (cast-unbuilt c.args.ty.now _ _ _ (sym c.in-Some.ensures) (sym c.in_default-fixed_size.ensures))

pub returns-in-None-clause-bytes : goal.returns-in-None-clause-bytes
returns-in-None-clause-bytes g c = sym (cast-wide c.args.ty.now _ _ _ (sym c.in-Some.ensures) c.in-None.ensures.none)
