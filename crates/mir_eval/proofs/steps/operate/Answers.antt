use Rattle.std.proofs.Common.{inl, inr, sym}
use Rattle.mir_eval.proofs.Operated.{operated-wide}
use Rattle.mir_eval.proofs.steps.operate.Goals as goal

pub returns-in_default-gather-clause-bytes : goal.returns-in_default-gather-clause-bytes
returns-in_default-gather-clause-bytes g c =
    sym (operated-wide c.args.op _ _ _ _ _ _ (sym c.in-Some.ensures) (sym c.in-Some-operand.ensures) (inl c.in_default-gather.ensures.none))

pub returns-in_default-gather-2-clause-bytes : goal.returns-in_default-gather-2-clause-bytes
returns-in_default-gather-2-clause-bytes g c =
    sym (operated-wide c.args.op _ _ _ _ _ _ (sym c.in-Some.ensures) (sym c.in-Some-operand.ensures) (inr c.in_default-gather-2.ensures.none))
