use Rattle.std.proofs.Common.{ap}
use Rattle.numbers.specs.Operators.{is_shift}
use Rattle.numbers.proofs.Dispatch.{computed_shift, computed_other}
use Rattle.numbers.proofs.table.compute.Goals as goal

pub returns-in-Shl-clause-answer : goal.returns-in-Shl-clause-answer
unfolding is_shift
returns-in-Shl-clause-answer c = computed_shift c.args.op c.args.left_kind c.args.right_kind _ _ _ (ap is_shift c.in-Shl.is) c.shift.ensures.answer

pub returns-in-Shr-clause-answer : goal.returns-in-Shr-clause-answer
unfolding is_shift
returns-in-Shr-clause-answer c = computed_shift c.args.op c.args.left_kind c.args.right_kind _ _ _ (ap is_shift c.in-Shr.is) c.shift-in-Shr.ensures.answer

pub returns-in_default-clause-answer : goal.returns-in_default-clause-answer
returns-in_default-clause-answer c = computed_other c.args.op c.args.left_kind c.args.right_kind _ _ _ c.in_default.not-Shl c.in_default.not-Shr c.combined.ensures.answer
