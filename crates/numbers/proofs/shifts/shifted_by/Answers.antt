use Rattle.std.proofs.Common.{arith}
use Rattle.numbers.proofs.Dispatch.{shifted_within, shifted_beyond}
use Rattle.numbers.proofs.shifts.shifted_by.Goals as goal

pub returns-in-Some-clause-answer : goal.returns-in-Some-clause-answer
returns-in-Some-clause-answer c =
    let within = rw c.in-Some.is at c.amount.ensures.some in
    shifted_within c.args.op _ c.args.left.now _ c.in-Some.amount _ within.0 (omega (arith, within.1)) c.shifted.ensures.answer

pub returns-in-None-clause-answer : goal.returns-in-None-clause-answer
returns-in-None-clause-answer c =
    let beyond = rw c.in-None.is at c.amount.ensures.none in
    shifted_beyond c.args.op _ c.args.left.now _ (λ k e. omega (arith, beyond k e))
