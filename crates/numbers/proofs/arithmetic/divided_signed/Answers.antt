use Rattle.std.proofs.Common.{true, int_div}
use Rattle.std.specs.Int.{w128}
use Rattle.std.proofs.lemmas.Int.{to_z-of_z}
use Rattle.numbers.proofs.Keeping.{divided-kept, divided_overflow, nonzero_test}
use Rattle.numbers.proofs.arithmetic.divided_signed.Goals as goal

pub returns-in-Some-clause-answer : goal.returns-in-Some-clause-answer
returns-in-Some-clause-answer c =
    let left = to_z-of_z w128 c.args.left c.ranges.left in
    let right = to_z-of_z w128 c.args.right c.ranges.right in
    let d = rw (left, right) at (rw c.in-Some.is at c.checked_div.ensures) in
    let quotient = to_z-of_z w128 (int_div c.args.left c.args.right) d.0.1 in
    divided-kept _ true c.args.size c.args.left c.args.right _ (nonzero_test c.args.right d.0.0) (rw (d.1, quotient) at c.kept_signed.ensures.answer)

pub returns-in-None-clause-answer : goal.returns-in-None-clause-answer
returns-in-None-clause-answer c =
    let left = to_z-of_z w128 c.args.left c.ranges.left in
    let right = to_z-of_z w128 c.args.right c.ranges.right in
    divided_overflow _ c.args.size c.args.left c.args.right _ c.requires c.ranges.right (rw (left, right) at (rw c.in-None.is at c.checked_div.ensures))
