use Rattle.std.proofs.Common.{◌∙◌, sym, arith, true, FitsSigned, int_rem, int_div}
use Rattle.std.specs.Int.{w128}
use Rattle.std.proofs.lemmas.Int.{to_z-of_z}
use lib.Signed.{mag_rem}
use Rattle.numbers.proofs.Keeping.{divided-held, divided-refused, divided_overflow, nonzero_test}
use Rattle.numbers.proofs.arithmetic.remainder_signed.Goals as goal

pub returns-then-holds_signed-clause-answer : goal.returns-then-holds_signed-clause-answer
returns-then-holds_signed-clause-answer c =
    let left = to_z-of_z w128 c.args.left c.ranges.left in
    let right = to_z-of_z w128 c.args.right c.ranges.right in
    let d = rw (left, right) at (rw c.in-Some.is at c.checked_div.ensures) in
    let quotient = to_z-of_z w128 (int_div c.args.left c.args.right) d.0.1 in
    let fits : FitsSigned w128 (int_rem c.args.left c.args.right) = record { sfits = omega (arith, mag_rem c.args.left c.args.right, c.ranges.left.sfits) } in
    let rest = to_z-of_z w128 (int_rem c.args.left c.args.right) fits in
    let held = rw (d.1, quotient) at c.holds_signed.ensures in
    divided-held _ true c.args.size c.args.left c.args.right _ _ (nonzero_test c.args.right d.0.0) (sym held ∙ c.if-holds_signed.true) (simp (left, right, rest) at c.low_bytes.ensures.answer)

pub returns-else-holds_signed-clause-answer : goal.returns-else-holds_signed-clause-answer
returns-else-holds_signed-clause-answer c =
    let left = to_z-of_z w128 c.args.left c.ranges.left in
    let right = to_z-of_z w128 c.args.right c.ranges.right in
    let d = rw (left, right) at (rw c.in-Some.is at c.checked_div.ensures) in
    let quotient = to_z-of_z w128 (int_div c.args.left c.args.right) d.0.1 in
    let held = rw (d.1, quotient) at c.holds_signed.ensures in
    divided-refused _ true c.args.size c.args.left c.args.right _ (sym held ∙ c.if-holds_signed.false)

pub returns-in-None-clause-answer : goal.returns-in-None-clause-answer
returns-in-None-clause-answer c =
    let left = to_z-of_z w128 c.args.left c.ranges.left in
    let right = to_z-of_z w128 c.args.right c.ranges.right in
    divided_overflow _ c.args.size c.args.left c.args.right _ c.requires c.ranges.right (rw (left, right) at (rw c.in-None.is at c.checked_div.ensures))
