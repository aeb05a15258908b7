use Rattle.std.specs.Int.{w128}
use Rattle.std.proofs.lemmas.Int.{to_z-of_z}
use Rattle.numbers.proofs.Keeping.{kept_overflow}
use Rattle.numbers.proofs.arithmetic.multiplied_signed.Goals as goal

pub returns-in-None-clause-answer : goal.returns-in-None-clause-answer
returns-in-None-clause-answer c =
    let left = to_z-of_z w128 c.args.left c.ranges.left in
    let right = to_z-of_z w128 c.args.right c.ranges.right in
    kept_overflow _ c.args.size _ c.requires (rw (left, right) at (rw c.in-None.is at c.checked_mul.ensures))
