use Rattle.std.proofs.Common.{◌^◌, arith, FitsSigned}
use Rattle.std.specs.Int.{w128, int_shr}
use Rattle.std.proofs.lemmas.Int.{to_z-of_z}
use lib.Signed.{mag_shr}
use Rattle.numbers.proofs.Keeping.{width_below}
use Rattle.numbers.proofs.Dispatch.{shifted_up, shifted_down, shifted_signed, other_shift}
use Rattle.numbers.proofs.shifts.shifted.Goals as goal

pub returns-in-Shl-clause-answer : goal.returns-in-Shl-clause-answer
returns-in-Shl-clause-answer c = rw c.in-Shl.is (shifted_up _ c.args.bytes.now c.args.amount _ _ (width_below _ c.requires.width) c.unsigned.ensures c.low_digits.ensures.answer)

pub returns-then-is_signed-clause-answer : goal.returns-then-is_signed-clause-answer
returns-then-is_signed-clause-answer c =
    let z = c.signed.result in
    let same = to_z-of_z w128 z (record { sfits = c.signed.type_inv }) in
    let fits : FitsSigned w128 (int_shr z c.args.amount) = record { sfits = omega (arith, mag_shr z (2 ^ c.args.amount), c.signed.type_inv) } in
    let shifted = to_z-of_z w128 (int_shr z c.args.amount) fits in
    rw (c.in-Shr.is, c.if-is_signed.true) (shifted_signed c.args.bytes.now c.args.amount z _ c.signed.ensures (simp (same, shifted) at c.low_bytes.ensures.answer))

pub returns-else-is_signed-clause-answer : goal.returns-else-is_signed-clause-answer
returns-else-is_signed-clause-answer c =
    rw (c.in-Shr.is, c.if-is_signed.false) (shifted_down c.args.bytes.now c.args.amount _ _ c.unsigned-else-is_signed.ensures c.low_digits-else-is_signed.ensures.answer)

pub returns-in_default-clause-answer : goal.returns-in_default-clause-answer
returns-in_default-clause-answer c = other_shift c.args.op _ c.args.bytes.now _ c.in_default.not-Shl c.in_default.not-Shr
