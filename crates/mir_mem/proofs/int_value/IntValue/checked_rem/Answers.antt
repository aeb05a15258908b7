use Rattle.std.proofs.Common.{int_div, int_rem, FitsSigned, sym, ◌∙◌, arith}
use Rattle.std.specs.Int.{w128}
use Rattle.std.proofs.lemmas.Int.{to_z-of_z}
use lib.Signed.{mag_rem}
use Rattle.mir_mem.proofs.IntParts.{some_rem}
use Rattle.mir_mem.proofs.int_value.IntValue.checked_rem.Goals as goal

pub returns-in_ok-with_signed : goal.returns-in_ok-with_signed
returns-in_ok-with_signed c =
    let x = c.signed-number.result in
    let y = c.signed-divisor.result in
    let left = to_z-of_z w128 c.signed-number.result (record { sfits = c.signed-number.type_inv }) in
    let right = to_z-of_z w128 c.signed-divisor.result (record { sfits = c.signed-divisor.type_inv }) in
    let divided = rw (left, right) at c.in_ok-quotient.ensures in
    let quotient = to_z-of_z w128 (int_div x y) divided.0.1 in
    let held = rw (divided.1, quotient) at c.in_ok-with_signed.ensures in
    let fits : FitsSigned w128 (int_rem x y) = record { sfits = omega (arith, mag_rem c.signed-number.result c.signed-divisor.result, c.signed-number.type_inv) } in
    let rest = to_z-of_z w128 (int_rem x y) fits in
    let given = simp (left, right, rest) at c.with_signed-then-is_signed.ensures in
    rw (← c.signed-number.ensures.number, ← c.signed-divisor.ensures.number)
    (some_rem c.args.self x y c.with_signed-then-is_signed.result (sym c.is_signed.ensures ∙ c.if-is_signed.true) c.signed-number.ensures.range divided.0.0 held.0 given)
