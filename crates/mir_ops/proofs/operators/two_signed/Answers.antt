use Rattle.std.proofs.Common.{◌≡◌, length, true, refl, rules}
use Rattle.numbers.specs.declared.operator.Kind.TheVariants.{Signed}
use Rattle.mir_ops.specs.Made.{made_bytes}
use Rattle.mir_ops.proofs.Computed.{computed_if_made, signed_row}
use Rattle.mir_ops.proofs.operators.two_signed.Goals as goal

pub returns-in-16 : goal.returns-in-16
returns-in-16 c =
    let first : length c.args.left.now ≡ 16 = search rules in
    let second : length c.args.right.now ≡ 16 = search rules in
    computed_if_made made_bytes c.on_wide_signed.result c.args.op Signed true c.args.left.now c.args.right.now
    (signed_row c.args.op c.args.left.now c.args.right.now (rw (first, second) refl))
    c.on_wide_signed.ensures
