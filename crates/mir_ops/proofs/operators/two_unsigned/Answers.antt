use Rattle.std.proofs.Common.{◌≡◌, length, false, refl, rules}
use Rattle.numbers.specs.declared.operator.Kind.TheVariants.{Unsigned}
use Rattle.mir_ops.specs.Made.{made_bytes}
use Rattle.mir_ops.proofs.Computed.{computed_if_made, unsigned_row}
use Rattle.mir_ops.proofs.operators.two_unsigned.Goals as goal

pub returns-in-16 : goal.returns-in-16
returns-in-16 c =
    let first : length c.args.left.now ≡ 16 = search rules in
    let second : length c.args.right.now ≡ 16 = search rules in
    computed_if_made made_bytes c.on_wide_unsigned.result c.args.op Unsigned false c.args.left.now c.args.right.now
    (unsigned_row c.args.op c.args.left.now c.args.right.now (rw (first, second) refl))
    c.on_wide_unsigned.ensures
