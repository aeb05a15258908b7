use Rattle.std.proofs.Common.{false}
use Rattle.numbers.specs.declared.operator.Kind.TheVariants.{Boolean}
use Rattle.mir_ops.specs.Made.{made_bytes}
use Rattle.mir_ops.proofs.Computed.{booleans_row, computed_if_made}
use Rattle.mir_ops.proofs.operators.on_booleans.Goals as goal

pub returns-in_default : goal.returns-in_default
returns-in_default c =
    computed_if_made made_bytes c.on_unsigned.result c.args.op Boolean false c.args.left.now c.args.right.now
    (booleans_row c.args.op c.args.left.now c.args.right.now c.requires.left c.requires.right c.in_default.not-Add c.in_default.not-Sub c.in_default.not-Mul c.in_default.not-Div c.in_default.not-Rem c.in_default.not-Shl c.in_default.not-Shr)
    c.on_unsigned.ensures
