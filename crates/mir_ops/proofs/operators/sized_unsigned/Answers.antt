use Rattle.numbers.specs.declared.operator.Kind.TheVariants.{Unsigned}
use Rattle.std.proofs.Common.{false}
use Rattle.mir_ops.specs.Made.{made_bytes}
use Rattle.mir_ops.proofs.Computed.{computed_if_made, same_width, unsigned_row}
use Rattle.mir_ops.proofs.operators.sized_unsigned.Goals as goal

pub returns : goal.returns
returns c =
    computed_if_made made_bytes c.on_unsigned.result c.args.op Unsigned false c.args.left.now c.args.right.now
    (unsigned_row c.args.op c.args.left.now c.args.right.now (same_width c.args.size c.args.left.now c.args.right.now c.requires.left c.requires.right))
    c.on_unsigned.ensures
