use Rattle.numbers.specs.declared.operator.Kind.TheVariants.{Signed}
use Rattle.std.proofs.Common.{true}
use Rattle.mir_ops.specs.Made.{made_bytes}
use Rattle.mir_ops.proofs.Computed.{computed_if_made, same_width, signed_row}
use Rattle.mir_ops.proofs.operators.sized_signed.Goals as goal

pub returns : goal.returns
returns c =
    computed_if_made made_bytes c.on_signed.result c.args.op Signed true c.args.left.now c.args.right.now
    (signed_row c.args.op c.args.left.now c.args.right.now (same_width c.args.size c.args.left.now c.args.right.now c.requires.left c.requires.right))
    c.on_signed.ensures
