use Rattle.std.proofs.Common.{arith}
use Rattle.mir_ops.proofs.Shifting.{both_widths, shift_if_made}
use Rattle.mir_ops.proofs.shifts.shifted_of.Goals as goal

pub returns : goal.returns
returns c =
    let amount = c.in_ok-amount.ensures in
    shift_if_made c.shifted.result c.args.op c.args.kind c.args.by _ _ c.args.left.now c.args.right.now c.in_ok-amount.amount c.in_ok-is_signed.ensures c.in_ok-is_signed_amount.ensures
    (both_widths _ _ c.in_ok-size.size c.in_ok-amount_size.amount_size c.in_ok-size.ensures c.in_ok-amount_size.ensures) amount.0 (omega (arith, amount.1)) c.shifted.ensures
