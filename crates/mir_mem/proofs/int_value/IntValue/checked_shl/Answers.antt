use Rattle.std.proofs.Common.{◌≡◌, ◌*◌, ◌^◌, ◌%◌, ◌∙◌, ap}
use Rattle.mir_mem.specs.IntValue.{bits_in, width_in, with_bits}
use Rattle.mir_mem.proofs.IntParts.{low_bits-low}
use Rattle.mir_mem.proofs.int_value.IntValue.checked_shl.Goals as goal

pub returns-then-amount-width : goal.returns-then-amount-width
returns-then-amount-width c =
    let low = low_bits-low c.args.self (bits_in c.args.self * 2 ^ c.args.amount) in
    let bits : c.low_bits.result ≡ bits_in c.args.self * 2 ^ c.args.amount % 2 ^ width_in c.args.self = (rw c.bits.ensures.bits at c.low_bits.ensures) ∙ low in
    (rw c.width.ensures at c.if-amount-width.true, c.with_bits.ensures ∙ ap (with_bits c.args.self) bits)
