use Rattle.std.proofs.Common.{sym, subst, ℕ, ◌<◌, ◌*◌, ◌^◌}
use Rattle.std.proofs.lemmas.Nat.{or_lt}
use Rattle.mir_mem.specs.IntValue.{width_in}
use Rattle.mir_mem.proofs.int_arithmetic.IntValueBitOr.bitor.Goals as goal

pub with_bits-requires : goal.with_bits-requires
with_bits-requires c =
    let other = subst (λ (size : ℕ). c.bits-2.result < 2 ^ (8 * size)) (sym c.requires.size) c.bits-2.ensures.range in
    or_lt (width_in c.args.self) c.bits.result c.bits-2.result c.bits.ensures.range other
