use Rattle.std.proofs.Common.{ℕ, ap, sym, ◌∙◌}
use Rattle.numbers.specs.Bytes.{low_bytes, number_of}
use Rattle.numbers.specs.Operators.{is_signed}
use Rattle.mir_ops.specs.Made.{bytes_in}
use Rattle.mir_ops.proofs.Shifting.{both_widths, cast_made}
use Rattle.mir_ops.proofs.SignedWords.{size_below}
use Rattle.mir_ops.proofs.shifts.converted_of.Goals as goal

pub returns : goal.returns
returns c =
    let to = c.in_ok-to.to in
    cast_made c.args.kind c.args.size c.args.bytes.now _ (both_widths _ c.args.size c.in_ok-from.from to c.in_ok-from.ensures c.in_ok-to.ensures)
    (c.word_of.ensures ∙ c.word.ensures (bytes_in to) (size_below to) ∙ ap (λ (count : ℕ). low_bytes count (number_of (is_signed c.args.kind) c.args.bytes.now)) (sym c.in_ok-to.ensures))
