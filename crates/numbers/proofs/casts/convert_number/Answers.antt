use Rattle.std.proofs.Common.{◌≡◌, ◌∙◌, ap, sym, Some}
use Rattle.std.specs.Int.{w128}
use Rattle.std.proofs.lemmas.Int.{to_z-of_z}
use Rattle.numbers.proofs.Dispatch.{converted_signed, converted_unsigned, not_signed, not_converted}
use Rattle.numbers.proofs.casts.convert_number.Goals as goal

pub returns-then-not-are_widths-clause-answer : goal.returns-then-not-are_widths-clause-answer
returns-then-not-are_widths-clause-answer c = not_converted (Some c.args.kind) c.args.bytes.now c.args.size (sym c.are_widths.ensures ∙ c.if-not-are_widths.true)

pub returns-in-Signed-clause-answer : goal.returns-in-Signed-clause-answer
returns-in-Signed-clause-answer c =
    let z = c.signed.result in
    let same = to_z-of_z w128 z (record { sfits = c.signed.type_inv }) in
    rw c.in-Signed.is (converted_signed c.args.bytes.now c.args.size z _ (sym c.if-not-are_widths.ensures) c.signed.ensures (simp same at c.low_bytes.ensures.answer))

pub returns-in_default : goal.returns-in_default
returns-in_default c =
    record {
      answer = converted_unsigned c.args.kind c.args.bytes.now c.args.size _ _ (not_signed c.args.kind c.in_default.not-Signed) (sym c.if-not-are_widths.ensures) c.unsigned.ensures c.low_digits.ensures.answer;
      count = c.low_digits.ensures.count;
    }
