use Rattle.std.proofs.Common.{◌≡◌, ◌∙◌, ap, sym, Some}
use Rattle.numbers.specs.declared.operator.Kind.TheVariants.{Signed, Unsigned}
use Rattle.numbers.proofs.Negation.{value_in_range, inverted-signed, inverted-unsigned}
use Rattle.numbers.proofs.unary.invert.Goals as goal

pub returns-then-is_width-clause-answer : goal.returns-then-is_width-clause-answer
returns-then-is_width-clause-answer c =
    let is : c.args.kind ≡ Some c.in-Some-Signed.field-0 = c.in-Some-Signed.is in
    let first : c.in-Some-Signed.field-0 ≡ Signed = rw is at c.in-Some-Signed.field-0-is in
    let kind : c.args.kind ≡ Some Signed = is ∙ ap Some first in
    let width = sym c.is_width.ensures ∙ c.if-is_width.true in
    let range = value_in_range c.args.bytes.now c.type_inv.bytes in
    rw kind (inverted-signed c.args.bytes.now c.unsigned.result _ width range c.unsigned.ensures c.low_digits.ensures.answer)

pub returns-then-is_width-2-clause-answer : goal.returns-then-is_width-2-clause-answer
returns-then-is_width-2-clause-answer c =
    let is : c.args.kind ≡ Some c.in-Some-Unsigned.field-0 = c.in-Some-Unsigned.is in
    let first : c.in-Some-Unsigned.field-0 ≡ Unsigned = rw is at c.in-Some-Unsigned.field-0-is in
    let kind : c.args.kind ≡ Some Unsigned = is ∙ ap Some first in
    let width = sym c.is_width-in-Some-Unsigned.ensures ∙ c.if-is_width-2.true in
    let range = value_in_range c.args.bytes.now c.type_inv.bytes in
    rw kind (inverted-unsigned c.args.bytes.now c.unsigned-then-is_width-2.result _ width range c.unsigned-then-is_width-2.ensures c.low_digits-then-is_width-2.ensures.answer)
