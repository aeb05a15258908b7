use Rattle.std.proofs.Common.{◌∙◌, ap, sym, Some}
use Rattle.numbers.proofs.Dispatch.{on_signed_is, on_unsigned_is, on_booleans_is, on_characters_is, not_on_signed, not_on_unsigned, not_on_booleans, not_on_characters}
use Rattle.numbers.proofs.table.combined.Goals as goal

pub of_two_kinds-requires : goal.of_two_kinds-requires
of_two_kinds-requires c = rw c.in-None.is at c.common.ensures.none

pub returns-then-same_width-clause-answer : goal.returns-then-same_width-clause-answer
returns-then-same_width-clause-answer c =
    let is = c.in-Some-Signed.is ∙ ap Some c.in-Some-Signed.field-0-is in
    let kinds = rw is at c.common.ensures.some in
    on_signed_is c.args.op c.args.left_kind c.args.right_kind c.args.left.now c.args.right.now _ kinds.0 kinds.1 (sym c.same_width.ensures ∙ c.if-same_width.true) c.on_signed.ensures.answer

pub returns-else-same_width-clause-answer : goal.returns-else-same_width-clause-answer
returns-else-same_width-clause-answer c =
    let is = c.in-Some-Signed.is ∙ ap Some c.in-Some-Signed.field-0-is in
    let kinds = rw is at c.common.ensures.some in
    not_on_signed c.args.op c.args.left_kind c.args.right_kind c.args.left.now c.args.right.now kinds.0 kinds.1 (sym c.same_width.ensures ∙ c.if-same_width.false)

pub returns-then-same_width-2-clause-answer : goal.returns-then-same_width-2-clause-answer
returns-then-same_width-2-clause-answer c =
    let is = c.in-Some-Unsigned.is ∙ ap Some c.in-Some-Unsigned.field-0-is in
    let kinds = rw is at c.common.ensures.some in
    on_unsigned_is c.args.op c.args.left_kind c.args.right_kind c.args.left.now c.args.right.now _ kinds.0 kinds.1 (sym c.same_width-in-Some-Unsigned.ensures ∙ c.if-same_width-2.true) c.on_unsigned.ensures.answer

pub returns-else-same_width-2-clause-answer : goal.returns-else-same_width-2-clause-answer
returns-else-same_width-2-clause-answer c =
    let is = c.in-Some-Unsigned.is ∙ ap Some c.in-Some-Unsigned.field-0-is in
    let kinds = rw is at c.common.ensures.some in
    not_on_unsigned c.args.op c.args.left_kind c.args.right_kind c.args.left.now c.args.right.now kinds.0 kinds.1 (sym c.same_width-in-Some-Unsigned.ensures ∙ c.if-same_width-2.false)

pub returns-then-fits_booleans-clause-answer : goal.returns-then-fits_booleans-clause-answer
returns-then-fits_booleans-clause-answer c =
    let is = c.in-Some-Boolean.is ∙ ap Some c.in-Some-Boolean.field-0-is in
    let kinds = rw is at c.common.ensures.some in
    on_booleans_is c.args.op c.args.left_kind c.args.right_kind c.args.left.now c.args.right.now _ kinds.0 kinds.1 (sym c.fits_booleans.ensures ∙ c.if-fits_booleans.true) c.on_unsigned-then-fits_booleans.ensures.answer

pub returns-else-fits_booleans-clause-answer : goal.returns-else-fits_booleans-clause-answer
returns-else-fits_booleans-clause-answer c =
    let is = c.in-Some-Boolean.is ∙ ap Some c.in-Some-Boolean.field-0-is in
    let kinds = rw is at c.common.ensures.some in
    not_on_booleans c.args.op c.args.left_kind c.args.right_kind c.args.left.now c.args.right.now kinds.0 kinds.1 (sym c.fits_booleans.ensures ∙ c.if-fits_booleans.false)

pub returns-then-fits_characters-clause-answer : goal.returns-then-fits_characters-clause-answer
returns-then-fits_characters-clause-answer c =
    let is = c.in-Some-Character.is ∙ ap Some c.in-Some-Character.field-0-is in
    let kinds = rw is at c.common.ensures.some in
    on_characters_is c.args.op c.args.left_kind c.args.right_kind c.args.left.now c.args.right.now _ kinds.0 kinds.1 (sym c.fits_characters.ensures ∙ c.if-fits_characters.true) c.on_unsigned-then-fits_characters.ensures.answer

pub returns-else-fits_characters-clause-answer : goal.returns-else-fits_characters-clause-answer
returns-else-fits_characters-clause-answer c =
    let is = c.in-Some-Character.is ∙ ap Some c.in-Some-Character.field-0-is in
    let kinds = rw is at c.common.ensures.some in
    not_on_characters c.args.op c.args.left_kind c.args.right_kind c.args.left.now c.args.right.now kinds.0 kinds.1 (sym c.fits_characters.ensures ∙ c.if-fits_characters.false)
