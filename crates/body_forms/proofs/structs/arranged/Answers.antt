use Rattle.std.proofs.Common.{◌≡◌, ◌++◌, [], ◌∷◌, sym, ap, ◌∙◌}
use Rattle.std.specs.Prelude.{option_and_then, slice_get}
use Rattle.mir.specs.declared.operand.Operand.{Operand}
use Rattle.body_forms.proofs.Arranged.{arranged-last, arranged-next, arranged-none, none-has-none}
use Rattle.body_forms.proofs.structs.arranged.Goals as goal

pub unreachable-requires : goal.unreachable-requires
unreachable-requires c =
    let at = c.loop-field in
    none-has-none _
    (arranged-none c.args.fields.now c.args.written.now c.args.operands.now at.field-index c.field-item.result c.loop-field-test.true c.field-item.is at.all _
    (ap (option_and_then (slice_get c.args.operands.now)) (sym c.in_default.ensures)) at.invariant)
    c.requires

pub unreachable-requires-in_default-get : goal.unreachable-requires-in_default-get
unreachable-requires-in_default-get c =
    let at = c.loop-field in
    none-has-none _
    (arranged-none c.args.fields.now c.args.written.now c.args.operands.now at.field-index c.field-item.result c.loop-field-test.true c.field-item.is at.all _
    (ap (option_and_then (slice_get c.args.operands.now)) (sym c.in-Some.ensures) ∙ sym c.in_default-get.ensures) at.invariant)
    c.requires

pub loop-field-preserved : goal.loop-field-preserved
loop-field-preserved c =
    let at = c.loop-field in
    let pushed : c.push.new.self ≡ at.all ++ c.in-Some-get.operand.now ∷ [] = c.in_ok-push.ensures.ok ∙ ap (λ (o : Operand). at.all ++ o ∷ []) c.in_ok-copy.ensures in
    arranged-next c.args.fields.now c.args.written.now c.args.operands.now at.field-index c.field-item.result c.loop-field-test.true c.field-item.is
    c.in-Some.place c.in-Some-get.operand.now at.all c.push.new.self _ (sym c.in-Some.ensures) (sym c.in-Some-get.ensures) pushed at.invariant

pub returns : goal.returns
returns c =
    let at = c.loop-field in
    arranged-last c.args.fields.now c.args.written.now c.args.operands.now at.field-index at.all _ c.loop-field-test.false at.invariant
