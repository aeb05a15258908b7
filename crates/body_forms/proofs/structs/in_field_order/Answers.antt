-- The operands of named fields are arranged by the names, and those of a constructor's arguments are in order.
use Rattle.std.proofs.Common.{◌≡◌, List, length, sym, ap, ◌∙◌, subst}
use Rattle.std.proofs.lemmas.Result.{IfOk-weaker}
use Rattle.std.proofs.lemmas.List.{length-map}
use Rattle.std.specs.Prelude.{is_some, IsSome, Some}
use Rattle.world.specs.declared.expr.RecordLitField.{RecordLitField}
use Rattle.world.specs.declared.items.FieldRow.{FieldRow}
use Rattle.body_forms.specs.Form.{exprs_given, places_in}
use Rattle.body_forms.specs.Structs.{arranged}
use Rattle.body_forms.proofs.Arranged.{all-are-named, are-arranged, are-in-order, the-value}
use Rattle.body_forms.proofs.structs.in_field_order.Goals as goal

pub arranged-requires : goal.arranged-requires
arranged-requires c =
    let fields = c.args.value.made.fields.now in
    let written = c.in-Named.written.now in
    let operands = c.args.operands in
    let places = the-value _ (subst (λ given. IsSome (places_in fields given)) c.in-Named.is c.requires.given) in
    let many = subst (λ given. length operands ≡ length (exprs_given given)) c.in-Named.is c.requires.many ∙ length-map written (λ (field : RecordLitField). field.expr.0) in
    let all = are-arranged fields written places.0 operands (all-are-named fields written places.0 places.1) many in
    ap (λ (fs : List FieldRow). is_some (arranged fs c.as_slice-in-Named.result.now operands)) c.as_slice.ensures
    ∙ ap (λ (ws : List RecordLitField). is_some (arranged fields ws operands)) c.as_slice-in-Named.ensures
    ∙ ap is_some all.are

pub returns-in-Named : goal.returns-in-Named
returns-in-Named c =
    let fields = c.args.value.made.fields.now in
    let written = c.in-Named.written.now in
    let operands = c.args.operands in
    let many = subst (λ given. length operands ≡ length (exprs_given given)) c.in-Named.is c.requires.many ∙ length-map written (λ (field : RecordLitField). field.expr.0) in
    let same : arranged c.as_slice.result.now c.as_slice-in-Named.result.now operands ≡ arranged fields written operands =
    ap (λ (fs : List FieldRow). arranged fs c.as_slice-in-Named.result.now operands) c.as_slice.ensures ∙ ap (λ (ws : List RecordLitField). arranged fields ws operands) c.as_slice-in-Named.ensures in
    IfOk-weaker c.arranged.result _ _
    (λ all is places are.
    let found = are-arranged fields written places operands (all-are-named fields written places (subst (λ given. places_in fields given ≡ Some places) c.in-Named.is are)) many in
    found.picks ∙ sym found.are ∙ sym same ∙ is)
    c.arranged.ensures

pub returns-in-InOrder : goal.returns-in-InOrder
returns-in-InOrder c =
    λ places are.
    let fields = c.args.value.made.fields.now in
    let args = c.in-InOrder.field-0.now in
    let operands = c.args.operands in
    are-in-order fields args places operands (subst (λ given. places_in fields given ≡ Some places) c.in-InOrder.is are)
    (subst (λ given. length operands ≡ length (exprs_given given)) c.in-InOrder.is c.requires.many)
