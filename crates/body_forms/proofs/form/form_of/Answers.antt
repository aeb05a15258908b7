-- A field's form is by what it is resolved to, an element's by the types of its base and its index, a call's by the constructor that it calls, if any, and a struct literal's by the struct that it makes. The other variants have no form with a meaning.
use Rattle.std.proofs.Common.{sym, ap, ◌∙◌, subst}
use Rattle.std.specs.Prelude.{option_map}
use Rattle.source_meaning.specs.Core.{Field, call_form, record_form}
use Rattle.source_meaning.specs.Source.{findings}
use Rattle.world.specs.declared.expr.Expr.{Expr}
use Rattle.body_forms.specs.Contexts.{source_of}
use Rattle.body_forms.specs.Form.{IsFormOf}
use Rattle.body_forms.proofs.Forms.{otherwise}
use Rattle.body_forms.proofs.form.form_of.Goals as goal

pub returns-in-Field : goal.returns-in-Field
returns-in-Field c =
    let given = c.field_form.ensures.field c.in-Field.name in
    subst (λ (x : Expr). IsFormOf (findings (source_of c.args.context.now) c.args.e.0) x c.field_form.result) (sym c.in-Field.is)
    (record { core = ap (option_map (Field c.in-Field.expr.0)) (sym c.field_taken.ensures) ∙ given.core; cause = given.cause })

pub returns-in-Index : goal.returns-in-Index
returns-in-Index c =
    let given = c.field_form-in-Index.ensures.element c.in-Index.index in
    subst (λ (x : Expr). IsFormOf (findings (source_of c.args.context.now) c.args.e.0) x c.field_form-in-Index.result) (sym c.in-Index.is)
    (record { core = ap (option_map (Field c.in-Index.base.0)) (sym c.element_taken.ensures) ∙ given.core; cause = given.cause })

pub returns-in-RecordLit : goal.returns-in-RecordLit
returns-in-RecordLit c =
    let given = c.record_form.ensures c.in-RecordLit.path in
    subst (λ (x : Expr). IsFormOf (findings (source_of c.args.context.now) c.args.e.0) x c.record_form.result) (sym c.in-RecordLit.is)
    (record { core = ap (λ made. record_form made c.in-RecordLit.fields c.in-RecordLit.spread) (sym c.struct_made.ensures) ∙ given.core; cause = given.cause })

pub returns-in-Call : goal.returns-in-Call
returns-in-Call c =
    let given = c.call_form.ensures in
    subst (λ (x : Expr). IsFormOf (findings (source_of c.args.context.now) c.args.e.0) x c.call_form.result) (sym c.in-Call.is)
    (record { core = ap (λ made. call_form made c.in-Call.callee c.in-Call.args) (sym c.constructed.ensures) ∙ given.core; cause = given.cause })

pub returns-in_default : goal.returns-in_default
returns-in_default c =
    otherwise _ c.args.expr.now c.in_default.not-Literal c.in_default.not-Path c.in_default.not-Field c.in_default.not-Index c.in_default.not-UnaryOp c.in_default.not-Cast c.in_default.not-BinaryOp c.in_default.not-If c.in_default.not-Assignment c.in_default.not-Block c.in_default.not-Loop c.in_default.not-Break c.in_default.not-Continue c.in_default.not-Return c.in_default.not-Call c.in_default.not-MethodCall c.in_default.not-Tuple c.in_default.not-Array c.in_default.not-Repeat c.in_default.not-RecordLit c.in_default.not-Missing
