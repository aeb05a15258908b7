use Rattle.std.proofs.Common.{sym, ap, ◌∙◌, Some}
use Rattle.source_meaning.specs.Built.{is_direct}
use Rattle.body_forms.specs.Contexts.{source_of}
use Rattle.body_forms.proofs.Calls.{called-by-type, without-type, without-function, with-other, with-body}
use Rattle.body_forms.proofs.call.callee_type.Goals as goal

pub returns-in_default-clause-unbuilt : goal.returns-in_default-clause-unbuilt
returns-in_default-clause-unbuilt c = λ e. without-type (source_of c.args.context.now) e c.args.callee.0 (sym c.in_default.ensures)

pub returns-in_default-function_in-clause-unbuilt : goal.returns-in_default-function_in-clause-unbuilt
returns-in_default-function_in-clause-unbuilt c =
    λ e. without-function (source_of c.args.context.now) e c.args.callee.0 c.in-Some.ty.now (sym c.in-Some.ensures) (sym c.in_default-function_in.ensures)

pub returns-then-is_direct-clause-built : goal.returns-then-is_direct-clause-built
returns-then-is_direct-clause-built c =
    let source = source_of c.args.context.now in
    λ e. with-body source e (Some c.args.callee.0) c.in-Some-function_in.id (called-by-type source e c.args.callee.0 c.in-Some.ty.now (sym c.in-Some.ensures) ∙ sym c.in-Some-function_in.ensures)
    (ap is_direct (sym c.get.ensures) ∙ sym c.is_direct.ensures ∙ c.if-is_direct.true)

pub returns-else-is_direct-clause-unbuilt : goal.returns-else-is_direct-clause-unbuilt
returns-else-is_direct-clause-unbuilt c =
    let source = source_of c.args.context.now in
    λ e. with-other source e (Some c.args.callee.0) c.in-Some-function_in.id (called-by-type source e c.args.callee.0 c.in-Some.ty.now (sym c.in-Some.ensures) ∙ sym c.in-Some-function_in.ensures)
    (ap is_direct (sym c.get.ensures) ∙ sym c.is_direct.ensures ∙ c.if-is_direct.false)
