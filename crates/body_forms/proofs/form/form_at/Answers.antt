-- An expression that is adjusted otherwise than by `NeverToAny`, where that is looked at, isn't built, and any other has the form of its variant.
use Rattle.std.proofs.Common.{sym, ◌∙◌}
use Rattle.body_forms.specs.Contexts.{source_of}
use Rattle.body_forms.proofs.Forms.{form-adjusted, form-plain}
use Rattle.body_forms.proofs.form.form_at.Goals as goal

pub returns-then-is_adjusted : goal.returns-then-is_adjusted
returns-then-is_adjusted c = form-adjusted (source_of c.args.context.now) c.args.e.0 (sym c.is_adjusted.ensures ∙ c.if-is_adjusted.true)

pub returns-else-is_adjusted : goal.returns-else-is_adjusted
returns-else-is_adjusted c =
    form-plain (source_of c.args.context.now) c.args.e.0 c.expr_at.result.now c.form_of.result (sym c.is_adjusted.ensures ∙ c.if-is_adjusted.false) c.expr_at.ensures
    c.form_of.ensures
