-- An adjusted expression is no place, and any other is what its form says.
use Rattle.std.proofs.Common.{sym, ap, ◌∙◌}
use Rattle.source_meaning.specs.Core.{is_place}
use Rattle.source_meaning.proofs.Never.{unadjusted-node}
use Rattle.body_forms.specs.Contexts.{source_of}
use Rattle.body_forms.proofs.Forms.{unadjusted-none, no-place}
use Rattle.body_forms.proofs.form.place_form_at.Goals as goal

pub returns-then-diverges : goal.returns-then-diverges
returns-then-diverges c = ap is_place (unadjusted-none (source_of c.args.context.now) c.args.e.0 (sym c.diverges.ensures ∙ c.if-diverges.true))

pub returns-in-Path : goal.returns-in-Path
returns-in-Path c = unadjusted-node (source_of c.args.context.now) c.args.e.0 (sym c.diverges.ensures ∙ c.if-diverges.false) ∙ c.in-Path.ensures.core

pub returns-in-Field : goal.returns-in-Field
returns-in-Field c = unadjusted-node (source_of c.args.context.now) c.args.e.0 (sym c.diverges.ensures ∙ c.if-diverges.false) ∙ c.in-Field.ensures.core

pub returns-in_default : goal.returns-in_default
returns-in_default c =
    let source = source_of c.args.context.now in
    ap is_place (unadjusted-node source c.args.e.0 (sym c.diverges.ensures ∙ c.if-diverges.false)) ∙ no-place source c.args.e.0 c.form_at.result c.form_at.ensures c.in_default.not-Path c.in_default.not-Field
