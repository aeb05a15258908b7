-- An adjusted expression is no literal, and any other is what its form says.
use Rattle.std.proofs.Common.{sym, ap, ◌∙◌}
use Rattle.source_meaning.specs.Core.{is_literal}
use Rattle.source_meaning.proofs.Never.{unadjusted-node}
use Rattle.body_forms.specs.Contexts.{source_of}
use Rattle.body_forms.proofs.Forms.{unadjusted-none, no-literal}
use Rattle.body_forms.proofs.form.literal_at.Goals as goal

pub returns-then-diverges : goal.returns-then-diverges
returns-then-diverges c = record { some = tt; none = ap is_literal (unadjusted-none (source_of c.args.context.now) c.args.e.0 (sym c.diverges.ensures ∙ c.if-diverges.true)) }

pub returns-in-Literal : goal.returns-in-Literal
returns-in-Literal c = record { some = unadjusted-node (source_of c.args.context.now) c.args.e.0 (sym c.diverges.ensures ∙ c.if-diverges.false) ∙ c.in-Literal.ensures.core; none = tt }

pub returns-in_default : goal.returns-in_default
returns-in_default c =
    let source = source_of c.args.context.now in
    record { some = tt; none = ap is_literal (unadjusted-node source c.args.e.0 (sym c.diverges.ensures ∙ c.if-diverges.false)) ∙ no-literal source c.args.e.0 c.form_at.result c.form_at.ensures c.in_default.not-Literal }
