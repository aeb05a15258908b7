-- A body that may need a drop function is refused for it.
use Rattle.std.proofs.Common.{sym, ap, ◌∙◌}
use Rattle.body_forms.specs.Contexts.{source_of}
use Rattle.mir_lower.specs.Refusals.{needs_drops}
use Rattle.mir_lower.proofs.Needed.{refuses-drops}
use Rattle.mir_lower.proofs.body.lower_inferred.Goals as goal

pub returns-then-needs_drops-clause-refused : goal.returns-then-needs_drops-clause-refused
returns-then-needs_drops-clause-refused c =
    refuses-drops (source_of c.args.context.now) c.in_ok-lowered.lowered c.form_not_built.result c.in_ok-lowered.ensures.simulates
    (ap (needs_drops (source_of c.args.context.now)) (sym c.as_slice.ensures) ∙ sym c.needs_drops.ensures ∙ c.if-needs_drops.true) c.form_not_built.ensures
