use Rattle.std.proofs.Common.{sym, ◌∙◌}
use Rattle.check_layouts.proofs.Kept.{fixed_right}
use Rattle.check_layouts.proofs.places.fixed_place.Goals as goal

pub returns : goal.returns
returns c = fixed_right c.args.db.now c.args.ty.now (record { 0 = c.new.result }) c.in_ok-place.place (sym c.holds_param.ensures ∙ c.if-holds_param.false) c.in_ok-place.ensures
