use Rattle.std.proofs.Common.{refl}
use Rattle.body_forms.proofs.call.function_type.Goals as goal

pub returns : goal.returns
returns c = (record { 0 = c.new.result }, refl, c.new.ensures)
