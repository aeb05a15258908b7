use Rattle.std.proofs.Common.{Some}
use Rattle.check_layouts.proofs.sizes.layout_above.Goals as goal

pub returns : goal.returns
returns c = c.layout_at.ensures (Some c.args.ty.now) c.place_of.ensures
