use Rattle.std.proofs.Common.{Some}
use Rattle.check_layouts.specs.Sizes.{layout_above}
use Rattle.check_layouts.proofs.Placed.{part_decides}
use Rattle.check_layouts.proofs.fields.is_type_inside.Goals as goal

pub returns : goal.returns
returns c = part_decides (layout_above c.args.db.now c.args.i) c.args.size c.args.offset c.size_above.result (Some c.args.ty.now) c.is_part_inside.result c.size_above.ensures c.is_part_inside.ensures
