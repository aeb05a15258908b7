use Rattle.std.proofs.Common.{◌≡◌, length}
use Rattle.check_layouts.specs.Laid.{field_type}
use Rattle.check_layouts.specs.Sizes.{layout_above}
use Rattle.check_layouts.proofs.Deciding.{like_ok}
use Rattle.check_layouts.proofs.Placed.{inside_of, of_inside}
use Rattle.check_layouts.proofs.fields.are_fields_placed.Goals as goal

pub returns-clause-right : goal.returns-clause-right
returns-clause-right c =
    let look = layout_above c.args.db.now c.args.i in
    let type_of = field_type c.args.db.now c.args.args.now in
    let count : length c.args.offsets.now ≡ length c.args.fields.now = cc in
    like_ok c.are_fields_inside.result (inside_of look c.args.size c.args.offsets.now type_of c.args.fields.now count) (of_inside look c.args.size c.args.offsets.now type_of c.args.fields.now) c.are_fields_inside.ensures.inside
