use Rattle.check_layouts.proofs.Found.{none_found}
use Rattle.check_layouts.proofs.layouts.are_only_fields_placed.Goals as goal

pub are_item_fields_placed-requires-clause-sizes : goal.are_item_fields_placed-requires-clause-sizes
are_item_fields_placed-requires-clause-sizes c = none_found c.args.db.now c.args.i c.args.args.now c.new-sizes.result c.new-sizes.ensures
