use Rattle.world_check.proofs.NewKeys.{new_function}
use Rattle.world_check.proofs.keyed.has_new_function.Goals as goal

pub returns : goal.returns
returns c = new_function c.args.db.now c.args.i c.args.row.now c.is_number.result c.place_of.result c.is_number.ensures c.place_of.ensures c.requires
