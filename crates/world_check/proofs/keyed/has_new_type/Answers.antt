use Rattle.world_check.proofs.NewKeys.{new_type}
use Rattle.world_check.proofs.keyed.has_new_type.Goals as goal

pub returns : goal.returns
returns c = new_type c.args.db.now c.args.i c.args.row.now c.is_number.result c.place_of.result c.is_number.ensures c.place_of.ensures c.requires
