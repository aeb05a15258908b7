use Rattle.heights.proofs.Known.{none-known}
use Rattle.heights.proofs.heights.is_within.Goals as goal

pub height_at-requires : goal.height_at-requires
height_at-requires c = none-known c.args.db.now c.new-known.result c.new-known.ensures
