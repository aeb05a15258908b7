use Rattle.std.proofs.Common.{◌∙◌}
use Rattle.types.proofs.Places.{found_at, found_nowhere}
use Rattle.types.proofs.table.Table.get.Goals as goal

pub returns-in-Some : goal.returns-in-Some
returns-in-Some g c = c.at.ensures ∙ found_at g.R.Row.key (g.Q.Comparable.compare c.args.key) _ _ c.in-Some.ensures

pub returns-in-None : goal.returns-in-None
returns-in-None g c = found_nowhere g.R.Row.key (g.Q.Comparable.compare c.args.key) _ c.in-None.ensures
