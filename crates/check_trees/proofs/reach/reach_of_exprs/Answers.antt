use Rattle.check_trees.proofs.Reaches.{greatest_more, greatest_whole}
use Rattle.check_trees.proofs.reach.reach_of_exprs.Goals as goal

pub loop-i-preserved : goal.loop-i-preserved
loop-i-preserved c = greatest_more c.args.ids.now c.loop-i.i 0 c.loop-i.reach c.max-reach.result c.loop-i-test.true c.loop-i.invariant c.max-reach.ensures

pub returns : goal.returns
returns c = greatest_whole c.args.ids.now c.loop-i.i c.loop-i.reach c.loop-i-test.false c.loop-i.invariant
