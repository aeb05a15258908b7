use Rattle.std.proofs.Common.{◌≡◌, true, rules}
use Rattle.check_trees.specs.Tree.{IsPatInOrder}
use Rattle.check_trees.proofs.Listed.{before_more, finds_none}
use Rattle.check_trees.proofs.order.wrong_pat_among.Goals as goal

pub loop-i-preserved : goal.loop-i-preserved
loop-i-preserved c =
    let yes : c.in_ok-is_pat_in_order.field-0 ≡ true = search rules in (
      c.in_ok-is_pat_in_order.ensures.settled yes,
      before_more (IsPatInOrder c.args.body.now) c.args.pats.now c.loop-i.i c.index-pats-i.result c.loop-i-test.true c.index-pats-i.is c.loop-i.invariant.1 (c.in_ok-is_pat_in_order.ensures.order.0 yes),
    )

pub returns : goal.returns
returns c = finds_none (IsPatInOrder c.args.body.now) c.args.pats.now c.loop-i.i c.loop-i-test.false c.loop-i.invariant.1
