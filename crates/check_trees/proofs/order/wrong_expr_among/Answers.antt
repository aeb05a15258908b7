use Rattle.std.proofs.Common.{◌≡◌, true, rules}
use Rattle.check_trees.specs.Tree.{IsExprInOrder}
use Rattle.check_trees.proofs.Listed.{before_more, finds_none}
use Rattle.check_trees.proofs.order.wrong_expr_among.Goals as goal

pub loop-i-preserved : goal.loop-i-preserved
loop-i-preserved c =
    let yes : c.in_ok-is_expr_in_order.field-0 ≡ true = search rules in (
      c.in_ok-is_expr_in_order.ensures.settled yes,
      c.in_ok-is_expr_in_order.ensures.reaches,
      before_more (IsExprInOrder c.args.body.now) c.args.exprs.now c.loop-i.i c.index-exprs-i.result c.loop-i-test.true c.index-exprs-i.is c.loop-i.invariant.2 (c.in_ok-is_expr_in_order.ensures.order.0 yes),
    )

pub returns-clause-first : goal.returns-clause-first
returns-clause-first c = finds_none (IsExprInOrder c.args.body.now) c.args.exprs.now c.loop-i.i c.loop-i-test.false c.loop-i.invariant.2
