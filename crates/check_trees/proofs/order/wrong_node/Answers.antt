use Rattle.std.proofs.Common.{Some, None}
use Rattle.check_trees.specs.Tree.{IsExprInOrder, IsPatInOrder}
use Rattle.check_trees.proofs.Listed.{finds_at}
use Rattle.check_trees.proofs.order.wrong_node.Goals as goal

pub returns-in-Some-2 : goal.returns-in-Some-2
returns-in-Some-2 c = (
  finds_at (IsExprInOrder c.args.body.now) c.as_slice-exprs.result.now c.args.body.now.exprs c.in_ok-e.field-0 None c.as_slice-exprs.ensures c.in_default.is c.in_ok-e.ensures.first,
  finds_at (IsPatInOrder c.args.body.now) c.as_slice-pats.result.now c.args.body.now.pats c.in_ok-p.field-0 (Some c.in-Some-2.p) c.as_slice-pats.ensures c.in-Some-2.is c.in_ok-p.ensures,
)

pub returns : goal.returns
returns c = (
  finds_at (IsExprInOrder c.args.body.now) c.as_slice-exprs.result.now c.args.body.now.exprs c.in_ok-e.field-0 None c.as_slice-exprs.ensures c.in_default.is c.in_ok-e.ensures.first,
  finds_at (IsPatInOrder c.args.body.now) c.as_slice-pats.result.now c.args.body.now.pats c.in_ok-p.field-0 None c.as_slice-pats.ensures c.in-None.is c.in_ok-p.ensures,
)
