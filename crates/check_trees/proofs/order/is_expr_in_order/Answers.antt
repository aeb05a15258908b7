use Rattle.std.proofs.Common.{◌≡◌, true, rules}
use Rattle.check_trees.specs.Tree.{IsShallow}
use Rattle.check_trees.specs.declared.node.BodyNode.TheVariants.{Expr}
use Rattle.check_trees.proofs.Orders.{expr_order}
use Rattle.check_trees.proofs.order.is_expr_in_order.Goals as goal
use Rattle.check_trees.proofs.order.is_expr_in_order.Goals.{then-before, else-before}

pub returns-then-inner-clause-order : goal.returns-then-inner-clause-order
returns-then-inner-clause-order c =
    let yes : c.in_ok-is_shallow.field-0 ≡ true = search rules in
    let shallow : IsShallow c.args.body.now (Expr c.args.e) = c.in_ok-is_shallow.ensures.shallow.0 yes in
    elim c.if-before.branch [
      | then-before w ↦
          let inner : c.in_ok-inner.inner ≡ true = cc in
          expr_order c.args.body.now c.args.e c.args.node.now c.in_ok-before.before c.in_ok-inner.inner c.has_one_holder-once.result w.if-before.true inner shallow c.in_ok-before.ensures c.in_ok-inner.ensures.before c.has_one_holder-once.ensures
      | else-before w ↦ cc
    ]
