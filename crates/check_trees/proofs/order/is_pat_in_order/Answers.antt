use Rattle.std.proofs.Common.{◌≡◌, true}
use Rattle.check_trees.proofs.Orders.{pat_order}
use Rattle.check_trees.proofs.order.is_pat_in_order.Goals as goal
use Rattle.check_trees.proofs.order.is_pat_in_order.Goals.{then-before, else-before}

pub returns-then-once-clause-order : goal.returns-then-once-clause-order
returns-then-once-clause-order c =
    elim c.if-before.branch [
      | then-before w ↦
          let once : c.has_one_holder-once.result ≡ true = cc in
          pat_order c.args.body.now c.args.p c.args.node.now c.in_ok-before.before c.has_one_holder-once.result c.in_ok-shallow.shallow w.if-before.true once c.in_ok-before.ensures c.has_one_holder-once.ensures c.in_ok-shallow.ensures.shallow
      | else-before w ↦ cc
    ]
