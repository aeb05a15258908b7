use Rattle.std.proofs.Common.{ap}
use Rattle.check_trees.specs.Tree.{same_node}
use Rattle.check_trees.specs.declared.node.BodyNode.TheVariants.{Expr}
use Rattle.check_trees.proofs.Lookups.{holders_kept, holders_more}
use Rattle.check_trees.proofs.holders.note_expr_holders.Goals as goal
use Rattle.check_trees.proofs.holders.note_expr_holders.Goals.{in-Expr, in_default}

pub loop-i-preserved : goal.loop-i-preserved
loop-i-preserved c =
    elim c.match-pair.branch [
      | in-Expr w ↦ rw w.slots-is (holders_more Expr c.args.pairs.now c.loop-i.i _ c.loop-i.slots w.note_holder.new.slots w.in-Expr.e c.loop-i-test.true (λ k. ap (same_node (Expr k)) w.in-Expr.is) c.loop-i.invariant w.note_holder.auto.slots w.note_holder.ensures)
      | in_default w ↦ holders_kept Expr c.args.pairs.now c.loop-i.i _ c.loop-i.slots c.match-pair.slots c.loop-i-test.true (λ k. ap (same_node (Expr k)) w.in_default.is) c.loop-i.invariant w.slots-is
    ]
