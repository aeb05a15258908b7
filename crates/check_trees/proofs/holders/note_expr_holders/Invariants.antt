use Rattle.std.proofs.Common.{take}
use Rattle.check_trees.specs.inner.Walks.{AreFirstHolders}
use Rattle.check_trees.specs.declared.node.BodyNode.TheVariants.{Expr}
use Rattle.check_trees.proofs.holders.note_expr_holders.Given as goal

abbrev pub invariant-loop-i : goal.invariant-loop-i
invariant-loop-i l = AreFirstHolders Expr (take l.i l.pairs) l.slots
