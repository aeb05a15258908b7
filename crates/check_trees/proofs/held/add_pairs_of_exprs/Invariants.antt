use Rattle.std.proofs.Common.{◌≡◌, ◌++◌, drop}
use Rattle.check_trees.specs.Tree.{held_by_expr, pairs_of}
use Rattle.check_trees.specs.declared.node.BodyNode.TheVariants.{Expr}
use Rattle.check_trees.proofs.held.add_pairs_of_exprs.Given as goal

abbrev pub invariant-loop-i : goal.invariant-loop-i
invariant-loop-i l = l.pairs.items ++ pairs_of Expr held_by_expr l.i (drop l.i l.exprs) ≡ l.fn.pairs.items ++ pairs_of Expr held_by_expr 0 l.exprs
