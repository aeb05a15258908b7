use Rattle.std.proofs.Common.{◌≡◌, true}
use Rattle.check_trees.specs.inner.Walks.{is_node}
use Rattle.check_trees.specs.declared.node.BodyNode.TheVariants.{Expr}
use Rattle.check_trees.proofs.Enclosures.{IsLeft}
use Rattle.check_trees.proofs.jumps.is_enclosed.Given as goal

abbrev pub invariant-loop-step : goal.invariant-loop-step
invariant-loop-step l = (is_node l.body.exprs l.body.pats l.node ≡ true) × IsLeft l.body l.label l.step (Expr l.e) l.node
