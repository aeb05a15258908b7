use Rattle.std.proofs.Common.{◌≡◌, ◌++◌, take}
use Rattle.std.specs.Prelude.{map}
use Rattle.check_trees.specs.declared.node.BodyNode.TheVariants.{Pat}
use Rattle.check_trees.proofs.held.add_pats.Given as goal

abbrev pub invariant-loop-i : goal.invariant-loop-i
invariant-loop-i l = l.nodes.items ≡ l.fn.nodes.items ++ map Pat (take l.i l.ids)
