use Rattle.std.proofs.Common.{◌≡◌, ◌++◌, drop}
use Rattle.check_trees.specs.Tree.{held_by_pat, pairs_of}
use Rattle.check_trees.specs.declared.node.BodyNode.TheVariants.{Pat}
use Rattle.check_trees.proofs.held.add_pairs_of_pats.Given as goal

abbrev pub invariant-loop-i : goal.invariant-loop-i
invariant-loop-i l = l.pairs.items ++ pairs_of Pat held_by_pat l.i (drop l.i l.pats) ≡ l.fn.pairs.items ++ pairs_of Pat held_by_pat 0 l.pats
