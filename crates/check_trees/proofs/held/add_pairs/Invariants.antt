use Rattle.std.proofs.Common.{◌≡◌, ◌++◌, take}
use Rattle.check_trees.specs.Tree.{with_holder}
use Rattle.check_trees.proofs.held.add_pairs.Given as goal

abbrev pub invariant-loop-i : goal.invariant-loop-i
invariant-loop-i l = l.pairs.items ≡ l.fn.pairs.items ++ with_holder l.holder (take l.i l.nodes)
