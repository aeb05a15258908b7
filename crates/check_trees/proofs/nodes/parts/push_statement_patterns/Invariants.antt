use Rattle.std.proofs.Common.{◌≡◌, ◌++◌, take}
use Rattle.std.specs.List.{flat_map}
use Rattle.world.specs.Nodes.{statement_patterns}
use Rattle.check_trees.proofs.nodes.parts.push_statement_patterns.Given as goal

abbrev pub invariant-loop-i : goal.invariant-loop-i
invariant-loop-i l = l.out.items ≡ l.fn.out.items ++ flat_map statement_patterns (take l.i l.statements)
