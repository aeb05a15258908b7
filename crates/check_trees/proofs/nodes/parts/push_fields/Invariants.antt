use Rattle.std.proofs.Common.{◌≡◌, ◌++◌, take}
use Rattle.world.specs.Nodes.{field_numbers}
use Rattle.check_trees.proofs.nodes.parts.push_fields.Given as goal

abbrev pub invariant-loop-i : goal.invariant-loop-i
invariant-loop-i l = l.out.items ≡ l.fn.out.items ++ field_numbers (take l.i l.fields)
