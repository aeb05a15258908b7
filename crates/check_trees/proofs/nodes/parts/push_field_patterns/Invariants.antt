use Rattle.std.proofs.Common.{◌≡◌, ◌++◌, take}
use Rattle.std.specs.Prelude.{map}
use Rattle.world.specs.declared.pat.RecordFieldPat.{RecordFieldPat}
use Rattle.check_trees.proofs.nodes.parts.push_field_patterns.Given as goal

abbrev pub invariant-loop-i : goal.invariant-loop-i
invariant-loop-i l = l.out.items ≡ l.fn.out.items ++ map (λ (field : RecordFieldPat). field.pat.0) (take l.i l.fields)
