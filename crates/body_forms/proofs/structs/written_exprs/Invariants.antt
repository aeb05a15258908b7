use Rattle.std.proofs.Common.{◌≡◌, ◌++◌, drop}
use Rattle.world.specs.Nodes.{expr_numbers, field_numbers}
use Rattle.body_forms.proofs.structs.written_exprs.Given as goal

-- with those of the fields from here on they are those of all
abbrev pub invariant-loop-field : goal.invariant-loop-field
invariant-loop-field l = expr_numbers l.exprs ++ field_numbers (drop l.field-index l.written) ≡ field_numbers l.written
