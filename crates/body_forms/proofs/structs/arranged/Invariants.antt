use Rattle.std.proofs.Common.{◌≡◌, drop}
use Rattle.body_forms.specs.Structs.{arranged}
use Rattle.body_forms.proofs.Arranged.{arranged-with}
use Rattle.body_forms.proofs.structs.arranged.Given as goal

-- with those of the fields from here on they are those of all
abbrev pub invariant-loop-field : goal.invariant-loop-field
invariant-loop-field l = arranged-with l.all (arranged (drop l.field-index l.fields) l.written l.operands) ≡ arranged l.fields l.written l.operands
