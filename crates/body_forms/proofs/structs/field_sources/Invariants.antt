use Rattle.std.proofs.Common.{◌≡◌, ◌++◌, drop, map}
use Rattle.source_meaning.specs.Structs.{field_sources}
use Rattle.body_forms.specs.Form.{core_source}
use Rattle.body_forms.proofs.structs.field_sources.Given as goal

-- with those of the fields from here on they are those of all
abbrev pub invariant-loop-i : goal.invariant-loop-i
invariant-loop-i l = map core_source l.sources ++ field_sources l.literal.made.id l.i (drop l.i l.fields) l.written ≡ field_sources l.literal.made.id 0 l.fields l.written
