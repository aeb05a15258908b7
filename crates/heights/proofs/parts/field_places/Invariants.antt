use Rattle.std.proofs.Common.{◌≡◌, map, option_and_then, take}
use Rattle.source_meaning.specs.Heights.{row_place}
use Rattle.source_meaning.specs.Structs.{field_type}
use Rattle.heights.proofs.parts.field_places.Given as goal

abbrev pub invariant-loop-field : goal.invariant-loop-field
invariant-loop-field l = l.places ≡ map (option_and_then (row_place l.db)) (map (field_type l.db l.args) (take l.field-index l.fields))
