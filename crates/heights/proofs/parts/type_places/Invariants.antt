use Rattle.std.proofs.Common.{◌≡◌, Some, map, option_and_then, take}
use Rattle.source_meaning.specs.Heights.{row_place}
use Rattle.heights.proofs.parts.type_places.Given as goal

abbrev pub invariant-loop-ty : goal.invariant-loop-ty
invariant-loop-ty l = l.places ≡ map (option_and_then (row_place l.db)) (map Some (take l.ty-index l.types))
