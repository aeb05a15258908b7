-- Places that are whole locals.
use Rattle.mir.specs.declared.ids.LocalId.{LocalId}
use Rattle.mir.specs.declared.operand.Place.{Place}
use Rattle.mir.specs.Projections.{empty_id}

-- the place that a whole local is
abbrev pub whole_place : LocalId → Place
whole_place local = record { local = local; projection = empty_id }
