use Rattle.std.proofs.Common.{◌≡◌, drop}
use Rattle.std.specs.Option.{option_copied}
use Rattle.mir.specs.Places.{type_behind}
use Rattle.mir_rows.proofs.places.type_behind.Given as goal

-- the elements from here on lead to what all lead to
abbrev pub invariant-loop-elem : goal.invariant-loop-elem
invariant-loop-elem l = type_behind l.db (drop l.elem-index l.elements) (option_copied l.seen) ≡ type_behind l.db l.elements (option_copied l.ty)
