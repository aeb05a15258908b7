use Rattle.std.proofs.Common.{◌≡◌, drop}
use Rattle.std.specs.Option.{option_copied}
use Rattle.mir.specs.Places.{leads_past}
use Rattle.mir_rows.proofs.bounds.leads_past.Given as goal

-- whether one of the elements from here on is past its array's end is whether one of all is
abbrev pub invariant-loop-elem : goal.invariant-loop-elem
invariant-loop-elem g l = leads_past l.db (g.N.Numbers.held l.numbers) (drop l.elem-index l.elements) (option_copied l.seen) ≡ leads_past l.db (g.N.Numbers.held l.numbers) l.elements (option_copied l.ty)
