use Rattle.std.proofs.Common.{take}
use Rattle.std.specs.List.{AllZip}
use Rattle.world.specs.declared.closures.ClosureRow.{ClosureRow}
use Rattle.check_layouts.specs.inner.Places.{AreCapturesFixed}
use Rattle.check_layouts.proofs.places.closure_places.Given as goal

abbrev pub invariant-loop-row : goal.invariant-loop-row
invariant-loop-row l = AllZip (λ (row : ClosureRow) own. AreCapturesFixed l.db row.captures own) (take l.row-index l.items) l.places
