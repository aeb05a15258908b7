use Rattle.std.proofs.Common.{take}
use Rattle.std.specs.List.{AllZip}
use Rattle.world.specs.declared.items.StructRow.{StructRow}
use Rattle.check_layouts.specs.inner.Places.{AreFieldsFixed}
use Rattle.check_layouts.proofs.places.struct_places.Given as goal

abbrev pub invariant-loop-row : goal.invariant-loop-row
invariant-loop-row l = AllZip (λ (row : StructRow) own. AreFieldsFixed l.db row.fields own) (take l.row-index l.items) l.places
