use Rattle.std.proofs.Common.{take}
use Rattle.std.specs.List.{AllZip}
use Rattle.world.specs.declared.items.FieldRow.{FieldRow}
use Rattle.check_layouts.specs.inner.Places.{IsFixed}
use Rattle.check_layouts.proofs.places.field_places.Given as goal

abbrev pub invariant-loop-field : goal.invariant-loop-field
invariant-loop-field l = AllZip (λ (field : FieldRow) place. IsFixed l.db field.ty place) (take l.field-index l.items) l.places
