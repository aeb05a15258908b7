use Rattle.std.proofs.Common.{◌≡◌, take}
use Rattle.mir.specs.ProjectionIds.{AreIds}
use Rattle.mir.proofs.projection_store.ProjectionStoreTryClone.try_clone.Given as goal

abbrev pub invariant-loop-i : goal.invariant-loop-i
invariant-loop-i l = record {
  copied : l.projections.items ≡ take l.i l.all;
  right : AreIds (take l.i l.all) l.ids.entries;
}
