use Rattle.std.proofs.Common.{take}
use Rattle.std.specs.List.{AllZip}
use Rattle.world.specs.declared.closures.Capture.{Capture}
use Rattle.check_layouts.specs.inner.Places.{IsFixed}
use Rattle.check_layouts.proofs.places.capture_places.Given as goal

abbrev pub invariant-loop-capture : goal.invariant-loop-capture
invariant-loop-capture l = AllZip (λ (capture : Capture) place. IsFixed l.db capture.ty place) (take l.capture-index l.items) l.places
