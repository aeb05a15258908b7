use Rattle.std.proofs.Common.{slice_get, sym, subst}
use Rattle.world.specs.declared.closures.ClosureRow.{ClosureRow}
use Rattle.check_layouts.specs.Laid.{AreCaptured}
use Rattle.check_layouts.specs.Sizes.{layout_above}
use Rattle.check_layouts.specs.inner.Places.{AreCapturesFixed}
use Rattle.check_layouts.proofs.Deciding.{found_ok}
use Rattle.check_layouts.proofs.Kept.{own_captures}
use Rattle.check_layouts.proofs.fields.is_closure_inside.Goals as goal

pub returns-in-Some : goal.returns-in-Some
returns-in-Some c =
    found_ok (λ (row : ClosureRow). AreCaptured c.args.db.now (layout_above c.args.db.now c.args.i) c.args.size c.args.offsets.now c.args.args.now row.captures) (slice_get c.args.db.now.closures c.args.id.0)
    c.in-Some.row.now c.are_captures_inside.result c.in-Some.ensures c.are_captures_inside.ensures

pub are_captures_inside-requires : goal.are_captures_inside-requires
are_captures_inside-requires c =
    subst (AreCapturesFixed c.args.db.now c.in-Some.row.now.captures) (sym c.places_of_captures-own.ensures) (own_captures c.args.db.now c.args.places.now c.args.id.0 c.in-Some.row.now c.in-Some.ensures c.requires)
