use Rattle.world_check.specs.Meets.{Meets}
use Rattle.world_check.specs.WorldPlaces.{places}
use Rattle.world_check.specs.declared.fault.CheckRow.TheVariants.{C5}
use Rattle.check_trees.proofs.First.{found_is}
use Rattle.world_check.proofs.FoundPlaces.{layout_found}
use Rattle.world_check.proofs.agreement.wrong_layout.Goals as goal

pub returns : goal.returns
returns c =
    found_is (Meets C5 c.args.db.now) (places c.args.db.now) _ c.row_place.result c.row_place.ensures (layout_found c.args.db.now _ c.in_ok-found.ensures.none c.in_ok-found.ensures.wrong c.in_ok-found.ensures.first)
