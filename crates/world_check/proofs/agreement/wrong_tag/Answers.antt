use Rattle.check_layouts.proofs.Decided.{is_tag_right}
use Rattle.world_check.specs.Meets.{Meets}
use Rattle.world_check.specs.WorldPlaces.{places}
use Rattle.world_check.specs.declared.fault.CheckRow.TheVariants.{C6}
use Rattle.world_check.specs.declared.place.TableName.TheVariants.{Layouts}
use Rattle.check_trees.proofs.First.{found_is}
use Rattle.world_check.proofs.FoundPlaces.{tag_found}
use Rattle.world_check.proofs.Walks.{row_found, wrong_tag}
use Rattle.world_check.proofs.agreement.wrong_tag.Goals as goal

pub returns : goal.returns
returns c =
    let place = row_found Layouts (is_tag_right c.args.db.now) c.as_slice.result.now c.args.db.now.layouts c.wrong_tag_among.result c.row_place.result c.row_place.ensures c.wrong_tag_among.ensures c.as_slice.ensures in
    found_is (Meets C6 c.args.db.now) (places c.args.db.now) (wrong_tag c.args.db.now) c.row_place.result place (tag_found c.args.db.now)
