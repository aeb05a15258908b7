use Rattle.std.proofs.Common.{None, Some, ap, subst}
use Rattle.check_ids.specs.Parts.{FindsWrong, parts_of}
use Rattle.check_trees.proofs.First.{found_is}
use Rattle.world_check.specs.Meets.{Meets}
use Rattle.world_check.specs.WorldPlaces.{of_body, part_place}
use Rattle.world_check.specs.declared.fault.CheckRow.TheVariants.{C1}
use Rattle.world_check.proofs.FoundIds.{part_in_body}
use Rattle.world_check.proofs.ranges.wrong_part_in.Goals as goal

pub returns-in-Some : goal.returns-in-Some
returns-in-Some c there =
    let row = c.args.row.now in
    let first = subst (FindsWrong c.args.db.now row.body row.infer (parts_of row.body)) c.in-Some.is c.in_ok-part.ensures in
    found_is (Meets C1 c.args.db.now) (of_body c.args.b row.body) (Some (part_place c.args.b c.in-Some.part)) (Some c.part_place.result) (ap Some c.part_place.ensures) (part_in_body c.args.db.now c.args.b row (Some c.in-Some.part) there first)

pub returns-in-None : goal.returns-in-None
returns-in-None c there =
    let row = c.args.row.now in
    part_in_body c.args.db.now c.args.b row None there (subst (FindsWrong c.args.db.now row.body row.infer (parts_of row.body)) c.in-None.is c.in_ok-part.ensures)
