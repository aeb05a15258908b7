use Rattle.std.proofs.Common.{◌∙◌, ap}
use Rattle.std.specs.Option.{option_or}
use Rattle.world_check.specs.Meets.{Meets}
use Rattle.world_check.specs.WorldPlaces.{of_code}
use Rattle.world_check.specs.declared.fault.CheckRow.TheVariants.{C1}
use Rattle.world_check.specs.declared.place.TableName.TheVariants.{Bodies}
use Rattle.check_trees.proofs.First.{found_is}
use Rattle.world_check.proofs.FoundIds.{code_found}
use Rattle.world_check.proofs.Walks.{in_table_is}
use Rattle.world_check.proofs.ranges.wrong_body.Goals as goal

pub returns : goal.returns
returns c =
    let bodies = in_table_is Bodies _ _ _ _ c.in_table-bodies.ensures c.len.ensures in
    found_is (Meets C1 c.args.db.now) (of_code c.args.db.now) _ c.or.result (c.or.ensures ∙ ap (option_or c.wrong_closure.result) bodies) (code_found c.args.db.now c.wrong_closure.result _ c.wrong_closure.ensures c.in_ok-found.ensures)
