use Rattle.std.proofs.Common.{None, ◌∙◌, ap}
use Rattle.world_check.specs.Meets.{Meets}
use Rattle.world_check.specs.WorldPlaces.{of_items}
use Rattle.world_check.specs.declared.fault.CheckRow.TheVariants.{C1}
use Rattle.world_check.specs.declared.place.TableName.TheVariants.{Crates}
use Rattle.check_trees.proofs.First.{found_is}
use Rattle.world_check.proofs.FoundIds.{items_found}
use Rattle.world_check.proofs.Segments.{or_both}
use Rattle.world_check.proofs.Walks.{in_table, wrong_item}
use Rattle.world_check.proofs.named.wrong_item.Goals as goal

pub returns : goal.returns
returns c =
    let crates = c.wrong_length.ensures ∙ ap (λ n. in_table Crates n None) c.len.ensures in
    let consts = c.or-consts.ensures ∙ or_both _ _ _ _ c.wrong_table.ensures c.wrong_table-statics.ensures in
    let functions = c.or-functions.ensures ∙ or_both _ _ _ _ c.wrong_table-2.ensures consts in
    found_is (Meets C1 c.args.db.now) (of_items c.args.db.now) (wrong_item c.args.db.now) c.or.result (c.or.ensures ∙ or_both _ _ _ _ crates functions) (items_found c.args.db.now)
