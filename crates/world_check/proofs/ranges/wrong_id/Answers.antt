use Rattle.std.proofs.Common.{◌∙◌, ap}
use Rattle.std.specs.Option.{option_or}
use Rattle.world_check.specs.Meets.{Meets}
use Rattle.world_check.specs.WorldPlaces.{places}
use Rattle.world_check.specs.declared.fault.CheckRow.TheVariants.{C1}
use Rattle.check_trees.proofs.First.{found_is}
use Rattle.world_check.proofs.FoundIds.{id_found}
use Rattle.world_check.proofs.ranges.wrong_id.Goals as goal

pub returns : goal.returns
returns c =
    let keyed = c.or-keyed.ensures ∙ ap (option_or c.wrong_keyed_row.result) c.or-functions.ensures in
    let names = c.or-names.ensures ∙ ap (option_or c.wrong_trait_or_param.result) (c.or.ensures ∙ ap (option_or _) keyed) in
    let adts = c.or-adts.ensures ∙ ap (option_or c.wrong_adt.result) names in
    found_is (Meets C1 c.args.db.now) (places c.args.db.now) _ c.or-2.result (c.or-2.ensures ∙ ap (option_or c.wrong_item.result) adts)
    (id_found c.args.db.now c.wrong_item.result c.wrong_adt.result c.wrong_trait_or_param.result _ c.wrong_keyed_row.result c.wrong_drop_or_deref.result c.wrong_call.result c.wrong_item.ensures c.wrong_adt.ensures c.wrong_trait_or_param.ensures c.in_ok-bodies.ensures c.wrong_keyed_row.ensures c.wrong_drop_or_deref.ensures c.wrong_call.ensures)
