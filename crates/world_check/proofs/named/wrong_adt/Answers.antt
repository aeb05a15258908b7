use Rattle.std.proofs.Common.{◌∙◌}
use Rattle.world_check.specs.Meets.{Meets}
use Rattle.world_check.specs.WorldPlaces.{of_adts}
use Rattle.world_check.specs.declared.fault.CheckRow.TheVariants.{C1}
use Rattle.check_trees.proofs.First.{found_is}
use Rattle.world_check.proofs.FoundIds.{adts_found}
use Rattle.world_check.proofs.Segments.{or_both}
use Rattle.world_check.proofs.Walks.{wrong_adt}
use Rattle.world_check.proofs.named.wrong_adt.Goals as goal

pub returns : goal.returns
returns c =
    let enums = c.or-enums.ensures ∙ or_both _ _ _ _ c.wrong_table.ensures c.wrong_table-variants.ensures in
    let unions = c.or-unions.ensures ∙ or_both _ _ _ _ c.wrong_table-2.ensures enums in
    found_is (Meets C1 c.args.db.now) (of_adts c.args.db.now) (wrong_adt c.args.db.now) c.or.result (c.or.ensures ∙ or_both _ _ _ _ c.wrong_table-3.ensures unions) (adts_found c.args.db.now)
