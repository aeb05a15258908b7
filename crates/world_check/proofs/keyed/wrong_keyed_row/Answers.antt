use Rattle.std.proofs.Common.{◌∙◌}
use Rattle.world_check.specs.Meets.{Meets}
use Rattle.world_check.specs.WorldPlaces.{of_keyed_rows}
use Rattle.world_check.specs.declared.fault.CheckRow.TheVariants.{C1}
use Rattle.check_trees.proofs.First.{found_is}
use Rattle.world_check.proofs.FoundIds.{keyed_found}
use Rattle.world_check.proofs.Segments.{or_both}
use Rattle.world_check.proofs.Walks.{wrong_keyed_row}
use Rattle.world_check.proofs.keyed.wrong_keyed_row.Goals as goal

pub returns : goal.returns
returns c =
    let impls = c.or-impls.ensures ∙ or_both _ _ _ _ c.wrong_row.ensures c.wrong_row-const_impls.ensures in
    let normals = c.or-normals.ensures ∙ or_both _ _ _ _ c.wrong_row-2.ensures impls in
    found_is (Meets C1 c.args.db.now) (of_keyed_rows c.args.db.now) (wrong_keyed_row c.args.db.now) c.or.result (c.or.ensures ∙ or_both _ _ _ _ c.wrong_row-3.ensures normals) (keyed_found c.args.db.now)
