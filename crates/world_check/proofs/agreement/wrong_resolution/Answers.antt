use Rattle.std.proofs.Common.{◌∙◌}
use Rattle.std.specs.Option.{option_or}
use Rattle.check_items.specs.Closed.{is_const_impl_closed, is_impl_closed, is_normal_closed}
use Rattle.world_check.specs.Meets.{Meets}
use Rattle.world_check.specs.WorldPlaces.{places}
use Rattle.world_check.specs.declared.fault.CheckRow.TheVariants.{C4}
use Rattle.world_check.specs.declared.place.TableName.TheVariants.{Normals, Impls, ConstImpls}
use Rattle.world_check.proofs.FoundPlaces.{resolution_found}
use Rattle.check_trees.proofs.First.{found_is}
use Rattle.world_check.proofs.Segments.{or_both}
use Rattle.world_check.proofs.Walks.{row_found, wrong_resolution, wrong_row}
use Rattle.world_check.proofs.agreement.wrong_resolution.Goals as goal

pub returns : goal.returns
returns c =
    let world = c.args.db.now in
    let consts = row_found ConstImpls is_const_impl_closed c.as_slice.result.now world.const_impls c.wrong_const_impl_among-consts.result c.row_place-last.result c.row_place-last.ensures c.wrong_const_impl_among-consts.ensures c.as_slice.ensures in
    let functions = row_found Impls is_impl_closed c.as_slice-2.result.now world.impls c.wrong_impl_among-functions.result c.row_place.result c.row_place.ensures c.wrong_impl_among-functions.ensures c.as_slice-2.ensures in
    let types = row_found Normals is_normal_closed c.as_slice-3.result.now world.normals c.wrong_normal_among-types.result c.row_place-2.result c.row_place-2.ensures c.wrong_normal_among-types.ensures c.as_slice-3.ensures in
    let second = c.or-second.ensures ∙ or_both c.row_place.result (wrong_row Impls is_impl_closed world.impls) c.row_place-last.result (wrong_row ConstImpls is_const_impl_closed world.const_impls) functions consts in
    let all = c.or.ensures ∙ or_both c.row_place-2.result (wrong_row Normals is_normal_closed world.normals) c.or-second.result (option_or (wrong_row Impls is_impl_closed world.impls) (wrong_row ConstImpls is_const_impl_closed world.const_impls)) types second in
    found_is (Meets C4 world) (places world) (wrong_resolution world) c.or.result all (resolution_found world)
