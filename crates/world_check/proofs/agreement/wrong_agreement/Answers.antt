use Rattle.std.proofs.Common.{◌≡◌, refl, ◌∙◌}
use Rattle.check_items.specs.Agree.{has_all_params, is_closure_row}
use Rattle.world_check.specs.Meets.{Meets}
use Rattle.world_check.specs.WorldPlaces.{places}
use Rattle.world_check.specs.declared.fault.CheckRow.TheVariants.{C7}
use Rattle.world_check.specs.declared.place.TableName.TheVariants.{Functions, Closures}
use Rattle.check_trees.proofs.First.{found_is}
use Rattle.world_check.proofs.FoundPlaces.{agreement_found}
use Rattle.world_check.proofs.Segments.{or_both}
use Rattle.world_check.proofs.Walks.{row_found, wrong_row}
use Rattle.world_check.proofs.agreement.wrong_agreement.Goals as goal

pub returns : goal.returns
returns c =
    let world = c.args.db.now in
    let closures : c.row_place.result ≡ wrong_row Closures (is_closure_row world) world.closures = row_found Closures (is_closure_row world) c.as_slice.result.now world.closures c.wrong_closure_expr_among-closure.result c.row_place.result c.row_place.ensures c.wrong_closure_expr_among-closure.ensures c.as_slice.ensures in
    let functions : c.row_place-2.result ≡ wrong_row Functions (has_all_params world) world.functions = row_found Functions (has_all_params world) c.as_slice-2.result.now world.functions c.wrong_signature_among-function.result c.row_place-2.result c.row_place-2.ensures c.wrong_signature_among-function.ensures c.as_slice-2.ensures in
    let last = c.or-last.ensures ∙ or_both c.row_place.result (wrong_row Closures (is_closure_row world) world.closures) c.wrong_pattern-ellipsis.result c.wrong_pattern-ellipsis.result closures refl in
    let second = c.or-second.ensures ∙ or_both c.numbered_place.result _ c.or-last.result _ c.numbered_place.ensures last in
    let all = c.or.ensures ∙ or_both c.row_place-2.result (wrong_row Functions (has_all_params world) world.functions) c.or-second.result _ functions second in
    found_is (Meets C7 world) (places world) _ c.or.result all
    (agreement_found world _ c.wrong_pattern-ellipsis.result c.in_ok-unlisted.ensures.none c.in_ok-unlisted.ensures.wrong c.in_ok-unlisted.ensures.first c.wrong_pattern-ellipsis.ensures)
