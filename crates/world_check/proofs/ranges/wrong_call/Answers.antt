use Rattle.std.proofs.Common.{[], ◌∷◌, ◌∙◌}
use Rattle.world_check.specs.Meets.{Meets}
use Rattle.world_check.specs.declared.fault.CheckRow.TheVariants.{C1}
use Rattle.world_check.specs.declared.place.NamedFunction.TheVariants.{Call, CallMut, CallOnce}
use Rattle.world_check.specs.declared.place.Place.TheVariants.{Function}
use Rattle.check_trees.proofs.First.{found_is}
use Rattle.world_check.proofs.FoundIds.{call_found}
use Rattle.world_check.proofs.Segments.{or_both}
use Rattle.world_check.proofs.Walks.{wrong_call}
use Rattle.world_check.proofs.ranges.wrong_call.Goals as goal

pub returns : goal.returns
returns c =
    let call_mut = c.or-call_mut.ensures ∙ or_both _ _ _ _ c.wrong_lang_function.ensures c.wrong_lang_function-call_once.ensures in
    found_is (Meets C1 c.args.db.now) (Function Call ∷ Function CallMut ∷ Function CallOnce ∷ []) (wrong_call c.args.db.now) c.or.result (c.or.ensures ∙ or_both _ _ _ _ c.wrong_lang_function-2.ensures call_mut) (call_found c.args.db.now)
