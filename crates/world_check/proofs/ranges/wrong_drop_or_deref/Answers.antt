use Rattle.std.proofs.Common.{[], ◌∷◌, ◌∙◌}
use Rattle.world_check.specs.Meets.{Meets}
use Rattle.world_check.specs.declared.fault.CheckRow.TheVariants.{C1}
use Rattle.world_check.specs.declared.place.NamedFunction.TheVariants.{Drop, Deref, DerefMut}
use Rattle.world_check.specs.declared.place.Place.TheVariants.{Function}
use Rattle.check_trees.proofs.First.{found_is}
use Rattle.world_check.proofs.FoundIds.{drop_or_deref_found}
use Rattle.world_check.proofs.Segments.{or_both}
use Rattle.world_check.proofs.Walks.{wrong_drop_or_deref}
use Rattle.world_check.proofs.ranges.wrong_drop_or_deref.Goals as goal

pub returns : goal.returns
returns c =
    let deref = c.or-deref.ensures ∙ or_both _ _ _ _ c.wrong_lang_function.ensures c.wrong_lang_function-deref_mut.ensures in
    found_is (Meets C1 c.args.db.now) (Function Drop ∷ Function Deref ∷ Function DerefMut ∷ []) (wrong_drop_or_deref c.args.db.now) c.or.result (c.or.ensures ∙ or_both _ _ _ _ c.wrong_lang_function-2.ensures deref) (drop_or_deref_found c.args.db.now)
