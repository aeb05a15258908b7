use Rattle.std.proofs.Common.{None, ◌∙◌, ap}
use Rattle.world_check.specs.Meets.{Meets}
use Rattle.world_check.specs.WorldPlaces.{of_names}
use Rattle.world_check.specs.declared.fault.CheckRow.TheVariants.{C1}
use Rattle.world_check.specs.declared.place.TableName.TheVariants.{Traits, Aliases, TypeParams}
use Rattle.check_trees.proofs.First.{found_is}
use Rattle.world_check.proofs.FoundIds.{names_found}
use Rattle.world_check.proofs.Segments.{or_both}
use Rattle.world_check.proofs.Walks.{in_table, wrong_trait_or_param}
use Rattle.world_check.proofs.named.wrong_trait_or_param.Goals as goal

pub returns : goal.returns
returns c =
    let type_params = c.or-type_params.ensures ∙ or_both _ _ _ _ (c.wrong_length.ensures ∙ ap (λ n. in_table TypeParams n None) c.len.ensures) c.wrong_table-const_params.ensures in
    let aliases = c.or-aliases.ensures ∙ or_both _ _ _ _ (c.wrong_length-2.ensures ∙ ap (λ n. in_table Aliases n None) c.len-2.ensures) type_params in
    let traits = c.wrong_length-3.ensures ∙ ap (λ n. in_table Traits n None) c.len-3.ensures in
    found_is (Meets C1 c.args.db.now) (of_names c.args.db.now) (wrong_trait_or_param c.args.db.now) c.or.result (c.or.ensures ∙ or_both _ _ _ _ traits aliases) (names_found c.args.db.now)
