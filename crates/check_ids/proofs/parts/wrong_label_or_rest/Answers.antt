use Rattle.std.proofs.Common.{[], ◌∷◌, ap, ◌∙◌}
use Rattle.std.specs.Option.{option_or}
use Rattle.check_names.specs.Known.{is_nameable}
use Rattle.check_trees.proofs.First.{found_is}
use Rattle.check_ids.specs.declared.part.BodyPart.TheVariants as part
use Rattle.check_ids.proofs.Wrong.{rest_found}
use Rattle.check_ids.proofs.parts.wrong_label_or_rest.Goals as goal

pub returns : goal.returns
returns c =
    let either = c.or.ensures ∙ ap (λ o. option_or o c.unless-rest.result) c.unless.ensures ∙ ap (option_or _) c.unless-rest.ensures in
    found_is _ (part.Labels ∷ part.Rest ∷ []) _ c.or.result either
    (rest_found c.args.db.now c.args.body.now c.args.infer.now c.is_nameable.result c.is_rest_right.result (c.is_nameable.ensures ∙ ap is_nameable c.len.ensures) c.is_rest_right.ensures)
