use Rattle.std.proofs.Common.{ap, ◌∙◌}
use Rattle.std.specs.Option.{option_or}
use Rattle.check_ids.specs.Parts.{parts_of}
use Rattle.check_trees.proofs.First.{found_is}
use Rattle.check_ids.proofs.Wrong.{parts_found}
use Rattle.check_ids.proofs.parts.wrong_part.Goals as goal

pub returns : goal.returns
returns c =
    let w = c.args.db.now in
    let infer = c.args.infer.now in
    found_is _ (parts_of c.args.body.now) _ c.or-3.result (c.or-3.ensures ∙ ap (option_or c.in_ok-exprs.exprs) (c.or-2.ensures ∙ ap (option_or c.in_ok-pats.pats) c.or.ensures))
    (parts_found w c.args.body.now infer c.in_ok-exprs.exprs c.in_ok-pats.pats c.wrong_binding.result c.wrong_label_or_rest-rest.result (c.in_ok-exprs.ensures w infer) (c.in_ok-pats.ensures w infer) (c.wrong_binding.ensures w infer) c.wrong_label_or_rest-rest.ensures)
