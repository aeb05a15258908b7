use Rattle.world_check.proofs.RightBody.{body_decides}
use Rattle.world_check.proofs.typed_body.check_body.Goals as goal

pub returns : goal.returns
returns c =
    body_decides c.args.db.now c.args.body.now c.args.infer.now c.in_ok-part.part c.in_ok-tree.tree c.in_ok-inside.inside c.wrong_ellipsis.result c.finds_nothing.result
    c.in_ok-part.ensures c.in_ok-tree.ensures c.in_ok-inside.ensures c.wrong_ellipsis.ensures c.finds_nothing.ensures
