use Rattle.world_check.proofs.RightBody.{node_decides}
use Rattle.world_check.proofs.typed_body.is_tree.Goals as goal

pub returns : goal.returns
returns c = node_decides c.args.body.now c.in_ok-wrong_node.field-0 c.is_none.result c.is_none.ensures c.in_ok-wrong_node.ensures
