use Rattle.std.proofs.Common.{◌≡◌, ◌∙◌, ◌++◌, ap}
use Rattle.world.specs.Nodes.{children_of}
use Rattle.check_trees.proofs.Orders.{below_at}
use Rattle.check_trees.proofs.order.are_children_before.Goals as goal

pub returns : goal.returns
returns c =
    let all : c.as_slice.result.now ≡ children_of c.args.node.now = c.as_slice.ensures.value ∙ c.in_ok-push_children.ensures ∙ ap (λ numbers. numbers ++ children_of c.args.node.now) c.new-children.ensures.items in
    below_at c.as_slice.result.now (children_of c.args.node.now) c.args.e c.are_below.result all c.are_below.ensures
