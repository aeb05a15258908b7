use Rattle.std.proofs.Common.{◌≡◌, ◌∙◌, ◌++◌, ap}
use Rattle.world.specs.Nodes.{subpatterns_of}
use Rattle.check_trees.proofs.Orders.{below_at}
use Rattle.check_trees.proofs.order.are_parts_before.Goals as goal

pub returns : goal.returns
returns c =
    let all : c.as_slice.result.now ≡ subpatterns_of c.args.node.now = c.as_slice.ensures.value ∙ c.in_ok-push_subpatterns.ensures ∙ ap (λ numbers. numbers ++ subpatterns_of c.args.node.now) c.new-parts.ensures.items in
    below_at c.as_slice.result.now (subpatterns_of c.args.node.now) c.args.p c.are_below.result all c.are_below.ensures
