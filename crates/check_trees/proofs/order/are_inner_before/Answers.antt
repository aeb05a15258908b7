use Rattle.std.proofs.Common.{◌≡◌, ◌∙◌, ◌++◌, ap, subst, Decides}
use Rattle.std.proofs.lemmas.Bool.Decides.{Decides-at}
use Rattle.world.specs.Nodes.{patterns_of}
use Rattle.check_trees.specs.Tree.{HoldBelow}
use Rattle.check_trees.proofs.Reaches.{patterns_shallow}
use Rattle.check_trees.proofs.order.are_inner_before.Goals as goal

pub reach_of_pats-requires-clause-shallow : goal.reach_of_pats-requires-clause-shallow
reach_of_pats-requires-clause-shallow c =
    let all : c.as_slice.result.now ≡ patterns_of c.args.node.now = c.as_slice.ensures.value ∙ c.in_ok-push_patterns.ensures ∙ ap (λ numbers. numbers ++ patterns_of c.args.node.now) c.new-patterns.ensures.items in
    patterns_shallow c.args.body.now c.args.e c.args.node.now c.as_slice.result.now all c.requires.at c.requires.shallow

pub returns-clause-before : goal.returns-clause-before
returns-clause-before c =
    let all : c.as_slice.result.now ≡ patterns_of c.args.node.now = c.as_slice.ensures.value ∙ c.in_ok-push_patterns.ensures ∙ ap (λ numbers. numbers ++ patterns_of c.args.node.now) c.new-patterns.ensures.items in
    subst (λ ids. Decides c.is_before.result (HoldBelow c.args.body.now ids c.args.e)) all
    (Decides-at c.is_before.result _ c.is_before.ensures (c.in_ok-reach.ensures.reach c.args.e))
