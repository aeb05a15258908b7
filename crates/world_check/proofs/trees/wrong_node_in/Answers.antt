use Rattle.std.proofs.Common.{None, Some, ap, subst}
use Rattle.check_trees.specs.Tree.{FindsWrongNode}
use Rattle.world_check.specs.Meets.{Meets}
use Rattle.world_check.specs.WorldPlaces.{node_place, of_body}
use Rattle.world_check.specs.declared.fault.CheckRow.TheVariants.{C2}
use Rattle.check_trees.proofs.First.{found_is}
use Rattle.world_check.proofs.FoundTrees.{tree_in_body}
use Rattle.world_check.proofs.trees.wrong_node_in.Goals as goal

pub returns-in-Some : goal.returns-in-Some
returns-in-Some c world there =
    let first = subst (FindsWrongNode c.args.row.now.body) c.in-Some.is c.in_ok-node.ensures in
    found_is (Meets C2 world) (of_body c.args.b c.args.row.now.body) (Some (node_place c.args.b c.in-Some.node)) (Some c.node_place.result) (ap Some c.node_place.ensures) (tree_in_body world c.args.b c.args.row.now (Some c.in-Some.node) there first)

pub returns-in-None : goal.returns-in-None
returns-in-None c world there = tree_in_body world c.args.b c.args.row.now None there (subst (FindsWrongNode c.args.row.now.body) c.in-None.is c.in_ok-node.ensures)
