use Rattle.check_trees.proofs.Enclosures.{jump_to, no_jump}
use Rattle.check_trees.proofs.jumps.is_jump_inside.Goals as goal

pub returns-in-None : goal.returns-in-None
returns-in-None c = no_jump c.args.body.now c.args.e c.args.node.now c.jump_label.result c.jump_label.ensures c.in-None.is

pub returns-in-Some : goal.returns-in-Some
returns-in-Some c = jump_to c.args.body.now c.args.e c.args.node.now c.jump_label.result c.in-Some.label c.is_enclosed.result c.jump_label.ensures c.in-Some.is c.is_enclosed.ensures
