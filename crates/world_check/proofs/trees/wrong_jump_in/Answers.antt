use Rattle.std.proofs.Common.{None, Some, subst}
use Rattle.check_trees.specs.First.{FindsFirst}
use Rattle.check_trees.specs.Jumps.{IsJumpInside}
use Rattle.world_check.proofs.FoundTrees.{jump_in_body}
use Rattle.world_check.proofs.trees.wrong_jump_in.Goals as goal

pub returns-in-Some : goal.returns-in-Some
returns-in-Some c world there =
    jump_in_body world c.args.b c.args.row.now (Some c.in-Some.i) there (subst (FindsFirst (IsJumpInside c.args.row.now.body) c.args.row.now.body.exprs) c.in-Some.is c.in_ok-i.ensures)

pub returns-in-None : goal.returns-in-None
returns-in-None c world there =
    jump_in_body world c.args.b c.args.row.now None there (subst (FindsFirst (IsJumpInside c.args.row.now.body) c.args.row.now.body.exprs) c.in-None.is c.in_ok-i.ensures)
