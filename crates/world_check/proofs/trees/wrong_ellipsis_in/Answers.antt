use Rattle.std.proofs.Common.{◌≡◌, None, Some, subst, true}
use Rattle.check_trees.specs.Ellipsis.{is_ellipsis_inside}
use Rattle.check_trees.specs.First.{FindsFirst}
use Rattle.world_check.proofs.FoundTrees.{ellipsis_in_body}
use Rattle.world_check.proofs.trees.wrong_ellipsis_in.Goals as goal

pub returns-in-Some : goal.returns-in-Some
returns-in-Some c world there =
    ellipsis_in_body world c.args.b c.args.row.now (Some c.in-Some.i) there (subst (FindsFirst (λ p pattern. is_ellipsis_inside pattern ≡ true) c.args.row.now.body.pats) c.in-Some.is c.wrong_ellipsis.ensures)

pub returns-in-None : goal.returns-in-None
returns-in-None c world there =
    ellipsis_in_body world c.args.b c.args.row.now None there (subst (FindsFirst (λ p pattern. is_ellipsis_inside pattern ≡ true) c.args.row.now.body.pats) c.in-None.is c.wrong_ellipsis.ensures)
