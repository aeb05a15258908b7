use Rattle.std.proofs.Common.{◌≡◌, None, Some, true}
use Rattle.check_trees.specs.Ellipsis.{is_ellipsis_inside}
use Rattle.check_trees.proofs.Listed.{finds_at}
use Rattle.check_trees.proofs.ellipsis.wrong_ellipsis.Goals as goal

pub returns-in-Some : goal.returns-in-Some
returns-in-Some c = finds_at (λ p pattern. is_ellipsis_inside pattern ≡ true) c.as_slice.result.now c.args.body.now.pats c.wrong_ellipsis_among.result (Some c.in-Some.p) c.as_slice.ensures c.in-Some.is c.wrong_ellipsis_among.ensures

pub returns-in-None : goal.returns-in-None
returns-in-None c = finds_at (λ p pattern. is_ellipsis_inside pattern ≡ true) c.as_slice.result.now c.args.body.now.pats c.wrong_ellipsis_among.result None c.as_slice.ensures c.in-None.is c.wrong_ellipsis_among.ensures
