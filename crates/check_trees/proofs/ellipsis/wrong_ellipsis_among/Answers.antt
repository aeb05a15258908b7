use Rattle.std.proofs.Common.{not, rules, tests}
use Rattle.std.proofs.lemmas.Iterator.{YieldsList-from_slice}
use Rattle.std.proofs.lemmas.Iterator.Search.{position_from_yields_List}
use Rattle.check_trees.specs.Ellipsis.{is_ellipsis_inside}
use Rattle.check_trees.proofs.Listed.{position_finds}
use Rattle.check_trees.proofs.ellipsis.wrong_ellipsis_among.Goals as goal

pub returns : goal.returns
returns c =
    let found = position_from_yields_List (λ pattern. not (is_ellipsis_inside pattern)) _ _ c.position.result c.position.ensures.ran (YieldsList-from_slice c.args.pats.now cc) (λ x b q k. search (rules, tests)) in
    position_finds is_ellipsis_inside c.args.pats.now c.position.result found
