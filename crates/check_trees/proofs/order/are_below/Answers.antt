use Rattle.std.proofs.Common.{ltb, rules, tests}
use Rattle.std.proofs.lemmas.Bool.Decides.{Decides-at}
use Rattle.std.proofs.lemmas.Iterator.{YieldsList-from_slice}
use Rattle.std.proofs.lemmas.Iterator.Search.{all_from_yields_List}
use Rattle.std.specs.List.{list_all}
use Rattle.check_trees.proofs.Orders.{below_decides}
use Rattle.check_trees.proofs.order.are_below.Goals as goal

pub returns : goal.returns
returns c =
    let same = all_from_yields_List (λ id. ltb id c.args.limit) _ _ c.all.result c.all.ensures.ran (YieldsList-from_slice c.args.ids.now cc) (λ x b q k. search (rules, tests)) in
    Decides-at c.all.result (list_all (λ id. ltb id c.args.limit) c.args.ids.now) same (below_decides c.args.ids.now c.args.limit)
