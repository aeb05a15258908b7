use Rattle.std.proofs.Common.{not, rules, tests}
use Rattle.std.proofs.lemmas.Iterator.{YieldsList-from_slice}
use Rattle.std.proofs.lemmas.Iterator.Search.{position_from_yields_List}
use Rattle.check_ids.specs.Nodes.{is_binding_in_range}
use Rattle.check_trees.proofs.Listed.{position_finds}
use Rattle.check_ids.proofs.parts.wrong_binding_among.Goals as goal

pub returns : goal.returns
returns c =
    let found = position_from_yields_List (λ binding. not (is_binding_in_range c.args.body.now binding)) _ _ c.position.result c.position.ensures.ran (YieldsList-from_slice c.args.bindings.now cc) (λ x b q k. search (rules, tests)) in
    position_finds (is_binding_in_range c.args.body.now) c.args.bindings.now c.position.result found
