use Rattle.std.proofs.Common.{◌≡◌, true, rules, sym, ◌∙◌}
use Rattle.check_ids.specs.Nodes.{is_pat_in_range}
use Rattle.check_trees.proofs.Listed.{before_more, finds_none}
use Rattle.check_ids.proofs.parts.wrong_pat_among.Goals as goal

pub loop-i-preserved : goal.loop-i-preserved
loop-i-preserved c =
    let yes : c.in_ok-is_pat_in_range.field-0 ≡ true = search rules in
    before_more (λ k node. is_pat_in_range c.args.body.now node ≡ true) c.args.nodes.now c.loop-i.i c.index-nodes-i.result c.loop-i-test.true c.index-nodes-i.is c.loop-i.invariant (sym c.in_ok-is_pat_in_range.ensures ∙ yes)

pub returns : goal.returns
returns c = finds_none (λ k node. is_pat_in_range c.args.body.now node ≡ true) c.args.nodes.now c.loop-i.i c.loop-i-test.false c.loop-i.invariant
