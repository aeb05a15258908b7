use Rattle.std.proofs.Common.{◌≡◌, true, rules}
use Rattle.check_trees.specs.Jumps.{IsJumpInside}
use Rattle.check_trees.proofs.Listed.{before_more, finds_none}
use Rattle.check_trees.proofs.jumps.wrong_jump_among.Goals as goal

pub loop-i-preserved : goal.loop-i-preserved
loop-i-preserved c =
    let yes : c.is_jump_inside.result ≡ true = search rules in
    before_more (IsJumpInside c.args.body.now) c.args.exprs.now c.loop-i.i c.index-exprs-i.result c.loop-i-test.true c.index-exprs-i.is c.loop-i.invariant (c.is_jump_inside.ensures.0 yes)

pub returns : goal.returns
returns c = finds_none (IsJumpInside c.args.body.now) c.args.exprs.now c.loop-i.i c.loop-i-test.false c.loop-i.invariant
