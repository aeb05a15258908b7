use Rattle.std.proofs.Common.{rules, arith}
use Rattle.std.proofs.lemmas.List.{take_all}
use Rattle.std.proofs.lemmas.List.Elements.{All-more}
use Rattle.std.specs.List.{All}
use Rattle.mir.specs.Closed.{HasBlock}
use Rattle.mir.proofs.body.MirBody.has_blocks.Goals as goal

pub loop-block-preserved : goal.loop-block-preserved
loop-block-preserved c = All-more (HasBlock c.args.self.now) c.args.blocks.now c.loop-block.block-index (record { 0 = 0 }) c.loop-block-test.true c.loop-block.invariant (grind (arith, c.has_block.ensures))

pub returns : goal.returns
returns c =
    let all : All (HasBlock c.args.self.now) c.args.blocks.now = rw (take_all c.loop-block.block-index c.args.blocks.now (omega arith)) at c.loop-block.invariant in
    (λ _. all, λ _. search rules)
