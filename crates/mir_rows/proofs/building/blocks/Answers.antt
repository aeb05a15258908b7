use Rattle.std.proofs.Common.{◌≡◌, ◌+◌, List, [], ◌∷◌, ◌++◌, take, sym, subst}
use Rattle.mir_rows.specs.declared.row.BlockRows.{BlockRows}
use Rattle.mir_rows.specs.Rows.{AreBlocks}
use Rattle.mir_rows.specs.Spots.{prepared}
use Rattle.mir_rows.proofs.Rows.{blocks-more}
use Rattle.mir_rows.proofs.building.blocks.Goals as goal

pub loop-block-preserved : goal.loop-block-preserved
loop-block-preserved c =
    let at = c.loop-block in
    let more : c.push.new.self.items ≡ at.blocks.items ++ c.in_ok-block_rows.field-0 ∷ [] = c.in_ok-push.ensures.items in
    subst (λ (blocks : List BlockRows). AreBlocks (prepared c.args.db.now c.args.body.now) (take (at.block-index + 1) c.as_slice-all.result.now) blocks) (sym more)
    (blocks-more (prepared c.args.db.now c.args.body.now) c.as_slice-all.result.now at.blocks.items at.block-index c.block-item.result c.in_ok-block_rows.field-0 c.loop-block-test.true c.block-item.is at.invariant c.in_ok-block_rows.ensures)
