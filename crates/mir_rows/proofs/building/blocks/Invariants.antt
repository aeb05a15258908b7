use Rattle.std.proofs.Common.{take}
use Rattle.mir_rows.specs.Rows.{AreBlocks}
use Rattle.mir_rows.specs.Spots.{prepared}
use Rattle.mir_rows.proofs.building.blocks.Given as goal

-- the rows of the blocks so far
abbrev pub invariant-loop-block : goal.invariant-loop-block
invariant-loop-block l = AreBlocks (prepared l.db l.body) (take l.block-index l.all) l.blocks.items
