use Rattle.std.proofs.Common.{take}
use Rattle.std.specs.List.{All}
use Rattle.mir.specs.Closed.{HasBlock}
use Rattle.mir.proofs.body.MirBody.has_blocks.Given as goal

abbrev pub invariant-loop-block : goal.invariant-loop-block
invariant-loop-block l = All (HasBlock l.self) (take l.block-index l.blocks)
