use Rattle.std.proofs.Common.{take}
use Rattle.std.specs.List.{All}
use Rattle.mir.specs.Closed.{IsClosedBlock}
use Rattle.mir.proofs.body.MirBody.are_blocks_closed.Given as goal

abbrev pub invariant-loop-block : goal.invariant-loop-block
invariant-loop-block l = All (IsClosedBlock l.self) (take l.block-index l.blocks)
