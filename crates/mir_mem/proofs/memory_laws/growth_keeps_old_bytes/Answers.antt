use Rattle.mir_mem.proofs.Growing.{cells_keep, blocks_keep}
use Rattle.mir_mem.proofs.memory_laws.growth_keeps_old_bytes.Goals as goal

pub returns-clause-cells : goal.returns-clause-cells
returns-clause-cells c = cells_keep

pub returns-clause-blocks : goal.returns-clause-blocks
returns-clause-blocks c = blocks_keep
