use Rattle.mir_mem.proofs.Growing.{blocks_new, blocks_apart_from_old}
use Rattle.mir_mem.proofs.memory_laws.blocks_are_new.Goals as goal

pub returns-clause-new : goal.returns-clause-new
returns-clause-new c = blocks_new

pub returns-clause-old : goal.returns-clause-old
returns-clause-old c = blocks_apart_from_old
