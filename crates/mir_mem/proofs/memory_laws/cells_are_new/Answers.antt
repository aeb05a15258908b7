use Rattle.mir_mem.proofs.Growing.{cells_new}
use Rattle.mir_mem.proofs.memory_laws.cells_are_new.Goals as goal

pub returns : goal.returns
returns c = cells_new
