use Rattle.mir_mem.proofs.Growing.{cells_apart, cells_apart_from_old}
use Rattle.mir_mem.proofs.memory_laws.cells_are_apart.Goals as goal

pub returns-clause-new : goal.returns-clause-new
returns-clause-new c = cells_apart

pub returns-clause-old : goal.returns-clause-old
returns-clause-old c = cells_apart_from_old
