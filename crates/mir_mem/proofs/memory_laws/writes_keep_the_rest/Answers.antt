use Rattle.mir_mem.proofs.Writing.{writes_keep, writes_keep_lengths}
use Rattle.mir_mem.proofs.memory_laws.writes_keep_the_rest.Goals as goal

pub returns-clause-bytes : goal.returns-clause-bytes
returns-clause-bytes c = writes_keep

pub returns-clause-lengths : goal.returns-clause-lengths
returns-clause-lengths c = writes_keep_lengths
