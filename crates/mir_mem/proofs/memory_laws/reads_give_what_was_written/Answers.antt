use Rattle.mir_mem.proofs.Writing.{reads_written}
use Rattle.mir_mem.proofs.memory_laws.reads_give_what_was_written.Goals as goal

pub returns : goal.returns
returns c = reads_written
