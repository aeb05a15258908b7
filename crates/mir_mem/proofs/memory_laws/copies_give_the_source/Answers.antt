use Rattle.mir_mem.proofs.Writing.{copies_source, copies_keep}
use Rattle.mir_mem.proofs.memory_laws.copies_give_the_source.Goals as goal

pub returns-clause-source : goal.returns-clause-source
returns-clause-source c = copies_source

pub returns-clause-others : goal.returns-clause-others
returns-clause-others c = copies_keep
