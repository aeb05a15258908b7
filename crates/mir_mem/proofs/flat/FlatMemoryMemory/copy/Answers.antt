use Rattle.std.proofs.Common.{rules, IsSome}
use Rattle.mir.specs.Areas.{bytes_at}
use Rattle.mir_mem.specs.Flat.{areas_of}
use Rattle.mir_mem.proofs.Parts.{copy_refused}
use Rattle.mir_mem.proofs.flat.FlatMemoryMemory.copy.Goals as goal

pub returns-else-put_from-clause-err : goal.returns-else-put_from-clause-err
returns-else-put_from-clause-err c =
    let there : IsSome (bytes_at (areas_of c.args.self.now) c.args.from.addr c.args.from.size) = search rules in
    copy_refused (areas_of c.args.self.now) c.args.to c.args.from c.bad_write.result there c.if-put_from.ensures.refused c.bad_write.ensures
