use Rattle.mir_mem.proofs.Padding.{padded_is}
use Rattle.mir_mem.proofs.pad.pad16.Goals as goal

pub returns-clause-number : goal.returns-clause-number
returns-clause-number c =
    let e = c.extension-byte.ensures in
    padded_is c.args.is_signed c.args.it.now _ c.extension-byte.result c.copy_from_slice.ensures.after c.requires e.negative e.positive e.unsigned c.type_inv.it
