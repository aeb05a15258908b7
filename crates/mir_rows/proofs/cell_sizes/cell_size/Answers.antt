use Rattle.std.proofs.Common.{rules}
use Rattle.mir_rows.proofs.Alignments.{is_alignment}
use Rattle.mir_rows.proofs.cell_sizes.cell_size.Goals as goal

pub returns-clause-aligned : goal.returns-clause-aligned
returns-clause-aligned c = is_alignment c.args.db.now c.args.ty.now c.in-Some.layout.now c.requires (search rules)
