use Rattle.std.specs.Prelude.{All}
use Rattle.world.specs.Checked.{IsAlignment}
use Rattle.mir_rows.proofs.Laying.{Sized}
use Rattle.mir_rows.proofs.cell_sizes.sizes.Given as goal

-- the sizes so far before those of the locals from here on are all sizes
abbrev pub invariant-loop-local : goal.invariant-loop-local
invariant-loop-local l = record {
  sized : Sized l.db l.locals l.sizes l.local-index;
  aligned : All (λ cell. IsAlignment cell.align) l.sizes;
}
