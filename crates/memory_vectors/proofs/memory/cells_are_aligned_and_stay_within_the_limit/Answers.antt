use Rattle.std.proofs.Common.{All, sym, subst}
use Rattle.memory_vectors.proofs.Cells.{Aligned, one-and-eight-are, four-is-aligned}
use Rattle.memory_vectors.proofs.memory.cells_are_aligned_and_stay_within_the_limit.Goals as goal

-- the alignments of the first cells are powers of two
pub push_cells-placed-requires : goal.push_cells-placed-requires
push_cells-placed-requires g c = subst (All Aligned) (sym c.in_ok-first.ensures) one-and-eight-are

-- and so is that of the second
pub push_cells-requires : goal.push_cells-requires
push_cells-requires g c = subst (All Aligned) (sym c.in_ok-second.ensures) four-is-aligned
