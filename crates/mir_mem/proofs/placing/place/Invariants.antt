use Rattle.std.proofs.Common.{◌≡◌, ◌≤◌, ◌++◌, drop}
use Rattle.mir.specs.Areas.{cells_behind, length_behind}
use Rattle.mir_mem.proofs.placing.place.Given as goal

abbrev pub invariant-loop-cell : goal.invariant-loop-cell
invariant-loop-cell l = record {
  grows : l.length ≤ l.end;
  bounded : l.end ≤ l.bound;
  cells : l.all ++ cells_behind l.end (drop l.cell-index l.cells) ≡ cells_behind l.length l.cells;
  length : length_behind l.end (drop l.cell-index l.cells) ≡ length_behind l.length l.cells;
}
