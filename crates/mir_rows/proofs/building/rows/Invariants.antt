use Rattle.std.proofs.Common.{take}
use Rattle.mir_rows.specs.Rows.{AreRows}
use Rattle.mir_rows.specs.Spots.{prepared}
use Rattle.mir_rows.proofs.building.rows.Given as goal

-- the rows of the statements so far
abbrev pub invariant-loop-i : goal.invariant-loop-i
invariant-loop-i l = AreRows (prepared l.db l.body) l.statements (take l.i l.statements) l.rows.items
