-- The layouts of a checked world have alignments.
use Rattle.world.specs.declared.database.HirDatabase.{HirDatabase}
use Rattle.world.proofs.Rows.{layout_row}
use Rattle.world.specs.Checked.{IsChecked}
use Rattle.mir_lower.proofs.Placing.{AreAligned}

pub are-aligned : (world : HirDatabase) → IsChecked world → AreAligned world
are-aligned world checked ty layout found = let row = layout_row world ty layout found in (checked.layouts row.0 (ty, layout) row.1).align
