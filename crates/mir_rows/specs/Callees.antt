-- The sizes of a body's cells, as they are kept for a callee.
use Rattle.std.specs.Prelude.{◌≡◌, List, Ok, drop}
use Rattle.world.specs.declared.database.HirDatabase.{HirDatabase}
use Rattle.mir.specs.declared.address.CellSize.{CellSize}
use Rattle.mir.specs.declared.body.Local.{Local}
use Rattle.mir.specs.Memory.{sizes_of}

-- sizes are those of the cells of these locals, that of the first aside
abbrev pub AreSizes : HirDatabase → List Local → List CellSize → Type 0
AreSizes world locals sizes = sizes_of world (drop 1 locals) ≡ Ok sizes
