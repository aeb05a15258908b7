-- The source that a row of bodies is.
use Rattle.world.specs.declared.database.BodyRow.{BodyRow}
use Rattle.world.specs.declared.database.HirDatabase.{HirDatabase}
use Rattle.source_meaning.specs.Source.{Source, monomorphic}

-- a row of bodies as a source
abbrev pub source_of : HirDatabase → BodyRow → Source
source_of world row = monomorphic world row.body row.infer
