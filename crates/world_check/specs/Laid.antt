-- What the check says of the layouts of a world as a whole.
use Rattle.std.specs.Prelude.{◌≡◌, Some}
use Rattle.types.specs.declared.ty.Ty.{Ty}
use Rattle.world.specs.Lookups.{layout_of}
use Rattle.world.specs.declared.database.HirDatabase.{HirDatabase}
use Rattle.world.specs.declared.layout.Layout.{Layout}
use Rattle.check_layouts.specs.Laid.{HasRightTag, IsLaidOut}
pub use Rattle.check_layouts.specs.Laid.{HasLayout, LiesInside, field_type}

-- every layout is laid out, by the layouts of the world for its parts, and has a tag that fits
abbrev pub AreLaidOut : HirDatabase → Type 0
AreLaidOut world = (ty : Ty) (layout : Layout) → layout_of world ty ≡ Some layout → IsLaidOut world (layout_of world) ty layout × HasRightTag world ty layout
