-- How a store finds the ids of projections: by their order.
use Rattle.std.specs.Prelude.{◌≡◌, Bool, List, Option, Some, None}
use Rattle.std.specs.BTreeMap.{is_at}
use Rattle.std.specs.Cmp.Lexicographic.{pointwise, slice_cmp}
use Rattle.std.specs.Ordering.{on}
use Rattle.std.specs.Map.{lookup}
use Rattle.mir.specs.declared.projection.ProjectionId.{ProjectionId}
use Rattle.mir.specs.Elements.{elem_cmp, elem_eq}
use Rattle.mir.specs.Projections.{HasNoId, Interned, Projection, projection_of}

-- the id that a map has at a projection
abbrev pub id_at : List (Projection × ProjectionId) → Projection → Option ProjectionId
id_at ids projection = lookup (is_at (slice_cmp elem_cmp projection)) ids

-- a map has just the ids of the projections that are kept
pub record AreIds (kept : List Projection) (ids : List (Projection × ProjectionId)) : Type 0 where
  pub found : (projection : Projection) (id : ProjectionId) → id_at ids projection ≡ Some id → projection_of kept id ≡ Some projection
  pub missing : (projection : Projection) → id_at ids projection ≡ None → HasNoId kept projection

-- the projections of a store, in the order of their ids
abbrev pub projections_of : Interned → List Projection
projections_of store = store.projections

-- two stores have equal projections for equal ids
abbrev pub same_projections : Interned → Interned → Bool
same_projections = on projections_of (pointwise (pointwise elem_eq))
