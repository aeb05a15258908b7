-- The projections that an interner keeps: each has one id, which says where it stands among them.
use Rattle.std.specs.Prelude.{◌≡◌, ◌≢◌, ◌-◌, ◌^◌, ◌<◌, ◌≤◌, ◌⊎◌, List, [], ◌∷◌, ◌++◌, length, Option, Some, slice_get}
use Rattle.mir.specs.declared.projection.ProjectionId.{ProjectionId}
use Rattle.mir.specs.Elements.{PlaceElem}

-- a way from a place: its elements, the first one applied first
abbrev pub Projection : Type 0
Projection = List PlaceElem

-- the id of the empty projection
abbrev pub empty_id : ProjectionId
empty_id = record { 0 = 0 }

-- the projection that an id stands for, where it is one of those that are kept, which stand in the order of their ids
abbrev pub projection_of : List Projection → ProjectionId → Option Projection
projection_of kept id = slice_get kept id.0

-- an id stands for one of those that are kept
abbrev pub HasId : List Projection → ProjectionId → Type 0
HasId kept id = id.0 < length kept

-- no id stands for the projection
abbrev pub HasNoId : List Projection → Projection → Type 0
HasNoId kept projection = (id : ProjectionId) → projection_of kept id ≢ Some projection

-- there is an id that stands for no projection yet
abbrev pub HasRoom : List Projection → Type 0
HasRoom kept = length kept < 2 ^ 32 - 1

-- Ids and projections are in bijection: no two ids stand for one projection. The empty one has the id 0, and each id is a number of 32 bits.
pub record AreInterned (kept : List Projection) : Type 0 where
  pub once : (one other : ProjectionId) → HasId kept one → projection_of kept one ≡ projection_of kept other → one ≡ other
  pub empty : projection_of kept empty_id ≡ Some []
  pub count : length kept ≤ 2 ^ 32 - 1

-- the projection had the id, and the same are kept
pub record WasThere (before after : List Projection) (projection : Projection) (id : ProjectionId) : Type 0 where
  pub stands : projection_of before id ≡ Some projection
  pub same : after ≡ before

-- the projection had no id, and now has the next one; every other has its id still
pub record IsAdded (before after : List Projection) (projection : Projection) (id : ProjectionId) : Type 0 where
  pub fresh : HasNoId before projection
  pub next : id.0 ≡ length before
  pub grown : after ≡ before ++ projection ∷ []

-- what interning a projection does, by which it comes to have an id
abbrev pub Interns : (before after : List Projection) → Projection → ProjectionId → Type 0
Interns before after projection id = WasThere before after projection id ⊎ IsAdded before after projection id

-- the projections of an interner, with the law that holds of them
pub record Interned : Type 0 where
  pub projections : List Projection
  pub law : AreInterned projections
