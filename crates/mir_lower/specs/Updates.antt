-- The operands of a struct literal with a base, and how the graph grows where they are found.
use Rattle.std.specs.Prelude.{◌≡◌, ◌<◌, List, [], ◌∷◌, ◌++◌, length, slice_get, Some, None}
use Rattle.mir.specs.Projections.{Projection, projection_of}
use Rattle.mir.specs.declared.operand.Operand.{Operand}
use Rattle.mir.specs.declared.operand.OperandKind.TheVariants.{Copy}
use Rattle.mir.specs.declared.operand.Place.{Place}
use Rattle.mir.specs.declared.projection.ProjectionId.{ProjectionId}
use Rattle.source_meaning.specs.Structs.{FieldSource, Written, OfBase}
use Rattle.body_forms.specs.Form.{field_elem}
use Rattle.mir_graph.specs.Graph.{Shape, elements_in, with_projections}

-- the graph has the projection of a place
pub record IsKnown (s : Shape) (place : Place) : Type 0 where
  pub elements : Projection
  pub are : elements_in s.projections place.projection ≡ Some elements

-- a graph has more projections than another, and all else as that has it
pub record HasMore (old new : Shape) : Type 0 where
  pub rest : new ≡ with_projections new.projections old
  pub kept : (id : ProjectionId) (elements : Projection) → projection_of old.projections id ≡ Some elements → projection_of new.projections id ≡ Some elements

-- there is an operand for a field that is written
abbrev pub IsAmong : List Operand → FieldSource → Type 0
IsAmong operands (Written place) = place < length operands
IsAmong operands (OfBase field) = Unit {0}

-- an operand of the graph gives a field: the one that is written for it, or a copy of the field of the base, which has no span
abbrev pub Gives : (s : Shape) → (base : Place) → (elements : Projection) → List Operand → FieldSource → Operand → Type 0
Gives s base elements operands (Written place) operand = slice_get operands place ≡ Some operand
Gives s base elements operands (OfBase field) operand =
    (made : Place) × (operand.kind ≡ Copy made) × (made.local ≡ base.local) × (elements_in s.projections made.projection ≡ Some (elements ++ field_elem field ∷ [])) × (operand.span ≡ None)

-- operands give fields, one each
abbrev pub GiveAll : (s : Shape) → (base : Place) → (elements : Projection) → List Operand → List FieldSource → List Operand → Type 0
GiveAll s base elements operands [] [] = Unit {0}
GiveAll s base elements operands (source ∷ sources) (field ∷ fields) = Gives s base elements operands source field × GiveAll s base elements operands sources fields
GiveAll s base elements operands _ _ = ⊥

-- the operands of fields were found, by the elements that the base's place has in the graph
pub record AreFound (old new : Shape) (base : Place) (operands : List Operand) (sources : List FieldSource) (fields : List Operand) : Type 0 where
  pub more : HasMore old new
  pub give : (elements : Projection) → elements_in old.projections base.projection ≡ Some elements → GiveAll new base elements operands sources fields
