-- What lowering does to the graph.
use Rattle.std.specs.Prelude.{◌≡◌, ℕ, false, List, ◌++◌, ◌∷◌, [], All, Contains, flat_map, Option, Some, slice_get}
use Rattle.mir.specs.declared.body.Local.{Local}
use Rattle.mir.specs.declared.operand.Place.{Place as GraphPlace}
use Rattle.mir.specs.declared.operand.OperandKind.{OperandKind}
use Rattle.source_meaning.specs.Core as expr
use Rattle.source_meaning.specs.Core.{Assigned, Assignee, CoreExpr, is_truth, PlaceElem}
use Rattle.world.specs.declared.body.Statement.{Statement}
use Rattle.types.specs.declared.ids.BindingId.{BindingId}
use Rattle.types.specs.declared.ids.ExprId.{ExprId}
use Rattle.world.specs.declared.infer.ValueNs.TheVariants.{LocalBinding}
use Rattle.source_meaning.specs.Events.{marked, marked_itself, marked_as_place, marked_as_operand, marked_by_assigned, marked_by_assignee, marked_by_elem, marked_by_statement, marked_by_tail}
use Rattle.source_meaning.specs.Source.{Source, Cell, IndexOf, Place, node, unadjusted, own_type, node_type, named_by, pattern, target, compound_target, bound_by}
use Rattle.source_meaning.specs.Steps.{assigned_parts, assignee_parts, field_parts, statement_parts}
use Rattle.source_meaning.specs.Aggregates.{HasAggregates}
use Rattle.source_meaning.specs.Around.{Opened}
use Rattle.source_meaning.specs.Valid.{IsPlainFrom, JumpsFit, IsLaidOut, NeedsLayout, IsLaidOutNode}
use Rattle.mir_graph.specs.Graph.{Shape, binding_local, local_of}
use Rattle.mir_lower.specs.Growth.{Grows, Spares, IsSound, IsOpen}
use Rattle.mir.specs.Memory.{Memory}
use Rattle.mir.specs.Run.{Frame}
use Rattle.mir_lower.specs.Does.{here, IsFrameOf, Does, DoesOwn, DoesOperand, DoesOperands, DoesIndex, DoesPlace, DoesField, DoesStatements, DoesTail, DoesBind, DoesAssign, DoesAssigned, DoesAssignee}
use Rattle.mir_lower.specs.Runs.{Comes}

-- the graph is as sound as before, has what it had, and these cells more came into use in the innermost open scope
pub record Keeps (source : Source) (old new : Shape) (marked : List Cell) : Type 0 where
  pub grows : Grows old new
  pub spares : Spares old new
  pub sound : IsSound source new
  pub «open» : IsOpen new
  pub scope : new.scope ≡ old.scope ++ marked

-- each local of the graph has a type with a layout
abbrev pub HasLayouts : Source → Shape → Type 0
HasLayouts source s = (l : ℕ) (local : Local) → slice_get s.locals l ≡ Some local → IsLaidOut source (Some local.ty)

-- each expression that is evaluated where one is has a plain form, each jump there has a target, and the types of the loops and
-- labelled blocks around it have layouts; the layouts of tuples and structs have their parts inside
pub record IsPlainWithin (source : Source) (e : ℕ) : Type 0 where
  pub aggregates : HasAggregates source.world
  pub nodes : IsPlainFrom source e
  pub opened : List Opened
  pub jumps : JumpsFit source opened e
  pub laid : All (λ target. IsLaidOut source (own_type source target.node)) opened

-- where the graph's locals have layouts, and an expression is plain, what needs layouts there has them
abbrev pub LaysOut : Source → Shape → ℕ → Type 0
LaysOut source s e = IsPlainWithin source e → HasLayouts source s → (f : ℕ) → NeedsLayout source e f → IsLaidOutNode source f

-- an expression was lowered into a cell
pub record LowersInto (source : Source) (old new : Shape) (e : ℕ) (cell : Cell) : Type 0 where
  pub keeps : Keeps source old new (marked source e)
  pub does : Does source old new e cell
  pub laid : IsLaidOut source (node_type source e) → LaysOut source new e

-- an expression itself was lowered into a cell, as it is before its value is adjusted
pub record LowersOwn (source : Source) (old new : Shape) (e : ℕ) (cell : Cell) : Type 0 where
  pub keeps : Keeps source old new (marked_itself source e)
  pub does : DoesOwn source old new e cell
  pub laid : IsLaidOutNode source e → LaysOut source new e

-- an expression was lowered to a place
pub record LowersPlace (source : Source) (old new : Shape) (e : ℕ) (place : GraphPlace) : Type 0 where
  pub keeps : Keeps source old new (marked_as_place source e)
  pub does : DoesPlace source old new e place
  pub laid : LaysOut source new e

-- the index of an index expression was lowered into a local of its own
pub record LowersIndex (source : Source) (old new : Shape) (e index local : ℕ) : Type 0 where
  pub keeps : Keeps source old new (IndexOf e ∷ marked source index)
  pub found : local_of new (IndexOf e) ≡ Some local
  pub does : DoesIndex source old new e index
  pub laid : LaysOut source new index

-- the place of a field or an element was lowered, by that of its base; only what the base and the step mark is marked
pub record LowersField (source : Source) (old new : Shape) (base : ℕ) (elem : PlaceElem) (place : GraphPlace) : Type 0 where
  pub keeps : Keeps source old new (marked_as_place source base ++ marked_by_elem source elem)
  pub does : DoesField source old new base elem place
  pub laid : (child : ℕ) → Contains (field_parts base elem) child → LaysOut source new child

-- an expression was lowered to an operand
pub record LowersOperand (source : Source) (old new : Shape) (e : ℕ) (operand : OperandKind) : Type 0 where
  pub keeps : Keeps source old new (marked_as_operand source e)
  pub does : DoesOperand source old new e operand
  pub laid : is_truth (unadjusted source e) ≡ false → LaysOut source new e

-- operands were lowered, from left to right
pub record LowersOperands (source : Source) (old new : Shape) (es : List ℕ) (operands : List OperandKind) : Type 0 where
  pub keeps : Keeps source old new (flat_map (marked_as_operand source) es)
  pub does : DoesOperands source old new es operands
  pub laid : (e : ℕ) → Contains es e → is_truth (unadjusted source e) ≡ false → LaysOut source new e

-- a cell came into use in the innermost open scope: its local is known, and the code goes on with memory as it was
pub record IsGiven (source : Source) (old new : Shape) (cell : Cell) (local : ℕ) : Type 0 where
  pub keeps : Keeps source old new (cell ∷ [])
  pub found : local_of new cell ≡ Some local
  pub comes : (whole : Shape) (frame : Frame) → Grows new whole → IsFrameOf whole frame → (memory : Memory) → Comes frame 0 0 (here old) memory (here new) memory

-- a path was lowered: the local of the binding that it names
pub record IsNamed (source : Source) (s : Shape) (e local : ℕ) : Type 0 where
  pub binding : BindingId
  pub named : named_by source e ≡ Some (LocalBinding binding)
  pub found : binding_local s binding.0 ≡ Some local

-- a pattern was bound to the value of a place
pub record Binds (source : Source) (old new : Shape) (pat : ℕ) (at : Place) : Type 0 where
  pub keeps : Keeps source old new (bound_by (pattern source pat))
  pub does : DoesBind source old new pat at

-- the path that the target of an assignment is names a binding with this local
pub record IsTargeted (source : Source) (s : Shape) (assigned local : ℕ) : Type 0 where
  pub binding : BindingId
  pub names : target source assigned ≡ Some binding
  pub found : binding_local s binding.0 ≡ Some local

-- and so does that of a compound one
pub record IsCombinedIn (source : Source) (s : Shape) (assigned local : ℕ) : Type 0 where
  pub binding : BindingId
  pub names : compound_target source assigned ≡ Some binding
  pub found : binding_local s binding.0 ≡ Some local

-- the target of an assignment was lowered to a place
pub record LowersAssignee (source : Source) (old new : Shape) (to : Assignee) (place : GraphPlace) : Type 0 where
  pub keeps : Keeps source old new (marked_by_assignee source to)
  pub does : DoesAssignee source old new to place
  pub laid : (child : ℕ) → Contains (assignee_parts to) child → LaysOut source new child

-- and that of a compound one
pub record LowersAssigned (source : Source) (old new : Shape) (to : Assigned) (place : GraphPlace) : Type 0 where
  pub keeps : Keeps source old new (marked_by_assigned source to)
  pub does : DoesAssigned source old new to place
  pub laid : (child : ℕ) → Contains (assigned_parts to) child → LaysOut source new child

-- the bytes of one place were copied to another: no cell is marked as in use
pub record Assigns (source : Source) (old new : Shape) (to from : Place) : Type 0 where
  pub keeps : Keeps source old new []
  pub does : DoesAssign source old new to from

-- statements were lowered
pub record LowersStatements (source : Source) (old new : Shape) (statements : List Statement) : Type 0 where
  pub keeps : Keeps source old new (flat_map (marked_by_statement source) statements)
  pub does : DoesStatements source old new statements
  pub laid : (child : ℕ) → Contains (flat_map statement_parts statements) child → LaysOut source new child

-- the tail of a block, where it has one, was lowered into a cell
pub record LowersTail (source : Source) (old new : Shape) (tail : Option ExprId) (cell : Cell) : Type 0 where
  pub keeps : Keeps source old new (marked_by_tail source tail)
  pub does : DoesTail source old new tail cell
  pub laid : (e : ExprId) → tail ≡ Some e → IsLaidOut source (node_type source e.0) → LaysOut source new e.0

-- an expression is a block of these statements, with a label or without
abbrev pub HasStatements : Option CoreExpr → List Statement → Type 0
HasStatements (Some (expr.Block own tail)) statements = own ≡ statements
HasStatements (Some (expr.Labelled label own tail)) statements = own ≡ statements
HasStatements _ statements = ⊥

-- a statement stands in the block that an expression is
pub record IsStatementOf (source : Source) (e : ℕ) (statement : Statement) : Type 0 where
  pub statements : List Statement
  pub form : HasStatements (node source e) statements
  pub within : Contains statements statement
