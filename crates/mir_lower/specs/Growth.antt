-- How the graph grows while an expression is lowered, and what stands in it at a point of its code.
use Rattle.std.specs.Prelude.{◌≡◌, ◌≢◌, ◌⊎◌, ℕ, ◌<◌, ◌≤◌, false, List, [], ◌∷◌, length, All, Option, Some, None, slice_get, option_map, option_and_then, true}
use Rattle.mir.specs.declared.body.BasicBlock.{BasicBlock}
use Rattle.mir.specs.declared.body.Local.{Local}
use Rattle.mir.specs.declared.body.Terminator.{Terminator}
use Rattle.mir.specs.declared.projection.ProjectionId.{ProjectionId}
use Rattle.mir.specs.declared.statement.Statement.{Statement}
use Rattle.mir.specs.Projections.{Projection, projection_of}
use Rattle.types.specs.declared.ty.Ty.{Ty}
use Rattle.world.specs.Checked.{IsCheckedBody}
use Rattle.source_meaning.specs.Core.{ElementAt, PlaceElem, is_place}
use Rattle.source_meaning.specs.Source.{Source, Cell, Result, Node, Binding, IndexOf, cell_type, binding_type, node, root, index_of, Never, unadjusted, diverges}
use Rattle.source_meaning.specs.Around.{Opened}
use Rattle.source_meaning.specs.Valid.{Evaluates, EvaluatesIn, opened_in}
use Rattle.mir_graph.specs.Graph.{Shape, OpenTarget, no_statements, temp_of, binding_local, local_of, opened_of, never_of, index_local}
use Rattle.mir_lower.specs.Order.{first_locals}

-- the statement at a place of a block, and a block's terminator
unfoldable pub statement_at : Shape → ℕ → ℕ → Option Statement
statement_at s block index = option_and_then (λ b. slice_get b.statements index) (slice_get s.blocks block)

unfoldable pub terminator_at : Shape → ℕ → Option Terminator
terminator_at s block = option_and_then (λ b. b.terminator) (slice_get s.blocks block)

-- how many statements a block has
unfoldable pub count_at : Shape → ℕ → Option ℕ
count_at s block = option_map (λ b. length b.statements) (slice_get s.blocks block)

-- What stood in a graph stands in the graph that it grew to.
pub record Grows (old new : Shape) : Type 0 where
  pub statements : (block index : ℕ) (statement : Statement) → statement_at old block index ≡ Some statement → statement_at new block index ≡ Some statement
  -- a block that is ended stays as it is
  pub ended : (at : ℕ) (block : BasicBlock) (terminator : Terminator) → slice_get old.blocks at ≡ Some block → block.terminator ≡ Some terminator → slice_get new.blocks at ≡ Some block
  pub locals : (index : ℕ) (local : Local) → slice_get old.locals index ≡ Some local → slice_get new.locals index ≡ Some local
  pub bindings : new.bindings ≡ old.bindings
  pub temps : (e local : ℕ) → temp_of old e ≡ Some local → temp_of new e ≡ Some local
  pub nevers : (e local : ℕ) → never_of old e ≡ Some local → never_of new e ≡ Some local
  pub indices : (e local : ℕ) → index_local old e ≡ Some local → index_local new e ≡ Some local
  pub projections : (id : ProjectionId) (elements : Projection) → projection_of old.projections id ≡ Some elements → projection_of new.projections id ≡ Some elements

-- Of the blocks that stood there none is touched but the current one, the current block is the same or a new one, and the same
-- loops and labelled blocks stand around what is added next.
pub record Spares (old new : Shape) : Type 0 where
  pub others : (at : ℕ) → at ≢ old.current → at < length old.blocks → slice_get new.blocks at ≡ slice_get old.blocks at
  pub moves : (new.current ≡ old.current) ⊎ (length old.blocks ≤ new.current)
  pub many : length old.blocks ≤ length new.blocks
  pub targets : new.targets ≡ old.targets

-- an expression has an index, which is evaluated
pub record HasEvaluatedIndex (source : Source) (e index : ℕ) : Type 0 where
  pub has : index_of source e ≡ Some index
  pub within : e < length source.body.exprs
  pub evaluated : Evaluates source (root source) index

-- a cell that an evaluation may use: the result, a binding, an expression that is evaluated, the `!` of one, or the index of one that stands in the body
abbrev pub IsUsed : Source → Cell → Type 0
IsUsed source Result = Unit {0}
IsUsed source (Node e) = Evaluates source (root source) e
IsUsed source (Binding b) = Unit {0}
IsUsed source (Never e) = Evaluates source (root source) e
IsUsed source (IndexOf e) = (index : ℕ) × HasEvaluatedIndex source e index

-- a cell that is given a local: the result, a binding, an expression that is evaluated, is no place and isn't the body's
-- root, whose value goes to the result, the `!` of an expression that is evaluated, or an index that is
abbrev pub IsStored : Source → Cell → Type 0
IsStored source Result = Unit {0}
IsStored source (Node e) = Evaluates source (root source) e × (is_place (unadjusted source e) ≡ false) × (e < root source)
IsStored source (Binding b) = Unit {0}
IsStored source (Never e) = Evaluates source (root source) e × (diverges source e ≡ true) × (e < length source.body.exprs)
IsStored source (IndexOf e) = (index : ℕ) × HasEvaluatedIndex source e index

-- The locals of cells: each has its cell's type, no two cells share one, and each local of the graph is that of a cell.
pub record IsAllotted (source : Source) (s : Shape) : Type 0 where
  pub typed : (cell : Cell) (l : ℕ) → local_of s cell ≡ Some l → (local : Local) × (slice_get s.locals l ≡ Some local) × (cell_type source cell ≡ Some local.ty)
  pub own : (c d : Cell) (l : ℕ) → local_of s c ≡ Some l → local_of s d ≡ Some l → c ≡ d
  pub cells : (l : ℕ) (local : Local) → slice_get s.locals l ≡ Some local → (cell : Cell) × IsStored source cell × (local_of s cell ≡ Some l) × (cell_type source cell ≡ Some local.ty)

-- A graph before anything is lowered: one open block, no expression with a local yet, and a place for each of the first
-- bindings of the body, with a local for those that no closure owns; there are no other locals but the return slot.
pub record IsFirst (source : Source) (count : ℕ) (s : Shape) : Type 0 where
  pub blocks : s.blocks ≡ no_statements ∷ []
  pub current : s.current ≡ 0
  pub scope : s.scope ≡ []
  pub targets : s.targets ≡ []
  pub locals : s.locals ≡ first_locals source count
  pub nodes : length s.temps ≡ length source.body.exprs
  pub bindings : length s.bindings ≡ count
  pub bound : (b : ℕ) (ty : Ty) → b < count → binding_type source b ≡ Some ty → (l : ℕ) × (binding_local s b ≡ Some l)
  pub allotted : IsAllotted source s

-- A graph that lowering can go on with: it has a place for the local of each expression, each binding that no closure
-- owns has a local, and so have the result and some expressions.
pub record IsSound (source : Source) (s : Shape) : Type 0 where
  pub nodes : length s.temps ≡ length source.body.exprs
  pub bound : (b : ℕ) (ty : Ty) → binding_type source b ≡ Some ty → (l : ℕ) × (binding_local s b ≡ Some l)
  pub allotted : IsAllotted source s

-- the step to an element has the index of the index expression that it is taken by
abbrev pub HasIndex : Source → PlaceElem → Type 0
HasIndex source (ElementAt e index) = index_of source e ≡ Some index
HasIndex source _ = Unit {0}

-- the current block is there, and has no terminator yet
pub record IsOpen (s : Shape) : Type 0 where
  pub there : s.current < length s.blocks
  pub unended : terminator_at s s.current ≡ None

-- a local holds the value of a cell
pub record IsPlaced (s : Shape) (local : ℕ) : Type 0 where
  pub cell : Cell
  pub found : local_of s cell ≡ Some local

-- what stands around an expression: its number is below those of the loops and labelled blocks, whose values have locals
pub record IsInside (s : Shape) (e : ℕ) (target : OpenTarget) : Type 0 where
  pub above : e < target.opened.node
  pub placed : IsPlaced s target.local

-- the loops and labelled blocks that the graph has open are those around an expression of the body
pub record IsAround (source : Source) (s : Shape) (e : ℕ) : Type 0 where
  pub stands : EvaluatesIn source [] (root source) (opened_of s) e
  pub inside : All (IsInside s e) s.targets

-- those around the parts of an expression, which may be one itself
pub record IsAroundParts (source : Source) (s : Shape) (e : ℕ) : Type 0 where
  pub outer : List Opened
  pub stands : EvaluatesIn source [] (root source) outer e
  pub opens : opened_in e (node source e) outer ≡ opened_of s
  pub inside : (child : ℕ) → child < e → All (IsInside s child) s.targets

-- an expression of a checked body, which is evaluated, can be lowered into the graph
pub record IsReady (source : Source) (s : Shape) (e : ℕ) : Type 0 where
  pub checked : IsCheckedBody source.body source.infer
  pub sound : IsSound source s
  pub «open» : IsOpen s
  pub within : e < length source.body.exprs
  pub reached : Evaluates source (root source) e
  pub around : IsAround source s e

-- the parts of such an expression can be
pub record ArePartsReady (source : Source) (s : Shape) (e : ℕ) : Type 0 where
  pub checked : IsCheckedBody source.body source.infer
  pub sound : IsSound source s
  pub «open» : IsOpen s
  pub within : e < length source.body.exprs
  pub reached : Evaluates source (root source) e
  pub around : IsAroundParts source s e

-- the same of a part of another expression: it isn't the body's root
pub record IsReadyPart (source : Source) (s : Shape) (e : ℕ) : Type 0 where
  pub ready : IsReady source s e
  pub below : e < root source
