-- The graph that lowering builds, as data: its blocks, which of them is the current one, to which statements are added,
-- its locals, which of them holds which value, the cells in use in all open scopes, and the projections of its places.
use Rattle.std.specs.Prelude.{◌≡◌, ◌==◌, ℕ, zero, false, List, [], ◌∷◌, ◌++◌, length, replicate, map, reverse, Option, Some, None, slice_get, slice_set, option_map, option_and_then, if◌then◌else◌}
use Rattle.types.specs.declared.ids.LabelId.{LabelId}
use Rattle.types.specs.declared.ty.Ty.{Ty}
use Rattle.mir.specs.declared.body.BasicBlock.{BasicBlock}
use Rattle.mir.specs.declared.body.Local.{Local}
use Rattle.mir.specs.declared.body.Terminator.{Terminator}
use Rattle.mir.specs.Elements.{PlaceElem}
use Rattle.mir.specs.Projections.{Projection, projection_of}
use Rattle.mir.specs.declared.ids.LocalId.{LocalId}
use Rattle.mir.specs.declared.operand.Place.{Place}
use Rattle.mir.specs.declared.projection.ProjectionId.{ProjectionId}
use Rattle.mir.specs.declared.statement.Statement.{Statement}
use Rattle.source_meaning.specs.Around.{Opened, is_meant}
use Rattle.source_meaning.specs.Source.{Cell, IndexOf, Result, Node, Binding, Never}
use Rattle.mir_graph.specs.declared.graph.Graph.{Graph}
use Rattle.mir_graph.specs.declared.graph.Held.{Held}
use Rattle.mir_graph.specs.declared.graph.Held.TheVariants as held
use Rattle.mir_graph.specs.declared.graph.LoopBlocks.{LoopBlocks}
use Rattle.mir_graph.specs.declared.graph.Marked.{Marked}
use Rattle.mir_graph.specs.declared.graph.Temps.{Temps}

-- A loop or a labelled block that is being lowered: which it is, the local that its value goes to, the block where it begins,
-- the block behind it, and how many cells were in use when it was entered.
pub record OpenTarget : Type 0 where
  pub opened : Opened
  pub local : ℕ
  pub begin_block : ℕ
  pub end_block : ℕ
  pub kept : ℕ

pub record Shape : Type 0 where
  pub blocks : List BasicBlock
  pub current : ℕ
  pub locals : List Local
  -- for each binding its local, where no closure owns it
  pub bindings : List (Option LocalId)
  -- for each expression the local that holds its value, that of its `!`, where it is adjusted by `NeverToAny`, and that of its index, where it is an
  -- index expression
  pub temps : List Temps
  -- the cells in use in all open scopes, those of the outermost scope first
  pub scope : List Cell
  -- the loops and labelled blocks around the code that is added, the innermost first
  pub targets : List OpenTarget
  -- the projections of places, in the order of their ids
  pub projections : List Projection

-- the cell whose value a local holds
abbrev pub cell_of : Held → Cell
cell_of (held.Expr e) = Node e.0
cell_of (held.Binding b) = Binding b.0
cell_of (held.Never e) = Never e.0
cell_of (held.Index e) = IndexOf e.0

-- the cells of marks
abbrev pub cells_of : List Marked → List Cell
cells_of marked = map (λ m. cell_of m.held) marked

-- a loop or a labelled block of the code
abbrev pub target_of_blocks : LoopBlocks → OpenTarget
target_of_blocks blocks =
    record {
      opened = record { node = blocks.node.0; label = blocks.label };
      local = blocks.to.0;
      begin_block = blocks.begin.0;
      end_block = blocks.end.0;
      kept = blocks.drop_scope.0;
    }

-- the loops and labelled blocks of the code, where the outermost stands first
abbrev pub targets_of : List LoopBlocks → List OpenTarget
targets_of loops = reverse (map target_of_blocks loops)

-- what a graph of the code is; `projections`: those that its interner keeps
abbrev pub shape : {I : Type 0} → (projections : I → List Projection) → Graph I → Shape
shape projections graph =
    record {
      blocks = graph.blocks.items;
      current = graph.current.0;
      locals = graph.locals;
      bindings = graph.bindings.items;
      temps = graph.temps.items;
      scope = cells_of graph.scope.items;
      targets = targets_of graph.loops.items;
      projections = projections graph.projections;
    }

abbrev pub no_statements : BasicBlock
no_statements = record { statements = []; terminator = None; is_cleanup = false }

abbrev pub local_of_type : Ty → Local
local_of_type ty = record { ty = ty }

-- an expression without locals
abbrev pub no_temps : Temps
no_temps = record { value = None; never = None; index = None }

-- one current block, the return slot, no binding, and no expression with a local yet
abbrev pub first_shape : Ty → ℕ → List Projection → Shape
first_shape ty nodes kept =
    record {
      blocks = no_statements ∷ [];
      current = 0;
      locals = local_of_type ty ∷ [];
      bindings = [];
      temps = replicate nodes no_temps;
      scope = [];
      targets = [];
      projections = kept;
    }

-- a block with one more statement
abbrev pub more_of : Statement → BasicBlock → BasicBlock
more_of statement block = record block { statements = block.statements ++ statement ∷ [] }

-- a block that is ended
abbrev pub ended : Terminator → BasicBlock → BasicBlock
ended terminator block = record block { terminator = Some terminator }

-- the shape in which the current block is changed
abbrev pub with_current : (BasicBlock → BasicBlock) → Shape → Option BasicBlock → Shape
with_current change s (Some block) = record s { blocks = slice_set s.blocks s.current (change block) }
with_current change s None = s

-- one more statement in the current block
unfoldable pub with_statement : Statement → Shape → Shape
with_statement statement s = with_current (more_of statement) s (slice_get s.blocks s.current)

-- the current block ended
unfoldable pub with_terminator : Terminator → Shape → Shape
with_terminator terminator s = with_current (ended terminator) s (slice_get s.blocks s.current)

-- a new block, which is the current one from then on
unfoldable pub with_block : Shape → Shape
with_block s = record s { blocks = s.blocks ++ no_statements ∷ []; current = length s.blocks }

-- a new block, while the current one stays
unfoldable pub with_reserved : Shape → Shape
with_reserved s = record s { blocks = s.blocks ++ no_statements ∷ [] }

-- a block that stands there is the current one from then on
unfoldable pub with_entered : ℕ → Shape → Shape
with_entered block s = record s { current = block }

-- the local at a place of a table, where there is one
abbrev pub local_at : List (Option LocalId) → ℕ → Option ℕ
local_at table i = option_map (λ local. local.0) (option_and_then (λ local. local) (slice_get table i))

-- one of the locals of the expression at a place of a table, where it has that
abbrev pub temp_at : (Temps → Option LocalId) → List Temps → ℕ → Option ℕ
temp_at which table i = option_map (λ local. local.0) (option_and_then which (slice_get table i))

-- the local that holds an expression's value, where it has one
unfoldable pub temp_of : Shape → ℕ → Option ℕ
temp_of s e = temp_at (λ temps. temps.value) s.temps e

-- the local that holds an expression's `!`, where it has one
unfoldable pub never_of : Shape → ℕ → Option ℕ
never_of s e = temp_at (λ temps. temps.never) s.temps e

-- the local that holds an expression's index, where it has one
unfoldable pub index_local : Shape → ℕ → Option ℕ
index_local s e = temp_at (λ temps. temps.index) s.temps e

-- the local of a binding, where it has one
unfoldable pub binding_local : Shape → ℕ → Option ℕ
binding_local s b = local_at s.bindings b

-- the local that holds a cell's value
abbrev pub local_of : Shape → Cell → Option ℕ
local_of s Result = Some zero
local_of s (Node e) = temp_of s e
local_of s (Binding b) = binding_local s b
local_of s (Never e) = never_of s e
local_of s (IndexOf e) = index_local s e

-- one more binding: where it has a type, a new local of that type is its own
unfoldable pub with_binding : Option Ty → Shape → Shape
with_binding (Some ty) s = record s { locals = s.locals ++ local_of_type ty ∷ []; bindings = s.bindings ++ Some (record { 0 = length s.locals }) ∷ [] }
with_binding None s = record s { bindings = s.bindings ++ None ∷ [] }

-- the table in which the entry at a place is changed
abbrev pub with_entry : (Temps → Temps) → List Temps → ℕ → Option Temps → List Temps
with_entry change table i (Some temps) = slice_set table i (change temps)
with_entry change table i None = table

-- an expression's locals with another one for its value, for its `!`, or for its index
abbrev pub with_value : ℕ → Temps → Temps
with_value local temps = record temps { value = Some (record { 0 = local }) }

abbrev pub with_never_value : ℕ → Temps → Temps
with_never_value local temps = record temps { never = Some (record { 0 = local }) }

abbrev pub with_index_value : ℕ → Temps → Temps
with_index_value local temps = record temps { index = Some (record { 0 = local }) }

-- a new local for an expression
unfoldable pub with_temp : ℕ → Ty → Shape → Shape
with_temp e ty s = record s { locals = s.locals ++ local_of_type ty ∷ []; temps = with_entry (with_value (length s.locals)) s.temps e (slice_get s.temps e) }

-- a new local for the `!` of an expression
unfoldable pub with_never : ℕ → Ty → Shape → Shape
with_never e ty s = record s { locals = s.locals ++ local_of_type ty ∷ []; temps = with_entry (with_never_value (length s.locals)) s.temps e (slice_get s.temps e) }

-- a new local for the index of an expression
unfoldable pub with_index : ℕ → Ty → Shape → Shape
with_index e ty s = record s { locals = s.locals ++ local_of_type ty ∷ []; temps = with_entry (with_index_value (length s.locals)) s.temps e (slice_get s.temps e) }

-- other cells in use
abbrev pub with_scope : List Cell → Shape → Shape
with_scope scope s = record s { scope = scope }

-- other loops and labelled blocks around the code
abbrev pub with_targets : List OpenTarget → Shape → Shape
with_targets targets s = record s { targets = targets }

-- the elements that an id stands for; the id 0 stands for the empty projection, in each store
abbrev pub elements_in : List Projection → ProjectionId → Option Projection
elements_in kept id = if id.0 == 0 then Some [] else projection_of kept id

-- other projections
abbrev pub with_projections : List Projection → Shape → Shape
with_projections projections s = record s { projections = projections }

-- A place within another one was made: what an element leads to from there. Each id that stood for a projection stands for it still.
pub record IsProjected (old new : Shape) (place : Place) (elem : PlaceElem) (made : Place) : Type 0 where
  pub rest : new ≡ with_projections new.projections old
  pub kept : (id : ProjectionId) (elements : Projection) → projection_of old.projections id ≡ Some elements → projection_of new.projections id ≡ Some elements
  pub local : made.local ≡ place.local
  pub longer : (elements : Projection) → elements_in old.projections place.projection ≡ Some elements → elements_in new.projections made.projection ≡ Some (elements ++ elem ∷ [])

-- the innermost of those that a jump means
unfoldable pub meant_target : Option LabelId → List OpenTarget → Option OpenTarget
meant_target label [] = None
meant_target label (target ∷ outer) = if is_meant label target.opened then Some target else meant_target label outer

-- which loops and labelled blocks stand around the code
abbrev pub opened_of : Shape → List Opened
opened_of s = map (λ target. target.opened) s.targets

-- the graph with a cell marked as in use in the innermost open scope, where its local has a `StorageLive`
abbrev pub with_mark : Cell → Shape → Shape
with_mark cell s = with_scope (s.scope ++ cell ∷ []) s
