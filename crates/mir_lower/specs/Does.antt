-- What the code of a graph does: from a point of it to another, or to the end of the run.
use Rattle.std.specs.Prelude.{◌≡◌, ◌⊎◌, ℕ, List, ◌∷◌, [], Option, Some, unwrap_or}
use Rattle.mir.specs.Projections.{Projection}
use Rattle.mir.specs.declared.operand.Place.{Place as GraphPlace}
use Rattle.mir.specs.declared.operand.OperandKind.{OperandKind}
use Rattle.mir.specs.declared.projection.ProjectionElem.TheVariants.{Index}
use Rattle.mir.specs.Elements.{PlaceElem as GraphElem}
use Rattle.mir.specs.Memory.{Memory, number_held}
use Rattle.mir.specs.Run.{Frame, operand_bytes as mir_bytes, operand_out as mir_out, operand_type as mir_type}
use Rattle.source_meaning.specs.Around.{Around, Target, marking}
use Rattle.source_meaning.specs.Core.{Assigned, Assignee, ElementAt, FieldOf, Part, PlaceElem}
use Rattle.source_meaning.specs.Ends.{Cost, cost_of, End, Go, Jumps, Faults, Stuck, More, Jump, Break, Continue, Return}
use Rattle.source_meaning.specs.Meaning.{level_at, operands_of, assign_at, assigned_place, assignee_place, field_place, statements_of, tail_into, bind}
use Rattle.source_meaning.specs.Places.{operand_bytes, operand_out, operand_type}
use Rattle.source_meaning.specs.Source.{Source, pattern, Cell, IndexOf, Result, Place, Store, Operand}
use Rattle.world.specs.declared.body.Statement.{Statement}
use Rattle.types.specs.declared.ids.ExprId.{ExprId}
use Rattle.body_forms.specs.Form.{field_elem, part_elem}
use Rattle.mir_graph.specs.Graph.{Shape, OpenTarget, elements_in, local_of}
use Rattle.mir_lower.specs.Growth.{Grows, IsSound, count_at}
use Rattle.mir_lower.specs.Callees.{Serves}
use Rattle.mir_lower.specs.Stops.{StopsFrom}
use Rattle.mir_lower.specs.Runs.{Point, Within, Entry, Exit, run_from, Enters, BreaksOff, AreCellsApart, Comes, Represents}

-- the point behind the last statement of the current block
abbrev pub here : Shape → Point
here s = Within s.current (unwrap_or (count_at s s.current) 0)

-- a frame of a graph that is whole: its body's blocks, locals and projections are the graph's
pub record IsFrameOf (s : Shape) (frame : Frame) : Type 0 where
  pub blocks : frame.body.basic_blocks ≡ s.blocks
  pub locals : frame.body.locals ≡ s.locals
  pub projections : frame.body.projection_store.projections ≡ s.projections
  pub apart : AreCellsApart frame.cells

-- each cell's local holds the bytes that the store has there
abbrev pub Holds : Shape → Frame → Store → Memory → Type 0
Holds s frame store memory = Represents (local_of s) frame store memory

-- where the run is when the source has jumped: at a point, or `Nowhere`, where no claim is made for the jump
pub data Landing : Type 0 where
  Nowhere : Landing
  AtPoint : (point : Point) → Landing

-- where the run is after each jump of the source
abbrev pub Landings : Type 0
Landings = Jump → Landing

-- the run reaches where a jump lands, after exactly as many blocks as are counted and over cells of no more bytes, with a memory that holds
-- the store
abbrev pub Lands : Shape → Frame → Point → Memory → Store → Cost → Landing → Type 0
Lands whole frame from memory store cost Nowhere = Unit {0}
Lands whole frame from memory store cost (AtPoint point) = (later : Memory) × Comes frame cost.turns cost.bytes from memory point later × Holds whole frame store later

-- From a point the run does what an end says, over exactly as many blocks as that counts, and over cells of no more bytes: it reaches another
-- point with a memory that holds the store, and the claim on the value holds; or it reaches where a jump lands; or it ends. Where the fuel
-- ran out, the run enters as many blocks as were counted up to there.
abbrev pub Goes : {A : Type 0} → Source → Shape → Landings → Frame → Point → Point → Memory → (A → Type 0) → End A → Type 0
Goes source whole lands frame from to memory claim (Go value store cost) =
    (later : Memory) × Comes frame cost.turns cost.bytes from memory to later × Holds whole frame store later × claim value
Goes source whole lands frame from to memory claim (Jumps jump store cost) = Lands whole frame from memory store cost (lands jump)
Goes source whole lands frame from to memory claim (Faults fault cost) = BreaksOff source fault cost.turns (run_from frame memory from)
Goes source whole lands frame from to memory claim Stuck = Unit {0}
Goes source whole lands frame from to memory claim (More cost) = Enters cost.turns (run_from frame memory from)

-- the run does so, or it stops at a call, within what the end counts
abbrev pub Reaches : {A : Type 0} → Source → Shape → Landings → Frame → Point → Point → Memory → (A → Type 0) → End A → Type 0
Reaches source whole lands frame from to memory claim end = StopsFrom source frame from memory (cost_of end) ⊎ Goes source whole lands frame from to memory claim end

-- A loop or a labelled block of the meaning is one of the graph: its value goes to the cell of the graph's local, as many cells
-- were in use when it was entered, and jumps to it land before the graph's blocks.
pub record Fronts (whole : Shape) (lands : Landings) (target : OpenTarget) (front : Target) : Type 0 where
  pub opened : front.opened ≡ target.opened
  pub local : local_of whole front.path.cell ≡ Some target.local
  pub kept : front.kept ≡ target.kept
  pub breaks : lands (Break target.opened.node) ≡ AtPoint (Entry target.end_block)
  pub continues : lands (Continue target.opened.node) ≡ AtPoint (Entry target.begin_block)

-- those of the meaning are those of the graph, one each
abbrev pub FrontAll : Shape → Landings → List OpenTarget → List Target → Type 0
FrontAll whole lands [] [] = Unit {0}
FrontAll whole lands (target ∷ outer) (front ∷ others) = Fronts whole lands target front × FrontAll whole lands outer others
FrontAll whole lands _ _ = ⊥

-- what stands around the code in the meaning is what stands around it in the graph; the body's value goes to the result, and a
-- `return` comes to where the body returns
pub record Stands (whole old : Shape) (lands : Landings) (around : Around) : Type 0 where
  pub marks : around.marks ≡ old.scope
  pub result : around.result ≡ record { cell = Result }
  pub returns : lands Return ≡ AtPoint Exit
  pub targets : FrontAll whole lands old.targets around.targets

-- What code does: in each finished graph that extends the new one, where jumps land in the blocks of the loops and labelled blocks
-- that the old graph has open, where the cells in use are those that it has, where the bodies that the run is told do what their sources
-- mean, at less fuel, and from each memory that holds the store, the code between the two graphs' points does what an end says, at each
-- amount of fuel, and what is claimed of its value holds; or the run stops at a call.
pub record Performs (source : Source) (old new : Shape) {A : Type 0} (claim : Shape → Frame → A → Type 0) (meaning : Around → ℕ → Store → End A) : Type 0 where
  pub reaches : (whole : Shape) (frame : Frame) → Grows new whole → IsSound source whole → IsFrameOf whole frame → (lands : Landings) → (around : Around) → Stands whole old lands around →
      (fuel : ℕ) → Serves fuel source frame.program → (store : Store) (memory : Memory) → Holds whole frame store memory →
      Reaches source whole lands frame (here old) (here new) memory (claim whole frame) (meaning around fuel store)

-- nothing is claimed
abbrev pub Nothing : Shape → Frame → Unit {0} → Type 0
Nothing whole frame done = Unit {0}

-- an element of a place of the source is one of the graph: a part or a field is the same one, and an index is that of the local which holds it
abbrev pub IsElement : Shape → PlaceElem → GraphElem → Type 0
IsElement s (Part index) one = one ≡ part_elem index
IsElement s (FieldOf field) one = one ≡ field_elem field
IsElement s (ElementAt e index) one = (local : ℕ) × (local_of s (IndexOf e) ≡ Some local) × (one ≡ Index (record { 0 = local }))

-- elements of a place of the source are those of the graph, one each
abbrev pub AreElements : Shape → List PlaceElem → Projection → Type 0
AreElements s [] [] = Unit {0}
AreElements s (elem ∷ elems) (one ∷ others) = IsElement s elem one × AreElements s elems others
AreElements s _ _ = ⊥

-- a place of the graph is one of the source: its local holds the cell's value, and the same elements lead on from there
pub record IsAt (s : Shape) (place : GraphPlace) (at : Place) : Type 0 where
  pub found : local_of s at.cell ≡ Some place.local.0
  pub projection : Projection
  pub elements : elements_in s.projections place.projection ≡ Some projection
  pub same : AreElements s at.projection projection

-- the meaning gives this place
abbrev pub LeadsTo : Place → Shape → Frame → Place → Type 0
LeadsTo at whole frame place = place ≡ at

-- an operand of the graph has the bytes of the source's operand whenever store and memory agree, and is out of bounds just where that is; and it has its type
pub record Fits (source : Source) (operand : OperandKind) (whole : Shape) (frame : Frame) (value : Operand) : Type 0 where
  pub bytes : (store : Store) (memory : Memory) → Holds whole frame store memory → mir_bytes frame memory operand ≡ operand_bytes source store value
  pub out : (store : Store) (memory : Memory) → Holds whole frame store memory → mir_out frame.program.world frame.body (number_held memory frame.cells) operand ≡ operand_out source store value
  pub ty : mir_type frame.program.world frame.body operand ≡ operand_type source value

-- operands of the graph have the bytes and types of the source's, one each
abbrev pub FitAll : Source → List OperandKind → Shape → Frame → List Operand → Type 0
FitAll source [] whole frame [] = Unit {0}
FitAll source (operand ∷ operands) whole frame (value ∷ values) = Fits source operand whole frame value × FitAll source operands whole frame values
FitAll source _ whole frame _ = ⊥

-- the code evaluates an expression into a cell
abbrev pub Does : Source → Shape → Shape → ℕ → Cell → Type 0
Does source old new e cell = Performs source old new Nothing (λ around fuel store. (level_at source fuel around).into e (record { cell = cell }) store)

-- or an expression itself, as it is before its value is adjusted
abbrev pub DoesOwn : Source → Shape → Shape → ℕ → Cell → Type 0
DoesOwn source old new e cell = Performs source old new Nothing (λ around fuel store. (level_at source fuel around).own e (record { cell = cell }) store)

-- or as an operand
abbrev pub DoesOperand : Source → Shape → Shape → ℕ → OperandKind → Type 0
DoesOperand source old new e operand = Performs source old new (Fits source operand) (λ around fuel store. (level_at source fuel around).operand e store)

-- or several, from left to right
abbrev pub DoesOperands : Source → Shape → Shape → List ℕ → List OperandKind → Type 0
DoesOperands source old new es operands = Performs source old new (FitAll source operands) (λ around fuel store. operands_of source (level_at source fuel) around es store)

-- the code finds a place, which is the one that the meaning gives
pub record Finds (source : Source) (old new : Shape) (place : GraphPlace) (meaning : Around → ℕ → Store → End Place) : Type 0 where
  pub at : Place
  pub is : IsAt new place at
  pub does : Performs source old new (LeadsTo at) meaning

-- or as a place
abbrev pub DoesPlace : Source → Shape → Shape → ℕ → GraphPlace → Type 0
DoesPlace source old new e place = Finds source old new place (λ around fuel store. (level_at source fuel around).place e store)

-- or the index of an index expression, into its own cell, which is in use then
abbrev pub DoesIndex : Source → Shape → Shape → (e index : ℕ) → Type 0
DoesIndex source old new e index =
    Performs source old new Nothing (λ around fuel store. (level_at source fuel (marking (IndexOf e ∷ []) around)).into index (record { cell = IndexOf e }) store)

-- or the place of a field or an element, by that of its base
abbrev pub DoesField : Source → Shape → Shape → (base : ℕ) → (elem : PlaceElem) → GraphPlace → Type 0
DoesField source old new base elem place = Finds source old new place (λ around fuel store. field_place source (level_at source fuel) around base elem store)

-- the code runs statements, evaluates a tail, or binds a pattern to a place's value
abbrev pub DoesStatements : Source → Shape → Shape → List Statement → Type 0
DoesStatements source old new statements = Performs source old new Nothing (λ around fuel store. statements_of source (level_at source fuel) around statements store)

abbrev pub DoesTail : Source → Shape → Shape → Option ExprId → Cell → Type 0
DoesTail source old new tail cell = Performs source old new Nothing (λ around fuel store. tail_into (level_at source fuel around) tail (record { cell = cell }) store)

abbrev pub DoesBind : Source → Shape → Shape → ℕ → Place → Type 0
DoesBind source old new pat at = Performs source old new Nothing (λ around fuel store. bind source (pattern source pat) at store)

-- the code finds the place that an assignment writes to, or a compound one
abbrev pub DoesAssignee : Source → Shape → Shape → Assignee → GraphPlace → Type 0
DoesAssignee source old new to place = Finds source old new place (λ around fuel store. assignee_place source (level_at source fuel around) to store)

abbrev pub DoesAssigned : Source → Shape → Shape → Assigned → GraphPlace → Type 0
DoesAssigned source old new to place = Finds source old new place (λ around fuel store. assigned_place source (level_at source fuel) around to store)

-- the code copies the bytes of one place to another
abbrev pub DoesAssign : Source → Shape → Shape → (to from : Place) → Type 0
DoesAssign source old new to from = Performs source old new Nothing (λ around fuel store. assign_at source to from store)
