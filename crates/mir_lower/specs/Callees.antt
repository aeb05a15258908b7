-- What a run of a body does, and what the bodies do that it is told for the functions that it calls.
use Rattle.std.specs.Prelude.{◌≡◌, ◌⊎◌, ℕ, ◌-◌, ◌<◌, ◌≤◌, List, [], ◌∷◌, map, sum, Option, Some, slice_get}
use Rattle.types.specs.declared.ids.FunctionId.{FunctionId}
use Rattle.mir.specs.Answers.{answer_to}
use Rattle.mir.specs.declared.answers.Answer.TheVariants as told
use Rattle.mir.specs.declared.body.Local.{Local}
use Rattle.mir.specs.declared.body.MirBody.{MirBody}
use Rattle.mir.specs.declared.ids.LocalId.{LocalId}
use Rattle.mir.specs.Memory.{Memory}
use Rattle.mir.specs.Run.{Program, Frame, body_query}
use Rattle.world.specs.Checked.{IsChecked}
use Rattle.world.specs.Lookups.{layout_of}
use Rattle.source_meaning.specs.Aggregates.{HasAggregates}
use Rattle.source_meaning.specs.Calls.{source_of, parameters}
use Rattle.source_meaning.specs.Ends.{Cost, cost_of, End, Go, Jumps, Faults, Stuck, More}
use Rattle.source_meaning.specs.Entering.{body_room, room_of}
use Rattle.source_meaning.specs.Meaning.{meaning_from}
use Rattle.source_meaning.specs.Source.{Source, Cell, Result, Binding, Store, cell_type}
use Rattle.source_meaning.specs.Valid.{IsPlain, IsLaidOut, AreLaidOut}
use Rattle.mir_lower.specs.Growth.{IsUsed}
use Rattle.mir_lower.specs.Runs.{Point, Entry, Exit, run_from, Enters, BreaksOff, local_bytes, AreCellsApart, Comes, Represents}
use Rattle.mir_lower.specs.Stops.{StopsFrom, without_arguments}

-- From a point on, the run of a body does what its meaning says, over exactly as many blocks as that counts, and over cells of no more bytes: it
-- comes to where the body returns, with a memory that represents the store, and with the value's bytes in the return slot; or it ends in a
-- fault. Where the fuel of the meaning ran out, the run enters as many blocks as were counted up to there. Of a meaning that is stuck or ends
-- in a jump nothing is said: that of a body of a checked world is neither, where the body and all that it reaches by calls are plain, and it begins
-- from a store with as many bytes in each cell as the cell's type has.
abbrev pub RunsOn : Source → (Cell → Option ℕ) → Frame → Point → Memory → End (List ℕ) → Type 0
RunsOn source allotted frame from memory (Go bytes store cost) =
    (later : Memory) × Comes frame cost.turns cost.bytes from memory Exit later × Represents allotted frame store later × (local_bytes frame later 0 ≡ Some bytes)
RunsOn source allotted frame from memory (Jumps to store cost) = Unit {0}
RunsOn source allotted frame from memory (Faults fault cost) = BreaksOff source fault cost.turns (run_from frame memory from)
RunsOn source allotted frame from memory Stuck = Unit {0}
RunsOn source allotted frame from memory (More cost) = Enters cost.turns (run_from frame memory from)

-- the run does so, or it stops at a call, within what its meaning counts
abbrev pub RunsAs : Source → (Cell → Option ℕ) → Frame → Point → Memory → End (List ℕ) → Type 0
RunsAs source allotted frame from memory end = StopsFrom source frame from memory (cost_of end) ⊎ RunsOn source allotted frame from memory end

-- a cost without the bytes of a body's own cells
abbrev pub cost_once_placed : Source → Cost → Cost
cost_once_placed source cost = record cost { bytes = cost.bytes - body_room source }

-- The end of a body whose cells are placed already: they aren't counted again.
abbrev pub once_placed : Source → End (List ℕ) → End (List ℕ)
once_placed source (Go bytes store cost) = Go bytes store (cost_once_placed source cost)
once_placed source (Jumps to store cost) = Jumps to store (cost_once_placed source cost)
once_placed source (Faults fault cost) = Faults fault (cost_once_placed source cost)
once_placed source Stuck = Stuck
once_placed source (More cost) = More (cost_once_placed source cost)

-- each local has the type of a cell that the evaluation of a source may use, and all of them take no more bytes than the source counts for its
-- cells
pub record AreCounted (source : Source) (locals : List Local) : Type 0 where
  pub cells : (l : ℕ) (local : Local) → slice_get locals l ≡ Some local → (cell : Cell) × IsUsed source cell × (cell_type source cell ≡ Some local.ty)
  pub room : sum (map (λ local. room_of (layout_of source.world local.ty)) locals) ≤ body_room source

-- the locals of the bindings of parameters, one each
abbrev pub AreLocalsOf : (Cell → Option ℕ) → List ℕ → List LocalId → Type 0
AreLocalsOf allotted [] [] = Unit {0}
AreLocalsOf allotted (b ∷ bound) (local ∷ locals) = (allotted (Binding b) ≡ Some local.0) × AreLocalsOf allotted bound locals
AreLocalsOf allotted _ _ = ⊥

-- the bindings of the parameters of a source are told by the locals of a body's parameters
pub record HasParameters (source : Source) (body : MirBody) (allotted : Cell → Option ℕ) : Type 0 where
  pub bound : List ℕ
  pub binds : parameters source ≡ Some bound
  pub locals : AreLocalsOf allotted bound body.param_locals

-- a plain body needs no types but those of its locals, and the parts of these: where each local's type has a layout, all have
abbrev pub LaidByLocals : Source → MirBody → Type 0
LaidByLocals source body =
    HasAggregates source.world → IsPlain source → ((l : ℕ) (local : Local) → slice_get body.locals l ≡ Some local → IsLaidOut source (Some local.ty)) → AreLaidOut source

-- with less fuel than this a body, entered in a run that goes by a program, does what a source means
pub record DoesBelow (fuel : ℕ) (program : Program) (source : Source) (body : MirBody) : Type 0 where
  pub allotted : Cell → Option ℕ
  pub result : allotted Result ≡ Some 0
  pub own : (c d : Cell) (l : ℕ) → allotted c ≡ Some l → allotted d ≡ Some l → c ≡ d
  pub typed : (c : Cell) (l : ℕ) → allotted c ≡ Some l → (local : Local) × (slice_get body.locals l ≡ Some local) × (cell_type source c ≡ Some local.ty)
  pub params : HasParameters source body allotted
  pub counted : AreCounted source body.locals
  pub laid_out : LaidByLocals source body
  pub does : (less : ℕ) → less < fuel → (store : Store) (frame : Frame) (memory : Memory) → frame.program ≡ program → frame.body ≡ body → AreCellsApart frame.cells → Represents allotted frame store memory →
      RunsAs source allotted frame (Entry body.start_block.0) memory (once_placed source (meaning_from source store less))

-- A run goes by the checked world of a source, and each body that it is told for a function does what the function's source means, at less
-- fuel than this.
pub record Serves (fuel : ℕ) (source : Source) (program : Program) : Type 0 where
  pub world : program.world ≡ source.world
  pub checked : IsChecked source.world
  pub bodies : (id : FunctionId) (called : Source) (body : _) → source_of source.world id ≡ Some called →
      answer_to program.answers (body_query (without_arguments id)) ≡ Some (told.Body body) → DoesBelow fuel program called body.value
