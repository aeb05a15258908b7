-- Runs of a frame: from a point of its body to another, or to the end of the run.
use Rattle.std.specs.Prelude.{◌≡◌, ◌≢◌, ℕ, ◌+◌, ◌<◌, ◌≤◌, List, Option, Some, slice_get, option_and_then}
use Rattle.mir.specs.declared.errors.MirEvalError.{MirEvalError}
use Rattle.mir.specs.declared.errors.MirEvalError as error
use Rattle.mir.specs.declared.errors.TrailEntry.{TrailEntry}
use Rattle.mir.specs.declared.address.Interval.{Interval}
use Rattle.mir.specs.Areas.{AreApart, taken}
use Rattle.mir.specs.Memory.{Memory, cell_bytes}
use Rattle.mir.specs.Run.{Frame, Ending, Returned, Faulted, Ended, out_of_blocks, after_return, entering, going_on, running}
use Rattle.source_meaning.specs.Aggregates.{HasAggregates}
use Rattle.source_meaning.specs.Ends.{Fault, Panic, Undefined, NoLayout}
use Rattle.source_meaning.specs.Source.{Source, Cell, Store}
use Rattle.source_meaning.specs.Valid.{IsPlainThroughout, AreLaidOut}

-- A point of a run: in a block that it entered, before a statement or before the terminator; before it enters a block; or at a `Return`
-- terminator, before control goes back to the caller or the run ends.
pub data Point : Type 0 where
  Within : (block index : ℕ) → Point
  Entry : (block : ℕ) → Point
  Exit : Point

-- the point before the first statement of a block
abbrev pub start_of : ℕ → Point
start_of block = Within block 0

-- the run from a point on
abbrev pub run_from : Frame → Memory → Point → ℕ → Ended
run_from frame memory (Within block index) budget = running budget frame memory block index
run_from frame memory (Entry block) budget = entering budget frame memory block
run_from frame memory Exit budget = going_on budget (after_return frame memory)

-- a run ended for want of blocks, over whatever calls were open then
abbrev pub IsOutOfBlocks : Ended → Type 0
IsOutOfBlocks ended = (trail : List TrailEntry) × (ended ≡ out_of_blocks trail)

-- a run enters at least `turns` blocks: under a budget of fewer it runs out of them, over whatever calls are open then
abbrev pub Enters : ℕ → (ℕ → Ended) → Type 0
Enters turns run = (fewer : ℕ) → fewer < turns → IsOutOfBlocks (run fewer)

-- an ending returns these bytes
abbrev pub IsReturned : List ℕ → Ending → Type 0
IsReturned bytes ending = ending ≡ Returned bytes

-- an ending is a fault with this error, whatever calls were open then
abbrev pub IsFault : MirEvalError → Ending → Type 0
IsFault e ending = (trail : List TrailEntry) × (ending ≡ Faulted e trail)

-- A run under every budget: it ends in such an ending, after exactly `turns` blocks. With just as many blocks or more it ends so
-- and leaves the rest, and with fewer it runs out of them.
pub record EndsAfter (turns : ℕ) (ends : Ending → Type 0) (run : ℕ → Ended) : Type 0 where
  pub with_more : (more : ℕ) → (ending : Ending) × ends ending × (run (turns + more) ≡ record { ending = ending; left = more })
  pub with_fewer : Enters turns run

-- the types that a source needs have layouts, it is plain, as are all that it reaches by calls, and tuples, arrays and structs have room for their parts
pub record IsFit (source : Source) : Type 0 where
  pub plain : IsPlainThroughout source
  pub laid_out : AreLaidOut source
  pub parts : HasAggregates source.world

-- A run breaks off as a fault of the meaning says, over exactly so many blocks. That a body can't be entered for want of a layout is never the end
-- of a run that went so far, where the source is fit: the run stops at the call then.
abbrev pub BreaksOff : Source → Fault → (turns : ℕ) → (ℕ → Ended) → Type 0
BreaksOff source (Panic word) turns run = EndsAfter turns (IsFault (error.Panic word)) run
BreaksOff source (Undefined text) turns run = EndsAfter turns (IsFault (error.UndefinedBehavior text)) run
BreaksOff source NoLayout turns run = ¬ IsFit source

-- the bytes of a local
unfoldable pub local_bytes : Frame → Memory → ℕ → Option (List ℕ)
local_bytes frame memory local = option_and_then (cell_bytes memory) (slice_get frame.cells local)

-- no two cells of a frame share a byte
abbrev pub AreCellsApart : List Interval → Type 0
AreCellsApart cells = (i j : ℕ) (a b : Interval) → i ≢ j → slice_get cells i ≡ Some a → slice_get cells j ≡ Some b → AreApart a b

-- an interval shares no byte with any cell of a frame
abbrev pub LiesApart : Frame → Interval → Type 0
LiesApart frame interval = (i : ℕ) (cell : Interval) → slice_get frame.cells i ≡ Some cell → AreApart cell interval

-- Each interval of the old memory that shares no byte with a local of the frame has the same bytes later. Nothing is said of bytes behind
-- the old end of the stack or of the heap.
abbrev pub KeepsOthers : Frame → Memory → Memory → Type 0
KeepsOthers frame memory later = (interval : Interval) (bytes : List ℕ) → LiesApart frame interval → cell_bytes memory interval ≡ Some bytes → cell_bytes later interval ≡ Some bytes

-- Later the stack has at most so many bytes more, and the limit is the same.
pub record HasGrown (bytes : ℕ) (memory later : Memory) : Type 0 where
  pub stack : taken later.stack ≤ taken memory.stack + bytes
  pub limit : later.limit ≡ memory.limit

-- The run goes from one point to another, enters `turns` blocks on the way, and places cells of at most so many `bytes`. Of what was there
-- before it changes only the frame's cells.
pub record Comes (frame : Frame) (turns bytes : ℕ) (from : Point) (memory : Memory) (to : Point) (later : Memory) : Type 0 where
  pub with_more : (more : ℕ) → run_from frame memory from (turns + more) ≡ run_from frame later to more
  pub with_fewer : Enters turns (run_from frame memory from)
  pub others : KeepsOthers frame memory later
  pub grown : HasGrown bytes memory later

-- The memory represents a store: where a cell of the source has a local, the local's bytes are those that the store has for the cell.
pub record Represents (allotted : Cell → Option ℕ) (frame : Frame) (store : Store) (memory : Memory) : Type 0 where
  pub shows : (cell : Cell) (local : ℕ) → allotted cell ≡ Some local → local_bytes frame memory local ≡ Some (store cell)
