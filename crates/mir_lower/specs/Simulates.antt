-- A graph does what a typed body means.
use Rattle.std.specs.Prelude.{◌≡◌, ◌⊎◌, ℕ, ◌≤◌, List, [], map, sum, Option, Some, Ok, slice_get}
use Rattle.types.specs.declared.ty.Ty.{Ty}
use Rattle.mir.specs.declared.body.Local.{Local}
use Rattle.mir.specs.declared.body.MirBody.{MirBody}
use Rattle.mir.specs.Memory.{Memory}
use Rattle.mir.specs.Areas.{first_areas}
use Rattle.mir.specs.Run.{Program, Frame, Ended, entering, begun, levels_over}
use Rattle.source_meaning.specs.Ends.{cost_of, End, Go, Jumps, Faults, Stuck, More}
use Rattle.source_meaning.specs.Entering.{body_room, room_of}
use Rattle.source_meaning.specs.Meaning.{meaning_from, meaning_of}
use Rattle.source_meaning.specs.Source.{Source, Cell, Result, Binding, Store, binding_type, cell_type, node_type, root, zeroed}
use Rattle.world.specs.Lookups.{layout_of}
use Rattle.mir_lower.specs.Callees.{HasParameters, LaidByLocals, RunsAs, Serves, once_placed}
use Rattle.mir_lower.specs.Growth.{IsUsed}
use Rattle.mir_lower.specs.Runs.{Entry, Enters, IsReturned, EndsAfter, BreaksOff, AreCellsApart, Represents}
use Rattle.mir_lower.specs.Stops.{StopsWithin}

-- A run ends as the meaning does, after exactly as many blocks as that counts. Where the fuel of the meaning ran out, the run
-- enters as many blocks as were counted up to there. Of the calls that are open at a fault, or when the blocks run out, nothing is
-- said. Of a meaning that ends in a jump nothing is said: that of a plain body doesn't.
abbrev pub EndsOn : Source → End (List ℕ) → (ℕ → Ended) → Type 0
EndsOn source (Go bytes store cost) run = EndsAfter cost.turns (IsReturned bytes) run
EndsOn source (Jumps to store cost) run = Unit {0}
EndsOn source (Faults fault cost) run = BreaksOff source fault cost.turns run
EndsOn source Stuck run = Unit {0}
EndsOn source (More cost) run = Enters cost.turns run

-- The run of a body that none called ends as the body's meaning at some amount of fuel, or it stops at a call, within what that counts without the
-- levels of its value.
abbrev pub EndsAs : Source → Program → (fuel : ℕ) → (ℕ → Ended) → Type 0
EndsAs source program fuel run =
    StopsWithin source program (levels_over []) (first_areas program.bytes) (cost_of (meaning_from source (zeroed source) fuel)) run
    ⊎ EndsOn source (meaning_of source fuel) run

-- A MIR body does what a typed body means. A cell is where the source keeps a value: the result, a variable, a temporary of an expression;
-- a store gives each cell's bytes. `allotted` says which local stands for a cell, if any does: the return slot for the result, one for each
-- binding that no closure owns, no local for two cells, and for each cell one of its type; each local stands for a cell that is used.
-- `params`: the locals of the parameters are those of the bindings that these are the plain names of. `does`: entered at its start block, in a
-- frame whose locals are placed, share no byte and hold the store's bytes, whatever callers are suspended below it, and whatever limits and answers
-- the run goes by, where each body among these does at less fuel what its function's source means, the body runs as its meaning from that
-- store says, or stops at a call. `runs`: so it does alone, from zeroed locals in the source's world, where that can begin. All locals together
-- take no more bytes than the source counts for its cells (`room`). Where the source is plain, each local's type has a layout, and the layouts
-- of tuples and structs have their parts inside, the types of all that is evaluated have layouts (`laid_out`).
pub record Simulates (source : Source) (body : MirBody) : Type 0 where
  pub allotted : Cell → Option ℕ
  pub result : allotted Result ≡ Some 0
  pub bound : (b : ℕ) (ty : Ty) → binding_type source b ≡ Some ty → (l : ℕ) × (allotted (Binding b) ≡ Some l)
  pub own : (c d : Cell) (l : ℕ) → allotted c ≡ Some l → allotted d ≡ Some l → c ≡ d
  pub typed : (c : Cell) (l : ℕ) → allotted c ≡ Some l → (local : Local) × (slice_get body.locals l ≡ Some local) × (cell_type source c ≡ Some local.ty)
  pub params : HasParameters source body allotted
  pub does : (fuel : ℕ) (store : Store) (frame : Frame) (memory : Memory) → frame.body ≡ body → Serves fuel source frame.program → AreCellsApart frame.cells → Represents allotted frame store memory →
      RunsAs source allotted frame (Entry body.start_block.0) memory (once_placed source (meaning_from source store fuel))
  pub slot : (local : Local) × (slice_get body.locals 0 ≡ Some local) × (node_type source (root source) ≡ Some local.ty)
  pub cells : (l : ℕ) (local : Local) → slice_get body.locals l ≡ Some local → (cell : Cell) × IsUsed source cell × (cell_type source cell ≡ Some local.ty) × (allotted cell ≡ Some l)
  pub room : sum (map (λ local. room_of (layout_of source.world local.ty)) body.locals) ≤ body_room source
  pub laid_out : LaidByLocals source body
  pub runs : (fuel : ℕ) (program : Program) (start : Frame × Memory) → Serves fuel source program → begun program body ≡ Ok start →
      EndsAs source program fuel (λ budget. entering budget start.0 start.1 body.start_block.0)
