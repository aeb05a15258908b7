-- The memory of a run as its frames use it: the cells of a body's locals, and why locals can have none.
use Rattle.std.specs.Prelude.{ℕ, if◌then◌else◌, List, [], ◌∷◌, Option, Some, None, Result, Ok, Err, codes, slice_get, option_and_then}
use Rattle.world.specs.declared.database.HirDatabase.{HirDatabase}
use Rattle.world.specs.declared.layout.Layout.{Layout}
use Rattle.types.specs.declared.ty.Ty.{Ty}
use Rattle.world.specs.Lookups.{layout_of}
use Rattle.mir.specs.Areas.{Areas, after_push, bytes_at}
use Rattle.mir.specs.declared.address.CellSize.{CellSize}
use Rattle.mir.specs.declared.address.Interval.{Interval}
use Rattle.mir.specs.declared.body.Local.{Local}
use Rattle.mir.specs.declared.mem_fault.MemFault.{MemFault}
use Rattle.mir.specs.declared.errors.MirEvalError.{MirEvalError}
use Rattle.mir.specs.declared.errors.MirEvalError as error
use Rattle.mir.specs.declared.ids.LocalId.{LocalId}
use Rattle.mir.specs.Errors.{layout_error_of}
use Rattle.numbers.specs.Constants.{number_of_bytes}

-- what a run keeps its bytes in: a stack and a heap, each up to a limit
abbrev pub Memory : Type 0
Memory = Areas

-- the bytes of a cell, where the memory has them
abbrev pub cell_bytes : Memory → Interval → Option (List ℕ)
cell_bytes memory cell = bytes_at memory cell.addr cell.size

-- the unsigned number that a local holds, by the cells of all locals, where its cell has at most 16 bytes
unfoldable pub number_held : Memory → (cells : List Interval) → LocalId → Option ℕ
number_held memory cells local = option_and_then number_of_bytes (option_and_then (cell_bytes memory) (slice_get cells local.0))

-- how large a local's cell is, and which number divides its address; or why it can have none: its type has no layout, or no size
unfoldable pub cell_size_of : Ty → Option Layout → Result CellSize MirEvalError
cell_size_of ty None = Err (error.LayoutError (layout_error_of ty) ty)
cell_size_of ty (Some layout) =
    if layout.sized
    then Ok (record { size = layout.size; align = layout.align })
    else Err (error.TypeIsUnsized ty (codes "no unsized local in extending stack"))

-- a cell's size before those of the cells after it
abbrev pub size_before : CellSize → Result (List CellSize) MirEvalError → Result (List CellSize) MirEvalError
size_before size (Ok sizes) = Ok (size ∷ sizes)
size_before size (Err e) = Err e

-- the sizes of the cells of locals in order; or why the first that can have none has none
unfoldable pub sizes_of : HirDatabase → List Local → Result (List CellSize) MirEvalError
sizes_of world [] = Ok []
sizes_of world (local ∷ locals) =
    elim (cell_size_of local.ty (layout_of world local.ty)) [ Ok size ↦ size_before size (sizes_of world locals) | Err e ↦ Err e ]

-- cells that were pushed, in the errors of a run: they aren't where they would take more bytes than the limit
abbrev pub pushed : Result (List Interval × Memory) MemFault → Result (List Interval × Memory) MirEvalError
pushed (Ok placed) = Ok placed
pushed (Err fault) = Err error.MemoryLimitExceeded

-- A new zeroed cell for each local in order, at the stack's end, and the memory with all of them; or why there are none: a local's type
-- has no layout or no size, or the stack would pass the limit.
unfoldable pub cells_of : HirDatabase → List Local → Memory → Result (List Interval × Memory) MirEvalError
cells_of world locals memory = elim (sizes_of world locals) [ Ok sizes ↦ pushed (after_push memory sizes) | Err e ↦ Err e ]

-- a cell before other cells
abbrev pub cell_before : Interval → Result (List Interval × Memory) MirEvalError → Result (List Interval × Memory) MirEvalError
cell_before cell (Ok rest) = Ok (cell ∷ rest.0, rest.1)
cell_before cell (Err e) = Err e
