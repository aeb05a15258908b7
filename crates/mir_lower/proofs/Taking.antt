-- How many bytes the stack takes: none more after a statement, and for cells no more than their sizes and alignments.
use Rattle.std.proofs.Common.{◌≡◌, ℕ, suc, ◌+◌, ◌-◌, ◌%◌, ◌<◌, ◌≤◌, ◌⊎◌, inl, inr, Bool, true, false, cond, List, [], ◌∷◌, length, Option, Some, None, Result, Ok, Err, refl, sym, ap, ◌∙◌, subst, arith, length-append}
use Rattle.std.specs.Prelude.{codes, nat_le, replicate, slice_get, sum_by}
use borrow.Author.Tests.{leb-false}
use Rattle.std.proofs.Math.Nat.{mod-le}
use Rattle.std.proofs.lemmas.List.{length-replicate}
use Rattle.std.proofs.lemmas.List.Sums.{sum_by-cons}
use Rattle.types.specs.declared.ty.Ty.{Ty}
use Rattle.world.specs.declared.database.HirDatabase.{HirDatabase}
use Rattle.world.specs.declared.layout.Layout.{Layout}
use Rattle.world.specs.Lookups.{layout_of}
use Rattle.mir.specs.Areas.{after_push, cells_behind, end_behind, grown_to, length_behind, start_behind, taken, with_bytes}
use Rattle.mir.specs.declared.address.Address.{Address}
use Rattle.mir.specs.declared.address.CellSize.{CellSize}
use Rattle.mir.specs.declared.address.Interval.{Interval}
use Rattle.mir.specs.declared.body.Local.{Local}
use Rattle.mir.specs.declared.errors.MirEvalError.{MirEvalError}
use Rattle.mir.specs.declared.errors.MirEvalError as error
use Rattle.mir.specs.declared.ids.LocalId.{LocalId}
use Rattle.mir.specs.declared.mem_fault.MemFault.{MemFault}
use Rattle.mir.specs.declared.mem_fault.MemFault.TheVariants as fault
use Rattle.mir.specs.declared.operand.Operand.{Operand}
use Rattle.mir.specs.declared.statement.StatementKind.{StatementKind}
use Rattle.mir.specs.declared.statement.StatementKind.TheVariants.{Assign, FakeRead, StorageLive, StorageDead}
use Rattle.mir.specs.Errors.{layout_error_of}
use Rattle.mir.specs.Memory.{Memory, cell_before, cell_size_of, cells_of, number_held, pushed, size_before, sizes_of}
use Rattle.mir.specs.Run.{Frame, after_statement, assigned, assigns_out, bad_write, called_cells, cell_now, copied, filled, operand_bytes, read, rvalue_bytes}
use Rattle.mir_mem.proofs.Writing.{writes_keep_lengths}
use Rattle.source_meaning.specs.Entering.{room_of}
use Rattle.mir_lower.specs.Runs.{HasGrown}
use Rattle.mir_lower.proofs.Placing.{first-ok}
use Rattle.mir_lower.proofs.Reaching.{grown-trans, not-grown}
use Rattle.mir_lower.proofs.Stack.{as-write}

-- a write takes no more bytes
write-takes-none : (memory later : Memory) (address : Address) (bytes : List ℕ) → with_bytes memory address bytes ≡ Some later → HasGrown 0 memory later
write-takes-none memory later address bytes written =
    let long = writes_keep_lengths memory later address bytes (as-write memory later address bytes written) in
    let stack = long.stack in
    record { stack = omega arith; limit = long.limit }

some-written : (written : Option Memory) (later : Memory) → ◌≡◌ {A = Result Memory MirEvalError} (elim written [ Some after ↦ Ok after | None ↦ Err bad_write ]) (Ok later) → written ≡ Some later
some-written (Some after) later is = let same : after ≡ later = cc in ap Some same
some-written None later is = absurd cc

copied-takes-none : (memory later : Memory) (cell : Option Interval) (bytes : Result (List ℕ) MirEvalError) → copied memory cell bytes ≡ Ok later → HasGrown 0 memory later
unfolding copied
copied-takes-none memory later (Some cell) (Ok bytes) is = write-takes-none memory later cell.addr bytes (some-written (with_bytes memory cell.addr bytes) later is)
copied-takes-none memory later (Some cell) (Err e) is = absurd cc
copied-takes-none memory later None bytes is = absurd cc

assigned-takes-none : (out : Bool) (memory later : Memory) (cell : Option Interval) (bytes : Result (List ℕ) MirEvalError) → assigned out memory cell bytes ≡ Ok later → HasGrown 0 memory later
assigned-takes-none true memory later cell bytes is = absurd cc
assigned-takes-none false memory later cell bytes is = copied-takes-none memory later cell bytes is

same-memory : (memory later : Memory) → ◌≡◌ {A = Result Memory MirEvalError} (Ok memory) (Ok later) → HasGrown 0 memory later
same-memory memory later is = let same : memory ≡ later = cc in subst (HasGrown 0 memory) same (not-grown memory 0)

-- nor does a statement
pub statement-takes-none : (frame : Frame) (memory later : Memory) (kind : StatementKind) → after_statement frame memory kind ≡ Ok later → HasGrown 0 memory later
unfolding after_statement
statement-takes-none frame memory later (Assign place rvalue) is =
    assigned-takes-none (assigns_out frame.program.world frame.body (number_held memory frame.cells) place rvalue) memory later (cell_now frame memory place) (rvalue_bytes frame memory rvalue) is
statement-takes-none frame memory later (FakeRead place) is = same-memory memory later is
statement-takes-none frame memory later (StorageLive local) is = same-memory memory later is
statement-takes-none frame memory later (StorageDead local) is = same-memory memory later is

-- nor does the copying of arguments
pub filling-takes-none : (caller : Frame) (cells : List Interval) (params : List LocalId) (args : List Operand) (memory later : Memory) → filled caller cells params args memory ≡ Ok later → HasGrown 0 memory later
unfolding filled
filling-takes-none caller cells [] [] memory later is = same-memory memory later is
filling-takes-none caller cells [] (arg ∷ args) memory later is = absurd cc
filling-takes-none caller cells (param ∷ params) [] memory later is = absurd cc
filling-takes-none caller cells (param ∷ params) (arg ∷ args) memory later is =
    let first = first-ok (copied memory (slice_get cells param.0) (read (operand_bytes caller memory arg.kind))) (λ after. filled caller cells params args after) later is in
    grown-trans 0 0 memory first.0 later
    (copied-takes-none memory first.0 (slice_get cells param.0) (read (operand_bytes caller memory arg.kind)) first.1)
    (filling-takes-none caller cells params args first.0 later first.2)

-- an alignment skips fewer bytes than it has
start-near : (end : ℕ) (cell : CellSize) → start_behind end cell ≤ end + cell.align
start-near end cell =
    let skipped : (cell.align - end % cell.align) % cell.align ≤ cell.align - end % cell.align = mod-le _ cell.align in
    omega arith

-- how many bytes cells take at most: of each its size, and as many as its alignment
abbrev pub cell-rooms : List CellSize → ℕ
cell-rooms cells = sum_by (λ cell. cell.size + cell.align) cells

pub behind-near : (end : ℕ) (cells : List CellSize) → length_behind end cells ≤ end + cell-rooms cells
unfolding length_behind
behind-near end [] = omega arith
behind-near end (cell ∷ cells) =
    let near = start-near end cell in
    let rest = behind-near (end_behind end cell) cells in
    let counts : cell-rooms (cell ∷ cells) ≡ cell.size + cell.align + cell-rooms cells = sum_by-cons (λ (c : CellSize). c.size + c.align) cell cells in
    omega arith

-- the size of a cell takes as many bytes as are counted for its type
sized-room : (layout : Layout) (size : CellSize) (e : MirEvalError) (b : Bool) → ◌≡◌ {A = Result CellSize MirEvalError} (cond b (Ok (record { size = layout.size; align = layout.align })) (Err e)) (Ok size) → size.size + size.align ≡ cond b (layout.size + layout.align) 0
sized-room layout size e true h =
    let same : ◌≡◌ {A = CellSize} (record { size = layout.size; align = layout.align }) size = cc in
    sym (ap (λ (s : CellSize). s.size + s.align) same)
sized-room layout size e false h = absurd cc

size-room : (ty : Ty) (found : Option Layout) (size : CellSize) → cell_size_of ty found ≡ Ok size → size.size + size.align ≡ room_of found
unfolding cell_size_of
size-room ty None size h = absurd cc
size-room ty (Some layout) size h = sized-room layout size (error.TypeIsUnsized ty (codes "no unsized local in extending stack")) layout.sized h

pub before-sizes : (size : CellSize) (rest : Result (List CellSize) MirEvalError) (sizes : List CellSize) → size_before size rest ≡ Ok sizes → (others : List CellSize) × (rest ≡ Ok others) × (sizes ≡ size ∷ others)
before-sizes size (Ok others) sizes h = (others, refl, (let same : ◌≡◌ {A = List CellSize} (size ∷ others) sizes = cc in sym same))
before-sizes size (Err e) sizes h = absurd cc

-- how many bytes are counted for locals
abbrev pub rooms : HirDatabase → List Local → ℕ
rooms world locals = sum_by (λ local. room_of (layout_of world local.ty)) locals

pub sizes-room : (world : HirDatabase) (locals : List Local) (sizes : List CellSize) → sizes_of world locals ≡ Ok sizes → cell-rooms sizes ≡ rooms world locals
unfolding sizes_of
sizes-room world [] sizes h = let same : ◌≡◌ {A = List CellSize} [] sizes = cc in sym (ap cell-rooms same)
sizes-room world (local ∷ locals) sizes h =
    let first = first-ok (cell_size_of local.ty (layout_of world local.ty)) (λ size. size_before size (sizes_of world locals)) sizes h in
    let one = size-room local.ty (layout_of world local.ty) first.0 first.1 in
    let next = before-sizes first.0 (sizes_of world locals) sizes first.2 in
    let others = sizes-room world locals next.0 next.1 in
    let counted : cell-rooms (first.0 ∷ next.0) ≡ first.0.size + first.0.align + cell-rooms next.0 = sum_by-cons (λ (c : CellSize). c.size + c.align) first.0 next.0 in
    let counts : rooms world (local ∷ locals) ≡ room_of (layout_of world local.ty) + rooms world locals = sum_by-cons (λ (l : Local). room_of (layout_of world l.ty)) local locals in
    subst (λ (all : List CellSize). cell-rooms all ≡ rooms world (local ∷ locals)) (sym next.2) (omega arith)

-- what pushing cells comes to, where it is known whether they keep to the limit
abbrev PushedBy : Bool → Memory → List CellSize → Result (List Interval × Memory) MemFault
PushedBy kept memory sizes =
    cond kept (Ok (cells_behind (length memory.stack) sizes, record memory { stack = grown_to (length_behind (length memory.stack) sizes) memory.stack })) (Err fault.MemoryLimitExceeded)

push-by : (memory : Memory) (sizes : List CellSize) → after_push memory sizes ≡ PushedBy (nat_le (length_behind (length memory.stack) sizes - 1) memory.limit) memory sizes
unfolding after_push
push-by memory sizes = refl

push-takes : (kept : Bool) (memory : Memory) (sizes : List CellSize) (all : List Interval × Memory) → PushedBy kept memory sizes ≡ Ok all → HasGrown (cell-rooms sizes) memory all.1
push-takes false memory sizes all is = absurd cc
push-takes true memory sizes all is =
    let end = length_behind (length memory.stack) sizes in
    let grown : Memory = record memory { stack = grown_to end memory.stack } in
    let long : length (grown_to end memory.stack) ≡ length memory.stack + (end - length memory.stack) =
    length-append memory.stack (replicate (end - length memory.stack) 0) ∙ ap (λ n. length memory.stack + n) (length-replicate (end - length memory.stack) 0) in
    let near = behind-near (length memory.stack) sizes in
    let same : ◌≡◌ {A = List Interval × Memory} (cells_behind (length memory.stack) sizes, grown) all = cc in
    subst (λ (a : List Interval × Memory). HasGrown (cell-rooms sizes) memory a.1) same (record { stack = omega arith; limit = refl })

-- cells aren't pushed only where they pass the limit
push-passes : (kept : Bool) (memory : Memory) (sizes : List CellSize) (e : MirEvalError) → nat_le (length_behind (length memory.stack) sizes - 1) memory.limit ≡ kept → pushed (PushedBy kept memory sizes) ≡ Err e →
    (e ≡ error.MemoryLimitExceeded) × (memory.limit < taken memory.stack + cell-rooms sizes)
push-passes true memory sizes e is h = absurd cc
push-passes false memory sizes e is h =
    let near = behind-near (length memory.stack) sizes in
    let less = leb-false (length_behind (length memory.stack) sizes - 1) memory.limit is in
    ((let same : error.MemoryLimitExceeded ≡ e = cc in sym same), omega arith)

pushed-ok : (r : Result (List Interval × Memory) MemFault) (all : List Interval × Memory) → pushed r ≡ Ok all → r ≡ Ok all
pushed-ok (Ok placed) all h = let same : placed ≡ all = cc in ap Ok same
pushed-ok (Err fault) all h = absurd cc

-- the cells of locals take no more bytes than are counted for them
pub cells-take : (world : HirDatabase) (locals : List Local) (memory : Memory) (all : List Interval × Memory) → cells_of world locals memory ≡ Ok all → HasGrown (rooms world locals) memory all.1
unfolding cells_of
cells-take world locals memory all is =
    let first = first-ok (sizes_of world locals) (λ sizes. pushed (after_push memory sizes)) all is in
    let pushes = pushed-ok (after_push memory first.0) all first.2 in
    subst (λ (n : ℕ). HasGrown n memory all.1) (sizes-room world locals first.0 first.1)
    (push-takes (nat_le (length_behind (length memory.stack) first.0 - 1) memory.limit) memory first.0 all (sym (push-by memory first.0) ∙ pushes))

-- a local can have no cell: its type has no layout, or one without a size
abbrev pub HasNoCell : HirDatabase → Local → MirEvalError → Type 0
HasNoCell world local e =
    ((e ≡ error.LayoutError (layout_error_of local.ty) local.ty) × (layout_of world local.ty ≡ None))
    ⊎ ((e ≡ error.TypeIsUnsized local.ty (codes "no unsized local in extending stack")) × (layout : Layout) × (layout_of world local.ty ≡ Some layout) × (layout.sized ≡ false))

size-lacks : (world : HirDatabase) (local : Local) (layout : Option Layout) (e : MirEvalError) → layout_of world local.ty ≡ layout → cell_size_of local.ty layout ≡ Err e → HasNoCell world local e
unfolding cell_size_of
size-lacks world local None e found is = inl ((let same : error.LayoutError (layout_error_of local.ty) local.ty ≡ e = cc in sym same), found)
size-lacks world local (Some layout) e found is = by_sized layout.sized refl is where
  by_sized : (sized : Bool) → layout.sized ≡ sized → ◌≡◌ {A = Result CellSize MirEvalError} (cond sized (Ok (record { size = layout.size; align = layout.align })) (Err (error.TypeIsUnsized local.ty (codes "no unsized local in extending stack")))) (Err e) → HasNoCell world local e
  by_sized true is_sized is = absurd cc
  by_sized false is_sized is = inr ((let same : error.TypeIsUnsized local.ty (codes "no unsized local in extending stack") ≡ e = cc in sym same), layout, found, is_sized)

before-lacks : (size : CellSize) (rest : Result (List CellSize) MirEvalError) (e : MirEvalError) → size_before size rest ≡ Err e → rest ≡ Err e
before-lacks size (Ok sizes) e is = absurd cc
before-lacks size (Err cause) e is = let same : cause ≡ e = cc in ap Err same

-- one of locals can have no cell
abbrev pub SomeHasNoCell : HirDatabase → List Local → MirEvalError → Type 0
SomeHasNoCell world locals e = (l : ℕ) × (local : Local) × (slice_get locals l ≡ Some local) × HasNoCell world local e

later-lacks : (world : HirDatabase) (first : Local) (locals : List Local) (e : MirEvalError) → SomeHasNoCell world locals e → SomeHasNoCell world (first ∷ locals) e
later-lacks world first locals e lacks = (suc lacks.0, lacks.1, lacks.2, lacks.3)

first-lacks : (world : HirDatabase) (local : Local) (locals : List Local) (size : Result CellSize MirEvalError) (rest : Result (List CellSize) MirEvalError) (e : MirEvalError) → cell_size_of local.ty (layout_of world local.ty) ≡ size → (rest ≡ Err e → SomeHasNoCell world locals e) →
    ◌≡◌ {A = Result (List CellSize) MirEvalError} (elim size [ Ok s ↦ size_before s rest | Err cause ↦ Err cause ]) (Err e) → SomeHasNoCell world (local ∷ locals) e
first-lacks world local locals (Ok size) rest e of others is = later-lacks world local locals e (others (before-lacks size rest e is))
first-lacks world local locals (Err cause) rest e of others is =
    let same : cause ≡ e = cc in (0, local, refl, size-lacks world local (layout_of world local.ty) e refl (of ∙ ap Err same))

sizes-lack : (world : HirDatabase) (locals : List Local) (e : MirEvalError) → sizes_of world locals ≡ Err e → SomeHasNoCell world locals e
unfolding sizes_of
sizes-lack world [] e is = absurd cc
sizes-lack world (local ∷ locals) e is =
    first-lacks world local locals (cell_size_of local.ty (layout_of world local.ty)) (sizes_of world locals) e refl (sizes-lack world locals e) is

-- why locals have no cells: one can have none, or they take more bytes than the limit
abbrev pub AreNotPlaced : HirDatabase → List Local → Memory → MirEvalError → Type 0
AreNotPlaced world locals memory e = SomeHasNoCell world locals e ⊎ ((e ≡ error.MemoryLimitExceeded) × (memory.limit < taken memory.stack + rooms world locals))

cells-lack : (world : HirDatabase) (locals : List Local) (memory : Memory) (e : MirEvalError) → cells_of world locals memory ≡ Err e → AreNotPlaced world locals memory e
unfolding cells_of
cells-lack world locals memory e is = by_sizes (sizes_of world locals) refl is where
  by_sizes : (sizes : Result (List CellSize) MirEvalError) → sizes_of world locals ≡ sizes → ◌≡◌ {A = Result (List Interval × Memory) MirEvalError} (elim sizes [ Ok all ↦ pushed (after_push memory all) | Err cause ↦ Err cause ]) (Err e) → AreNotPlaced world locals memory e
  by_sizes (Ok all) of is =
      let counts = sizes-room world locals all of in
      let passes = push-passes (nat_le (length_behind (length memory.stack) all - 1) memory.limit) memory all e refl (ap pushed (sym (push-by memory all)) ∙ is) in
      let more = passes.1 in
      inr (passes.0, omega arith)
  by_sizes (Err cause) of is = let same : cause ≡ e = cc in inl (sizes-lack world locals e (of ∙ ap Err same))

pub before-is : (cell : Interval) (rest : Result (List Interval × Memory) MirEvalError) (all : List Interval × Memory) → cell_before cell rest ≡ Ok all → (behind : List Interval × Memory) × (rest ≡ Ok behind) × (behind.1 ≡ all.1)
before-is cell (Ok behind) all is = (behind, refl, (let same : ◌≡◌ {A = List Interval × Memory} (cell ∷ behind.0, behind.1) all = cc in ap (λ (a : List Interval × Memory). a.1) same))
before-is cell (Err e) all is = absurd cc

before-not : (cell : Interval) (rest : Result (List Interval × Memory) MirEvalError) (e : MirEvalError) → cell_before cell rest ≡ Err e → rest ≡ Err e
before-not cell (Ok behind) e is = absurd cc
before-not cell (Err cause) e is = let same : cause ≡ e = cc in ap Err same

pub grown-more : (few many : ℕ) (memory later : Memory) → few ≤ many → HasGrown few memory later → HasGrown many memory later
grown-more few many memory later less grown = let stack = grown.stack in record { stack = omega arith; limit = grown.limit }

-- one local more counts for no less
rooms-behind : (world : HirDatabase) (slot : Local) (locals : List Local) → rooms world locals ≤ rooms world (slot ∷ locals)
rooms-behind world slot locals =
    let counts : rooms world (slot ∷ locals) ≡ room_of (layout_of world slot.ty) + rooms world locals = sum_by-cons (λ (l : Local). room_of (layout_of world l.ty)) slot locals in
    omega arith

-- the same of the cells of a called body, whose return slot may be there already
pub called-cells-take : (world : HirDatabase) (locals : List Local) (destination : Option Interval) (memory : Memory) (all : List Interval × Memory) → called_cells world locals destination memory ≡ Ok all → HasGrown (rooms world locals) memory all.1
called-cells-take world [] None memory all is = cells-take world [] memory all is
called-cells-take world (slot ∷ locals) None memory all is = cells-take world (slot ∷ locals) memory all is
called-cells-take world [] (Some destination) memory all is = cells-take world [] memory all is
called-cells-take world (slot ∷ locals) (Some destination) memory all is =
    let made = before-is destination (cells_of world locals memory) all is in
    let behind = cells-take world locals memory made.0 made.1 in
    grown-more (rooms world locals) (rooms world (slot ∷ locals)) memory all.1 (rooms-behind world slot locals) (subst (HasGrown (rooms world locals) memory) made.2 behind)

pub called-cells-lack : (world : HirDatabase) (locals : List Local) (destination : Option Interval) (memory : Memory) (e : MirEvalError) → called_cells world locals destination memory ≡ Err e → AreNotPlaced world locals memory e
called-cells-lack world [] None memory e is = cells-lack world [] memory e is
called-cells-lack world (slot ∷ locals) None memory e is = cells-lack world (slot ∷ locals) memory e is
called-cells-lack world [] (Some destination) memory e is = cells-lack world [] memory e is
called-cells-lack world (slot ∷ locals) (Some destination) memory e is = by_cause (cells-lack world locals memory e (before-not destination (cells_of world locals memory) e is)) where
  by_cause : AreNotPlaced world locals memory e → AreNotPlaced world (slot ∷ locals) memory e
  by_cause (inl lacks) = inl (later-lacks world slot locals e lacks)
  by_cause (inr passes) = let behind = rooms-behind world slot locals in let more = passes.1 in inr (passes.0, omega arith)
