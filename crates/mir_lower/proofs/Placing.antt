-- Where the cells of a frame lie: apart, zeroed, and as large as their types.
use Rattle.std.proofs.Common.{◌≡◌, ℕ, zero, suc, ◌<◌, ◌≤◌, ◌⊎◌, inl, inr, Bool, true, false, cond, List, [], ◌∷◌, Option, Some, None, Result, Ok, Err, IsOk, All, get_or, refl, sym, ap, ◌∙◌, subst, arith}
use Rattle.std.specs.Prelude.{slice_get, replicate, codes}
use Rattle.std.specs.List.{AllPairs, AllZip}
use Rattle.std.proofs.lemmas.Bool.{cases_lt}
use Rattle.std.proofs.lemmas.List.Elements.{All-nil, All-cons, All-get_or}
use Rattle.std.proofs.lemmas.Option.{slice_get_within, get_or_from_slice_get}
use Rattle.world.specs.declared.database.HirDatabase.{HirDatabase}
use Rattle.world.specs.declared.layout.Layout.{Layout}
use Rattle.types.specs.declared.ty.Ty.{Ty}
use Rattle.world.specs.Checked.{IsAlignment}
use Rattle.world.specs.Lookups.{layout_of}
use Rattle.mir.specs.declared.address.Address.{Address}
use Rattle.mir.specs.declared.address.Address.TheVariants.{Stack, Heap, Invalid}
use Rattle.mir.specs.declared.address.CellSize.{CellSize}
use Rattle.mir.specs.declared.address.Interval.{Interval}
use Rattle.mir.specs.declared.body.Local.{Local}
use Rattle.mir.specs.declared.errors.MirEvalError.{MirEvalError}
use Rattle.mir.specs.declared.errors.MirEvalError as error
use Rattle.mir.specs.declared.mem_fault.MemFault.{MemFault}
use Rattle.mir.specs.Areas.{AreApart, AreRangesApart, after_push, reading}
use Rattle.mir.specs.Memory.{Memory, cell_bytes, cell_size_of, size_before, sizes_of, pushed, cells_of}
use Rattle.mir_mem.specs.MemoryLaws.{IsNewCell}
use Rattle.mir_mem.proofs.Growing.{cells_keep, cells_new, cells_apart, cells_apart_from_old}
use Rattle.mir_mem.proofs.Parts.{reading-some}
use Rattle.mir_mem.proofs.Writing.{reading-is}
use Rattle.mir_lower.specs.Runs.{AreCellsApart}

-- a local's cell, in the memory of all
pub record HasCell (world : HirDatabase) (local : Local) (cells : List Interval) (i : ℕ) (memory : Memory) : Type 0 where
  pub cell : Interval
  pub layout : Layout
  pub there : slice_get cells i ≡ Some cell
  pub found : layout_of world local.ty ≡ Some layout
  pub sized : layout.sized ≡ true
  pub zeroed : cell_bytes memory cell ≡ Some (replicate layout.size 0)

-- The cells that were placed in a memory: one for each local, no two of them with a byte in common. What could be read before is the same
-- later, and shares no byte with them.
pub record Placing (world : HirDatabase) (locals : List Local) (memory : Memory) (cells : List Interval) (later : Memory) : Type 0 where
  pub each : (i : ℕ) (local : Local) → slice_get locals i ≡ Some local → HasCell world local cells i later
  pub apart : AreCellsApart cells
  pub kept : (old : Interval) (bytes : List ℕ) → cell_bytes memory old ≡ Some bytes → cell_bytes later old ≡ Some bytes
  pub others : (old : Interval) (bytes : List ℕ) → cell_bytes memory old ≡ Some bytes → (i : ℕ) (cell : Interval) → slice_get cells i ≡ Some cell → AreApart cell old

-- layouts have alignments
abbrev pub AreAligned : HirDatabase → Type 0
AreAligned world = (ty : Ty) (layout : Layout) → layout_of world ty ≡ Some layout → IsAlignment layout.align

-- what is apart is so in either order
apart-by : (one other : Interval) (first second : Address) → one.addr ≡ first → other.addr ≡ second → AreApart one other → AreApart other one
unfolding AreApart
apart-by one other (Stack first) (Stack second) e f apart =
    let ranges : AreRangesApart first one.size second other.size = rw (e, f) at apart in
    let back : AreRangesApart second other.size first one.size = λ k from below from' below'. ranges k from' below' from below in
    rw (e, f) back
apart-by one other (Heap first) (Heap second) e f apart =
    let ranges : AreRangesApart first one.size second other.size = rw (e, f) at apart in
    let back : AreRangesApart second other.size first one.size = λ k from below from' below'. ranges k from' below' from below in
    rw (e, f) back
apart-by one other (Stack first) (Heap second) e f apart = rw (e, f) tt
apart-by one other (Stack first) (Invalid n) e f apart = rw (e, f) tt
apart-by one other (Heap first) (Stack second) e f apart = rw (e, f) tt
apart-by one other (Heap first) (Invalid n) e f apart = rw (e, f) tt
apart-by one other (Invalid m) (Stack second) e f apart = rw (e, f) tt
apart-by one other (Invalid m) (Heap second) e f apart = rw (e, f) tt
apart-by one other (Invalid m) (Invalid n) e f apart = rw (e, f) tt

pub apart-sym : (one other : Interval) → AreApart one other → AreApart other one
apart-sym one other apart = apart-by one other one.addr other.addr refl refl apart

-- two cells of a list by their indices
apart-before : (cells : List Interval) → AllPairs AreApart cells → (i j : ℕ) (a b : Interval) → i < j → slice_get cells i ≡ Some a → slice_get cells j ≡ Some b → AreApart a b
apart-before cells pairs i j a b before first second =
    let apart : AreApart (get_or cells i a) (get_or cells j a) = pairs i j a before (slice_get_within cells j b second) in
    subst (λ (x : Interval). AreApart x b) (get_or_from_slice_get cells i a a first)
    (subst (λ (y : Interval). AreApart (get_or cells i a) y) (get_or_from_slice_get cells j b a second) apart)

all-apart : (cells : List Interval) → AllPairs AreApart cells → AreCellsApart cells
all-apart cells pairs i j a b differ first second = by_order (cases_lt i j) (cases_lt j i)
  where
    by_order : (i < j) ⊎ (j ≤ i) → (j < i) ⊎ (i ≤ j) → AreApart a b
    by_order (inl before) other = apart-before cells pairs i j a b before first second
    by_order (inr from) (inl before) = apart-sym b a (apart-before cells pairs j i b a before second first)
    by_order (inr from) (inr from') = absurd (differ (omega arith))

old-apart : (cells : List Interval) (old : Interval) → All (AreApart old) cells → (i : ℕ) (cell : Interval) → slice_get cells i ≡ Some cell → AreApart cell old
old-apart cells old all i cell found =
    apart-sym old cell (subst (AreApart old) (get_or_from_slice_get cells i cell cell found) (All-get_or (AreApart old) cells i cell (slice_get_within cells i cell found) all))

-- what gives a result before another, where both do
pub first-ok : {A B E : Type 0} (r : Result A E) (next : A → Result B E) (all : B) → ◌≡◌ {A = Result B E} (elim r [ Ok a ↦ next a | Err e ↦ Err e ]) (Ok all) → (a : A) × (r ≡ Ok a) × (next a ≡ Ok all)
first-ok (Ok a) next all h = (a, refl, h)
first-ok (Err e) next all h = cc

cond-ok : {A E : Type 0} (b : Bool) (x y : A) (e : E) → cond b (Ok x) (Err e) ≡ Ok y → (b ≡ true) × (y ≡ x)
cond-ok true x y e h = (refl, cc)
cond-ok false x y e h = cc

before-ok : (size : CellSize) (rest : Result (List CellSize) MirEvalError) (all : List CellSize) → size_before size rest ≡ Ok all → (sizes : List CellSize) × (rest ≡ Ok sizes) × (all ≡ size ∷ sizes)
before-ok size (Ok sizes) all h = (sizes, refl, cc)
before-ok size (Err e) all h = cc

pushed-ok : (r : Result (List Interval × Memory) MemFault) (all : List Interval × Memory) → pushed r ≡ Ok all → r ≡ Ok all
pushed-ok (Ok placed) all h = let same : placed ≡ all = cc in ap Ok same
pushed-ok (Err fault) all h = cc

-- the size of a cell for values of a layout
abbrev size_for : Layout → CellSize
size_for layout = record { size = layout.size; align = layout.align }

-- the size of a local's cell is that of its type's layout
record IsSizeOf (world : HirDatabase) (local : Local) (size : CellSize) : Type 0 where
  layout : Layout
  found : layout_of world local.ty ≡ Some layout
  sized : layout.sized ≡ true
  is : size ≡ size_for layout

size-ok : (world : HirDatabase) (local : Local) (size : CellSize) (layout : Option Layout) → layout_of world local.ty ≡ layout → cell_size_of local.ty layout ≡ Ok size → IsSizeOf world local size
unfolding cell_size_of
size-ok world local size None found h = cc
size-ok world local size (Some layout) found h =
    let made = cond-ok layout.sized (size_for layout) size (error.TypeIsUnsized local.ty (codes "no unsized local in extending stack")) h in
    record { layout = layout; found = found; sized = made.0; is = made.1 }

sizes-ok : (world : HirDatabase) (locals : List Local) (sizes : List CellSize) → sizes_of world locals ≡ Ok sizes → AllZip (IsSizeOf world) locals sizes
unfolding sizes_of
sizes-ok world [] sizes h = let none : [] ≡ sizes = cc in subst (AllZip (IsSizeOf world) []) none tt
sizes-ok world (local ∷ locals) sizes h =
    let first = first-ok (cell_size_of local.ty (layout_of world local.ty)) (λ size. size_before size (sizes_of world locals)) sizes h in
    let rest = before-ok first.0 (sizes_of world locals) sizes first.2 in
    subst (AllZip (IsSizeOf world) (local ∷ locals)) (sym rest.2) (size-ok world local first.0 (layout_of world local.ty) refl first.1, sizes-ok world locals rest.0 rest.1)

module _ (world : HirDatabase) (are : AreAligned world) where
  sizes-aligned : (locals : List Local) (sizes : List CellSize) → AllZip (IsSizeOf world) locals sizes → All (λ size. IsAlignment size.align) sizes
  sizes-aligned [] [] of-locals = All-nil (λ size. IsAlignment size.align)
  sizes-aligned [] (size ∷ sizes) of-locals = absurd of-locals
  sizes-aligned (local ∷ locals) [] of-locals = absurd of-locals
  sizes-aligned (local ∷ locals) (size ∷ sizes) of-locals =
      All-cons (λ size. IsAlignment size.align) size sizes
      (subst (λ (s : CellSize). IsAlignment s.align) (sym of-locals.0.is) (are local.ty of-locals.0.layout of-locals.0.found))
      (sizes-aligned locals sizes of-locals.1)

  -- each local has a cell where each has a size, and each size a new cell
  each-cell : (memory later : Memory) (locals : List Local) (sizes : List CellSize) (cells : List Interval) → AllZip (IsSizeOf world) locals sizes → AllZip (IsNewCell memory later) sizes cells → (i : ℕ) (local : Local) → slice_get locals i ≡ Some local → HasCell world local cells i later
  each-cell memory later [] sizes cells of-locals new i local there = cc
  each-cell memory later (first ∷ locals) [] cells of-locals new i local there = absurd of-locals
  each-cell memory later (first ∷ locals) (size ∷ sizes) [] of-locals new i local there = absurd new
  each-cell memory later (first ∷ locals) (size ∷ sizes) (cell ∷ cells) of-locals new zero local there =
      let same : first ≡ local = cc in
      let is = of-locals.0 in
      subst (λ (l : Local). HasCell world l (cell ∷ cells) 0 later) same
      (record {
        cell = cell;
        layout = is.layout;
        there = refl;
        found = is.found;
        sized = is.sized;
        zeroed = reading-is later cell.addr cell.size (replicate size.size 0) new.0.zero ∙ ap (λ (s : CellSize). Some (replicate s.size 0)) is.is;
      })
  each-cell memory later (first ∷ locals) (size ∷ sizes) (cell ∷ cells) of-locals new (suc i) local there =
      let other = each-cell memory later locals sizes cells of-locals.1 new.1 i local there in
      record { cell = other.cell; layout = other.layout; there = other.there; found = other.found; sized = other.sized; zeroed = other.zeroed }

  pub places-all : (locals : List Local) (memory : Memory) (all : List Interval × Memory) → cells_of world locals memory ≡ Ok all → Placing world locals memory all.0 all.1
  unfolding cells_of
  places-all locals memory (cells, later) h =
      let first = first-ok (sizes_of world locals) (λ sizes. pushed (after_push memory sizes)) (cells, later) h in
      let sizes = first.0 in
      let push : after_push memory sizes ≡ Ok (cells, later) = pushed-ok (after_push memory sizes) (cells, later) first.2 in
      let of-locals = sizes-ok world locals sizes first.1 in
      record {
        each = each-cell memory later locals sizes cells of-locals (cells_new memory later sizes cells (sizes-aligned locals sizes of-locals) push);
        apart = all-apart cells (cells_apart memory later sizes cells push);
        kept = λ old bytes found. reading-is later old.addr old.size bytes (cells_keep memory later sizes cells old bytes push (reading-some memory old.addr old.size bytes found));
        others = λ old bytes found. old-apart cells old (cells_apart_from_old memory later sizes cells old push (there old bytes found));
      } where
        there : (old : Interval) (bytes : List ℕ) → cell_bytes memory old ≡ Some bytes → IsOk (reading memory old.addr old.size)
        there old bytes found = rw (reading-some memory old.addr old.size bytes found) refl
