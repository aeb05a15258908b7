-- When a run of a lowered body can begin.
use Rattle.std.proofs.Common.{◌≡◌, ℕ, suc, ◌-◌, ◌<◌, ◌≤◌, ◌⊎◌, ⊎_elim, inl, inr, Bool, true, false, cond, List, [], ◌∷◌, Option, Some, None, Result, Ok, Err, refl, sym, ap, ◌∙◌, subst, arith}
use Rattle.std.specs.Prelude.{slice_get, codes, nat_le}
use borrow.Author.Tests.{le-leb, leb-false}
use Rattle.world.specs.declared.database.HirDatabase.{HirDatabase}
use Rattle.world.specs.declared.layout.Layout.{Layout}
use Rattle.world.specs.declared.limits.Limits.{Limits}
use Rattle.types.specs.declared.ty.Ty.{Ty}
use Rattle.world.specs.Lookups.{layout_of}
use Rattle.mir.specs.Areas.{after_push, cells_behind, first_areas, grown_to, length_behind}
use Rattle.mir.specs.declared.address.CellSize.{CellSize}
use Rattle.mir.specs.declared.address.Interval.{Interval}
use Rattle.mir.specs.declared.body.Local.{Local}
use Rattle.mir.specs.declared.body.MirBody.{MirBody}
use Rattle.mir.specs.declared.errors.MirEvalError.{MirEvalError}
use Rattle.mir.specs.declared.errors.MirEvalError as error
use Rattle.mir.specs.declared.mem_fault.MemFault.TheVariants as fault
use Rattle.mir.specs.Errors.{layout_error_of}
use Rattle.mir.specs.Memory.{Memory, cell_size_of, cells_of, pushed, size_before, sizes_of}
use Rattle.mir.specs.Run.{Program, Frame, begun}
use Rattle.mir_lower.specs.Simulates.{Simulates}
use Rattle.mir_lower.specs.Stops.{IsCellType, LacksLayout, LacksSize}
use Rattle.mir_lower.proofs.Fitting.{cells-sizes, sizes-found}
use Rattle.mir_lower.proofs.Lacking.{sized-cell}
use Rattle.mir_lower.proofs.Whole.{begun-cells}
use Rattle.source_meaning.specs.Aggregates.{HasAggregates}
use Rattle.source_meaning.specs.Entering.{entering}
use Rattle.source_meaning.specs.Source.{Source}
use Rattle.consteval.specs.Answers.{EndsEvaluation, PassesBytesAtOnce}
use Rattle.consteval.proofs.Bytes.{taken-within}
use Rattle.consteval.proofs.Faults.{NeverRunsFor, never-without-layout, never-without-room, never-without-size, overfull, without-layout, without-size}
use Rattle.source_meaning.specs.Valid.{IsPlain, AreLaidOut, HasDefinedCost}

-- the types of a plain body that began have layouts
pub has-layouts : (source : Source) (program : Program) (body : MirBody) (start : Frame × Memory) → program.world ≡ source.world → Simulates source body → begun program body ≡ Ok start → HasAggregates source.world → IsPlain source → AreLaidOut source
has-layouts source program body start same simulates began parts plain =
    let cells = begun-cells program body start began in
    let sizes = cells-sizes program.world body.locals (first_areas program.bytes) cells.0 cells.1 in
    let in_world : sizes_of source.world body.locals ≡ Ok sizes.0 = ap (λ w. sizes_of w body.locals) (sym same) ∙ sizes.1 in
    simulates.laid_out parts plain (λ l local there. let cell = sizes-found source.world body.locals sizes.0 in_world l local there in record { layout = cell.0; found = cell.1 })

-- the size of a cell of a type
abbrev size-of : Layout → CellSize
size-of layout = record { size = layout.size; align = layout.align }

-- a local whose type has a size can have a cell
size-there : (ty : Ty) (layout : Layout) (found : Option Layout) → found ≡ Some layout → layout.sized ≡ true → cell_size_of ty found ≡ Ok (size-of layout)
unfolding cell_size_of
size-there ty layout found is sized =
    ap (cell_size_of ty) is
    ∙ ap (λ b. cond b (Ok (size-of layout)) (Err (error.TypeIsUnsized ty (codes "no unsized local in extending stack")))) sized

-- a local's type has a layout, and a size
abbrev HasLayout : HirDatabase → Local → Type 0
HasLayout world local = (layout : Layout) × (layout_of world local.ty ≡ Some layout) × (layout.sized ≡ true)

sizes-there : (world : HirDatabase) (locals : List Local) → ((l : ℕ) (local : Local) → slice_get locals l ≡ Some local → HasLayout world local) → (sizes : List CellSize) × (sizes_of world locals ≡ Ok sizes)
unfolding sizes_of
sizes-there world [] sized = ([], refl)
sizes-there world (local ∷ locals) sized =
    let first = sized 0 local refl in
    let rest = sizes-there world locals (λ l other there. sized (suc l) other there) in (
      size-of first.0 ∷ rest.0,
      ap (λ (r : Result CellSize MirEvalError). elim r [ Ok size ↦ size_before size (sizes_of world locals) | Err e ↦ Err e ]) (size-there local.ty first.0 (layout_of world local.ty) first.1 first.2)
          ∙ ap (size_before (size-of first.0)) rest.1,
    )

-- the cells of a body that none called, and the memory with them
abbrev first-cells : ℕ → List CellSize → List Interval × Memory
first-cells limit sizes = (cells_behind 1 sizes, record { stack = grown_to (length_behind 1 sizes) (0 ∷ []); heap = 0 ∷ []; limit = limit })

-- what pushing these cells comes to, where it is known whether they keep to the limit
abbrev PushedBy : Bool → ℕ → List CellSize → Result (List Interval × Memory) MirEvalError
PushedBy kept limit sizes = pushed (cond kept (Ok (first-cells limit sizes)) (Err fault.MemoryLimitExceeded))

first-pushed : (limit : ℕ) (sizes : List CellSize) → pushed (after_push (first_areas limit) sizes) ≡ PushedBy (nat_le (length_behind 1 sizes - 1) limit) limit sizes
unfolding after_push
first-pushed limit sizes = refl

-- where the sizes are there and keep to the limit, so are the cells
cells-there : (world : HirDatabase) (locals : List Local) (limit : ℕ) (sizes : List CellSize) → sizes_of world locals ≡ Ok sizes → length_behind 1 sizes - 1 ≤ limit → cells_of world locals (first_areas limit) ≡ Ok (first-cells limit sizes)
unfolding cells_of
cells-there world locals limit sizes there within =
    ap (λ (r : Result (List CellSize) MirEvalError). elim r [ Ok s ↦ pushed (after_push (first_areas limit) s) | Err e ↦ Err e ]) there
    ∙ first-pushed limit sizes
    ∙ ap (λ kept. PushedBy kept limit sizes) (le-leb (length_behind 1 sizes - 1) limit within)

pub begun-from : (program : Program) (body : MirBody) (all : List Interval × Memory) → cells_of program.world body.locals (first_areas program.bytes) ≡ Ok all → begun program body ≡ Ok (record { program = program; body = body; cells = all.0; below = [] }, all.1)
unfolding begun
begun-from program body all is = ap (λ (r : Result (List Interval × Memory) MirEvalError). elim r [ Ok a ↦ Ok (record { program = program; body = body; cells = a.0; below = [] }, a.1) | Err e ↦ Err e ]) is

-- a body with a defined cost can begin where the bytes that are counted on entering it are within the limit
pub begins : (source : Source) (program : Program) (body : MirBody) → program.world ≡ source.world → Simulates source body → HasDefinedCost source → (entering source).bytes ≤ program.bytes → (start : Frame × Memory) × (begun program body ≡ Ok start)
begins source program body same simulates cost within =
    let sizes = sizes-there source.world body.locals sized in
    let taken = taken-within source body sizes.0 simulates sizes.1 in
    let all = first-cells program.bytes sizes.0 in
    let there = cells-there program.world body.locals program.bytes sizes.0 (ap (λ w. sizes_of w body.locals) same ∙ sizes.1) (omega arith) in
    ((record { program = program; body = body; cells = all.0; below = [] }, all.1), begun-from program body all there) where
      sized : (l : ℕ) (local : Local) → slice_get body.locals l ≡ Some local → HasLayout source.world local
      sized l local there =
          let cell = simulates.cells l local there in
          let layout = sized-cell source cost local.ty cell.0 cell.1 cell.2 in (layout.layout, layout.found, layout.sized)

first-err : {A B E : Type 0} (r : Result A E) (next : A → Result B E) (e : E) → ◌≡◌ {A = Result B E} (elim r [ Ok a ↦ next a | Err e ↦ Err e ]) (Err e) → (r ≡ Err e) ⊎ ((a : A) × (r ≡ Ok a) × (next a ≡ Err e))
first-err (Ok a) next e h = inr (a, refl, h)
first-err (Err other) next e h = inl (let same : other ≡ e = cc in ap Err same)

push-err : (kept : Bool) (limit : ℕ) (sizes : List CellSize) (e : MirEvalError) → nat_le (length_behind 1 sizes - 1) limit ≡ kept → PushedBy kept limit sizes ≡ Err e → (e ≡ error.MemoryLimitExceeded) × (limit < length_behind 1 sizes - 1)
push-err true limit sizes e is h = absurd cc
push-err false limit sizes e is h = ((let same : error.MemoryLimitExceeded ≡ e = cc in sym same), leb-false (length_behind 1 sizes - 1) limit is)

-- the cells of locals pass a limit
record CellsPass (world : HirDatabase) (locals : List Local) (limit : ℕ) : Type 0 where
  pub sizes : List CellSize
  pub there : sizes_of world locals ≡ Ok sizes
  pub passes : limit < length_behind 1 sizes - 1

cells-err : (world : HirDatabase) (locals : List Local) (limit : ℕ) (e : MirEvalError) → cells_of world locals (first_areas limit) ≡ Err e → (sizes_of world locals ≡ Err e) ⊎ ((e ≡ error.MemoryLimitExceeded) × CellsPass world locals limit)
unfolding cells_of
cells-err world locals limit e h =
    ⊎_elim inl (λ full.
    let push = push-err (nat_le (length_behind 1 full.0 - 1) limit) limit full.0 e refl (sym (first-pushed limit full.0) ∙ full.2) in
    inr (push.0, record { sizes = full.0; there = full.1; passes = push.1 })) (first-err (sizes_of world locals) (λ sizes. pushed (after_push (first_areas limit) sizes)) e h)

-- a body can't begin for a local that can have no cell, or for cells that pass the limit on bytes
begun-err : (program : Program) (body : MirBody) (e : MirEvalError) → begun program body ≡ Err e → (sizes_of program.world body.locals ≡ Err e) ⊎ ((e ≡ error.MemoryLimitExceeded) × CellsPass program.world body.locals program.bytes)
unfolding begun
begun-err program body e h =
    ⊎_elim (cells-err program.world body.locals program.bytes e) (λ placed. absurd (let is = placed.2 in cc))
    (first-err (cells_of program.world body.locals (first_areas program.bytes)) (λ all. Ok (record { program = program; body = body; cells = all.0; below = [] }, all.1)) e h)

-- what holds of the refusals for a local's type without a layout or without a size, and for the limit on bytes
module _ (source : Source) (limits : Limits) (body : MirBody) (Fails : MirEvalError → Type 0) (lacks-layout : (ty : Ty) → LacksLayout source ty → Fails (error.LayoutError (layout_error_of ty) ty)) (lacks-size : (ty : Ty) (text : List ℕ) → LacksSize source ty → Fails (error.TypeIsUnsized ty text)) (lacks-room : PassesBytesAtOnce source limits.bytes → Fails error.MemoryLimitExceeded) where
  -- a refusal is one of these
  abbrev FailsSo : {A : Type 0} → Result A MirEvalError → Type 0
  FailsSo (Ok a) = Unit {0}
  FailsSo (Err e) = Fails e

  size-fails : (ty : Ty) (found : Option Layout) → IsCellType source ty → layout_of source.world ty ≡ found → FailsSo (cell_size_of ty found)
  unfolding cell_size_of
  size-fails ty None of-cell is = lacks-layout ty (of-cell, is)
  size-fails ty (Some layout) of-cell is = by-size layout.sized refl where
    by-size : (b : Bool) → layout.sized ≡ b → FailsSo (cond b (Ok (size-of layout)) (Err (error.TypeIsUnsized ty (codes "no unsized local in extending stack"))))
    by-size true sized = tt
    by-size false sized = lacks-size ty (codes "no unsized local in extending stack") (of-cell, layout, is, sized)

  before-fails : (size : CellSize) (rest : Result (List CellSize) MirEvalError) → FailsSo rest → FailsSo (size_before size rest)
  before-fails size (Ok sizes) h = tt
  before-fails size (Err e) h = h

  then-fails : {A B : Type 0} (first : Result A MirEvalError) (next : A → Result B MirEvalError) → FailsSo first → ((a : A) → FailsSo (next a)) → FailsSo (elim first [ Ok a ↦ next a | Err e ↦ Err e ])
  then-fails (Ok a) next h rest = rest a
  then-fails (Err e) next h rest = h

  sizes-fail : (locals : List Local) → ((l : ℕ) (local : Local) → slice_get locals l ≡ Some local → IsCellType source local.ty) → FailsSo (sizes_of source.world locals)
  unfolding sizes_of
  sizes-fail [] of-cells = tt
  sizes-fail (local ∷ locals) of-cells =
      then-fails (cell_size_of local.ty (layout_of source.world local.ty)) (λ size. size_before size (sizes_of source.world locals))
      (size-fails local.ty (layout_of source.world local.ty) (of-cells 0 local refl) refl)
      (λ size. before-fails size (sizes_of source.world locals) (sizes-fail locals (λ l other there. of-cells (suc l) other there)))

  -- a body that can't begin fails so
  begun-fails : (program : Program) (e : MirEvalError) → program.world ≡ source.world → program.bytes ≡ limits.bytes → Simulates source body → begun program body ≡ Err e → Fails e
  begun-fails program e same within simulates is = ⊎_elim for-type for-room (begun-err program body e is) where
    for-type : sizes_of program.world body.locals ≡ Err e → Fails e
    for-type none =
        let of-cells : (l : ℕ) (local : Local) → slice_get body.locals l ≡ Some local → IsCellType source local.ty = λ l local there. (let cell = simulates.cells l local there in (cell.0, cell.1, cell.2)) in
        let in_world : sizes_of source.world body.locals ≡ Err e = ap (λ w. sizes_of w body.locals) (sym same) ∙ none in
        subst (λ (r : Result (List CellSize) MirEvalError). FailsSo r) in_world (sizes-fail body.locals of-cells)

    for-room : (e ≡ error.MemoryLimitExceeded) × CellsPass program.world body.locals program.bytes → Fails e
    for-room full =
        let cells = full.1 in
        let taken = taken-within source body cells.sizes simulates (ap (λ w. sizes_of w body.locals) (sym same) ∙ cells.there) in
        let passes = cells.passes in
        subst Fails (sym full.0) (lacks-room (omega arith))

-- why a body can't begin: for a local's type without a layout or without a size, or for the limit on bytes
pub begun-refusal : (source : Source) (program : Program) (limits : Limits) (body : MirBody) (e : MirEvalError) → program.world ≡ source.world → program.bytes ≡ limits.bytes → Simulates source body → begun program body ≡ Err e → EndsEvaluation source limits e
begun-refusal source program limits body e =
    begun-fails source limits body (EndsEvaluation source limits) (without-layout source limits) (without-size source limits) (overfull source limits) program e

pub begun-never : (source : Source) (program : Program) (limits : Limits) (body : MirBody) (e : MirEvalError) → program.world ≡ source.world → program.bytes ≡ limits.bytes → Simulates source body → begun program body ≡ Err e → NeverRunsFor source limits e
begun-never source program limits body e =
    begun-fails source limits body (NeverRunsFor source limits) (never-without-layout source limits) (never-without-size source limits) (never-without-room source limits) program e
