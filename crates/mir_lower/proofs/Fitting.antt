-- Where a callee's cells are placed, its types have layouts, if those of its caller have: so it is fit where its caller is.
use Rattle.std.proofs.Common.{◌≡◌, ℕ, zero, suc, true, false, List, [], ◌∷◌, Option, Some, None, Ok, refl, sym, ap, ◌∙◌, subst}
use Rattle.std.specs.Prelude.{slice_get}
use Rattle.types.specs.declared.ty.Ty.{Ty}
use Rattle.world.specs.Checked.{IsCheckedBody}
use Rattle.world.specs.declared.database.HirDatabase.{HirDatabase}
use Rattle.world.specs.declared.layout.Layout.{Layout}
use Rattle.world.specs.Lookups.{layout_of}
use Rattle.mir.specs.Areas.{after_push}
use Rattle.mir.specs.declared.address.CellSize.{CellSize}
use Rattle.mir.specs.declared.address.Interval.{Interval}
use Rattle.mir.specs.declared.body.Local.{Local}
use Rattle.mir.specs.declared.body.MirBody.{MirBody}
use Rattle.mir.specs.Memory.{Memory, cell_size_of, cells_of, pushed, size_before, sizes_of}
use Rattle.mir.specs.Run.{called_cells}
use Rattle.source_meaning.specs.Aggregates.{HasAggregates}
use Rattle.source_meaning.specs.Laid.{is_laid_out}
use Rattle.source_meaning.specs.Source.{Source, node_type, root}
use Rattle.source_meaning.specs.Valid.{Calls, IsLaidOut, at_once, through}
use Rattle.source_meaning.proofs.Calls.{called_world}
use Rattle.source_meaning.proofs.Laid.{layouts_are_tested, result_has_layout}
use Rattle.mir_lower.specs.Callees.{LaidByLocals}
use Rattle.mir_lower.specs.Runs.{IsFit}
use Rattle.mir_lower.proofs.Placing.{first-ok}
use Rattle.mir_lower.proofs.Taking.{before-is, before-sizes}

-- a source isn't fit where a type that it needs has no layout
pub unfit : (source : Source) → IsCheckedBody source.body source.infer → is_laid_out source ≡ false → ¬ IsFit source
unfit source checked fails = λ fit. let passes = (layouts_are_tested source checked).1 fit.laid_out in let both : true ≡ false = sym passes ∙ fails in cc

-- a local that has a cell has a layout
size-found : (ty : Ty) (found : Option Layout) (size : CellSize) → cell_size_of ty found ≡ Ok size → (layout : Layout) × (found ≡ Some layout)
unfolding cell_size_of
size-found ty None size h = absurd cc
size-found ty (Some layout) size h = (layout, refl)

pub sizes-found : (world : HirDatabase) (locals : List Local) (sizes : List CellSize) → sizes_of world locals ≡ Ok sizes → (l : ℕ) (local : Local) → slice_get locals l ≡ Some local → (layout : Layout) × (layout_of world local.ty ≡ Some layout)
unfolding sizes_of
sizes-found world [] sizes h l local there = absurd cc
sizes-found world (first ∷ locals) sizes h zero local there =
    let one = first-ok (cell_size_of first.ty (layout_of world first.ty)) (λ size. size_before size (sizes_of world locals)) sizes h in
    let same : first ≡ local = cc in
    subst (λ (x : Local). (layout : Layout) × (layout_of world x.ty ≡ Some layout)) same (size-found first.ty (layout_of world first.ty) one.0 one.1)
sizes-found world (first ∷ locals) sizes h (suc l) local there =
    let one = first-ok (cell_size_of first.ty (layout_of world first.ty)) (λ size. size_before size (sizes_of world locals)) sizes h in
    let others = before-sizes one.0 (sizes_of world locals) sizes one.2 in
    sizes-found world locals others.0 others.1 l local there

pub cells-sizes : (world : HirDatabase) (locals : List Local) (memory : Memory) (all : List Interval × Memory) → cells_of world locals memory ≡ Ok all → (sizes : List CellSize) × (sizes_of world locals ≡ Ok sizes)
unfolding cells_of
cells-sizes world locals memory all h =
    let first = first-ok (sizes_of world locals) (λ sizes. pushed (after_push memory sizes)) all h in
    (first.0, first.1)

-- the types of locals that have cells have layouts
placed-laid : (source : Source) (locals : List Local) (memory : Memory) (all : List Interval × Memory) → cells_of source.world locals memory ≡ Ok all → (l : ℕ) (local : Local) → slice_get locals l ≡ Some local → IsLaidOut source (Some local.ty)
placed-laid source locals memory all placed l local there =
    let sizes = cells-sizes source.world locals memory all placed in
    let cell = sizes-found source.world locals sizes.0 sizes.1 l local there in
    record { layout = cell.0; found = cell.1 }

-- so have those of a called body whose cells are placed, where that of its return slot has, which may be there already
called-laid : (called : Source) (locals : List Local) (destination : Option Interval) (memory : Memory) (all : List Interval × Memory) → called_cells called.world locals destination memory ≡ Ok all → ((local : Local) → slice_get locals 0 ≡ Some local → IsLaidOut called (Some local.ty)) →
    (l : ℕ) (local : Local) → slice_get locals l ≡ Some local → IsLaidOut called (Some local.ty)
called-laid called [] None memory all placed first l local there = absurd cc
called-laid called (slot ∷ locals) None memory all placed first l local there = placed-laid called (slot ∷ locals) memory all placed l local there
called-laid called [] (Some destination) memory all placed first l local there = absurd cc
called-laid called (slot ∷ locals) (Some destination) memory all placed first zero local there = first local there
called-laid called (slot ∷ locals) (Some destination) memory all placed first (suc l) local there =
    let made = before-is destination (cells_of called.world locals memory) all placed in
    placed-laid called locals memory made.0 made.1 l local there

-- a callee whose cells are placed is fit, where its caller is
pub callee-fits : (source called : Source) → Calls source called → (body : MirBody) → LaidByLocals called body → (slot : Local) → slice_get body.locals 0 ≡ Some slot → node_type called (root called) ≡ Some slot.ty →
    (destination : Option Interval) (memory : Memory) (all : List Interval × Memory) → called_cells called.world body.locals destination memory ≡ Ok all → IsFit source → IsFit called
callee-fits source called way body laid slot at_first typed destination memory all placed fit =
    let parts : HasAggregates called.world = subst HasAggregates (sym (called_world source way.e way.callee called way.enters)) fit.parts in
    let result : IsLaidOut called (node_type called (root called)) = result_has_layout source called (fit.plain.each source at_once) fit.laid_out way in
    record {
      plain = record { each = λ reached on. fit.plain.each reached (through way on) };
      laid_out = laid parts (fit.plain.each called (through way at_once))
          (called-laid called body.locals destination memory all placed (λ local there.
          let both : Some slot ≡ Some local = sym at_first ∙ there in
          let same : slot ≡ local = cc in
          subst (IsLaidOut called) (typed ∙ ap (λ (l : Local). Some l.ty) same) result));
      parts = parts;
    }
