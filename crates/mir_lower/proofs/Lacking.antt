-- Why a callee's cells aren't placed, by what its source counts.
use Rattle.std.proofs.Common.{◌≡◌, ℕ, ◌≤◌, ⊎_elim, Bool, true, false, cond, List, Option, Some, None, Err, refl, sym, ap, ◌∙◌, subst, arith}
use Rattle.std.specs.Prelude.{map, sum}
use Rattle.std.proofs.lemmas.List.Sums.{sum-map}
use Rattle.types.specs.declared.ty.Ty.{Ty}
use Rattle.world.specs.Checked.{IsCheckedBody}
use Rattle.world.specs.declared.layout.Layout.{Layout}
use Rattle.world.specs.Lookups.{layout_of}
use Rattle.mir.specs.declared.address.Interval.{Interval}
use Rattle.mir.specs.declared.body.Local.{Local}
use Rattle.mir.specs.declared.errors.MirEvalError.{MirEvalError}
use Rattle.mir.specs.Memory.{Memory}
use Rattle.mir.specs.Run.{Program, called_cells}
use Rattle.source_meaning.specs.Entering.{body_room, entering as entering_cost, is_cost_defined, room_of}
use Rattle.source_meaning.specs.Source.{Source, Cell, Result as Slot, Node, Binding, IndexOf, Never, cell_type, diverges, own_type}
use Rattle.source_meaning.specs.Valid.{itself, HasDefinedCost, HasSizedLayout, at_once}
use Rattle.source_meaning.proofs.Defined.{cost_is_defined}
use Rattle.mir_lower.specs.Callees.{AreCounted}
use Rattle.mir_lower.specs.Growth.{IsUsed}
use Rattle.mir_lower.specs.Stops.{IsCellType, LacksRoom}
use Rattle.mir_lower.proofs.Given.{index-cell}
use Rattle.mir_lower.proofs.Taking.{HasNoCell, called-cells-lack, rooms}

-- all cells of a body together take as many bytes as entering it costs
pub entering-room : (source : Source) → (entering_cost source).bytes ≡ body_room source
unfolding entering_cost
entering-room source = refl

-- entering a body takes a level of nesting
pub entering-nests : (source : Source) → (entering_cost source).nesting ≡ 1
unfolding entering_cost
entering-nests source = refl

-- the cost of entering a body is defined where its test says so
pub entering-defined : (source : Source) → (entering_cost source).defined ≡ is_cost_defined source
unfolding entering_cost
entering-defined source = refl

-- the locals of a body take no more than that
pub rooms-counted : (source : Source) (locals : List Local) → AreCounted source locals → rooms source.world locals ≤ body_room source
rooms-counted source locals counted =
    let room = counted.room in
    let same : sum (map (λ (l : Local). room_of (layout_of source.world l.ty)) locals) ≡ rooms source.world locals = sum-map (λ (l : Local). room_of (layout_of source.world l.ty)) locals in
    omega arith

never-typed : (test : Bool) (own : Option Ty) (ty : Ty) → cond test own None ≡ Some ty → own ≡ Some ty
never-typed true own ty is = is
never-typed false own ty is = absurd cc

-- the type of a cell has a size, where the cost of its body is defined
pub sized-cell : (source : Source) → HasDefinedCost source → (ty : Ty) (cell : Cell) → IsUsed source cell → cell_type source cell ≡ Some ty → HasSizedLayout source (Some ty)
sized-cell source cost ty Slot used is = subst (HasSizedLayout source) is (let sized = cost.nodes source.body.body_expr.0 itself in sized.of_value)
sized-cell source cost ty (Node e) used is = subst (HasSizedLayout source) is (let sized = cost.nodes e used in sized.of_value)
sized-cell source cost ty (Never e) used is = subst (HasSizedLayout source) (never-typed (diverges source e) (own_type source e) ty is) (let sized = cost.nodes e used in sized.of_itself)
sized-cell source cost ty (IndexOf e) used is = subst (HasSizedLayout source) (sym (index-cell source e used.0 used.1) ∙ is) (let sized = cost.nodes used.0 used.1.evaluated in sized.of_value)
sized-cell source cost ty (Binding b) used is = cost.bindings b ty is

-- so where one has none, the cost isn't
undefined-by : (source : Source) (test : Bool) → IsCheckedBody source.body source.infer → is_cost_defined source ≡ test → (HasDefinedCost source → ⊥) → is_cost_defined source ≡ false
undefined-by source true checked is none = absurd (none ((cost_is_defined source checked).0 is))
undefined-by source false checked is none = is

undefined-cost : (source : Source) → IsCheckedBody source.body source.infer → (HasDefinedCost source → ⊥) → (entering_cost source).defined ≡ false
undefined-cost source checked none = entering-defined source ∙ undefined-by source (is_cost_defined source) checked refl none

has-no-cell : (source : Source) (local : Local) (e : MirEvalError) → HasNoCell source.world local e → HasSizedLayout source (Some local.ty) → ⊥
has-no-cell source local e lacks sized =
    ⊎_elim (λ none. let found = sized.found in let is = none.1 in cc)
    (λ unsized.
    let found = sized.found in
    let there = unsized.2 in
    let same : sized.layout ≡ unsized.1 = cc in
    let has = ap (λ (layout : Layout). layout.sized) same in
    let is = sized.sized in
    let other = unsized.3 in
    cc) lacks

-- why the cells of a called body aren't placed
pub lacks-room : (called : Source) (program : Program) (levels : ℕ) (locals : List Local) (destination : Option Interval) (memory : Memory) (e : MirEvalError) → IsCheckedBody called.body called.infer → AreCounted called locals →
    called_cells called.world locals destination memory ≡ Err e → LacksRoom called program levels memory (entering_cost called) e
lacks-room called program levels locals destination memory e checked counted not_placed =
    ⊎_elim
    (λ lacks.
    let cell = counted.cells lacks.0 lacks.1 lacks.2 in
    let of : IsCellType called lacks.1.ty = (cell.0, cell.1, cell.2) in
    let undefined = undefined-cost called checked (λ cost. has-no-cell called lacks.1 e lacks.3 (sized-cell called cost lacks.1.ty cell.0 cell.1 cell.2)) in
    ⊎_elim
    (λ none. subst (LacksRoom called program levels memory (entering_cost called)) (sym none.0) (refl, (called, at_once, (of, none.1)), undefined))
    (λ unsized. subst (LacksRoom called program levels memory (entering_cost called)) (sym unsized.0) ((called, at_once, (of, unsized.1, unsized.2, unsized.3)), undefined)) lacks.3)
    (λ passes.
    let more = passes.1 in
    let takes = rooms-counted called locals counted in
    let room = entering-room called in
    subst (LacksRoom called program levels memory (entering_cost called)) (sym passes.0) (omega arith)) (called-cells-lack called.world locals destination memory e not_placed)
