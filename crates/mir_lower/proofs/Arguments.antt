-- The cells of a called body, and its arguments in them.
use Rattle.std.proofs.Common.{◌≡◌, ◌≢◌, ℕ, zero, suc, ⊎_elim, Bool, true, false, cond, List, [], ◌∷◌, length, Option, Some, None, Result, Ok, Err, refl, sym, ap, ◌∙◌, subst, eqb}
use Rattle.std.specs.Prelude.{slice_get, map, replicate, unwrap_or, option_map, option_and_then}
use borrow.Author.Tests.{eqb-true}
use Rattle.types.specs.declared.ids.CallableDefId.TheVariants.{FunctionId as CalledFunction, StructId, EnumVariantId}
use Rattle.types.specs.declared.ids.FunctionId.{FunctionId}
use Rattle.types.specs.declared.ty.ComplexMemoryMap.{ComplexMemoryMap}
use Rattle.types.specs.declared.ty.Const.{Const}
use Rattle.types.specs.declared.ty.Const.TheOpen as layer
use Rattle.types.specs.declared.ty.GenericArg.{GenericArg}
use Rattle.types.specs.declared.ty.GenericArgs.{GenericArgs}
use Rattle.types.specs.declared.ty.MemoryMap.{MemoryMap}
use Rattle.types.specs.declared.ty.TraitRef.{TraitRef}
use Rattle.types.specs.declared.ty.Ty.{Ty, Ty-F, out-Ty}
use Rattle.types.specs.declared.ty.UnevaluatedConst.{UnevaluatedConst}
use Rattle.types.specs.declared.ty.ValueConst.{ValueConst}
use Rattle.world.specs.declared.layout.Layout.{Layout}
use Rattle.world.specs.Lookups.{layout_of}
use Rattle.mir.specs.declared.address.Interval.{Interval}
use Rattle.mir.specs.declared.body.Local.{Local}
use Rattle.mir.specs.declared.errors.MirEvalError.{MirEvalError}
use Rattle.mir.specs.declared.ids.LocalId.{LocalId}
use Rattle.mir.specs.declared.operand.Operand.{Operand as MirOperand}
use Rattle.mir.specs.Areas.{AreApart}
use Rattle.mir.specs.Memory.{Memory, cell_bytes, cell_before, cells_of}
use Rattle.mir.specs.Run.{Frame, operand_bytes as mir_bytes, bad_write, read, copied, filled as mir_filled, called_cells, function_of as mir_function_of, function_in as mir_function_in}
use Rattle.source_meaning.specs.Calls.{without_generics, function_of, function_in, filled}
use Rattle.source_meaning.specs.Places.{operand_bytes, operands_bytes}
use Rattle.source_meaning.specs.Source.{Source, Cell, Result as Slot, Binding, Store, Operand, cell_type, cell_layout, cell_size, zeroed, with_cell_bytes}
use Rattle.mir_lower.specs.Callees.{AreLocalsOf}
use Rattle.mir_lower.specs.Does.{Holds, FitAll}
use Rattle.mir_graph.specs.Graph.{Shape, local_of}
use Rattle.mir_lower.specs.Runs.{local_bytes, AreCellsApart, LiesApart, Represents}
use Rattle.mir_lower.specs.Stops.{without_arguments}
use Rattle.mir_lower.proofs.Holding.{cells, interval-of}
use Rattle.mir_lower.proofs.Placing.{HasCell, Placing, AreAligned, places-all, apart-sym}
use Rattle.mir_lower.proofs.Stack.{length-cell_bytes, can_write, read-written, read-apart}

-- a type's variant
abbrev TyLayer : Type 0
TyLayer = Ty-F Const GenericArg MemoryMap Ty ComplexMemoryMap GenericArgs TraitRef UnevaluatedConst ValueConst

-- A function that a type names without generic arguments: MIR's reading of the type names it with none.
without-any : (id named : FunctionId) (args : GenericArgs) (given : List GenericArg) → args ≡ record { 0 = given } → without_generics named given ≡ Some id → ◌≡◌ {A = Option (FunctionId × GenericArgs)} (Some (named, args)) (Some (without_arguments id))
without-any id named args [] none is =
    let same : named ≡ id = cc in
    let pair : FunctionId → GenericArgs → Option (FunctionId × GenericArgs) = λ n a. Some (n, a) in
    ap (λ (n : FunctionId). pair n args) same ∙ ap (pair id) none
without-any id named args (first ∷ rest) none is = absurd cc

layer-names : (of : TyLayer) (id : FunctionId) → function_of of ≡ Some id → mir_function_of of ≡ Some (without_arguments id)
layer-names (layer.FnDef (CalledFunction named) args) id is = without-any id named args args.0 refl is
layer-names (layer.FnDef (StructId named) args) id is = absurd cc
layer-names (layer.FnDef (EnumVariantId named) args) id is = absurd cc
layer-names of id is = absurd cc

pub names-callee : (ty : Ty) (id : FunctionId) → function_in ty ≡ Some id → mir_function_in ty ≡ Some (without_arguments id)
names-callee ty id named = layer-names (out-Ty ty) id named

-- the bytes of a local whose cell is known
pub bytes-at : (frame : Frame) (memory : Memory) (l : ℕ) (cell : Interval) → slice_get frame.cells l ≡ Some cell → local_bytes frame memory l ≡ cell_bytes memory cell
unfolding local_bytes
bytes-at frame memory l cell found = ap (option_and_then (cell_bytes memory)) found

-- what keeps all that could be read keeps a frame's store
pub represents-later : (allotted : Cell → Option ℕ) (frame : Frame) (store : Store) (before memory : Memory) → Represents allotted frame store before →
    ((old : Interval) (bytes : List ℕ) → cell_bytes before old ≡ Some bytes → cell_bytes memory old ≡ Some bytes) → Represents allotted frame store memory
represents-later allotted frame store before memory holds kept =
    record {
      shows = λ c l local.
          let at = interval-of frame before l (store c) (holds.shows c l local) in
          bytes-at frame memory l at.0 at.1 ∙ kept at.0 (store c) at.2;
    }

-- bytes that are written to the local of a cell, in a frame whose cells lie apart
module _ (allotted : Cell → Option ℕ) (own : (c d : Cell) (l : ℕ) → allotted c ≡ Some l → allotted d ≡ Some l → c ≡ d) (frame : Frame) (apart : AreCellsApart frame.cells) (store : Store) (memory : Memory) (holds : Represents allotted frame store memory) (c : Cell) (l : ℕ) (local : allotted c ≡ Some l) (bytes : List ℕ) (long : length bytes ≡ length (store c)) where
  writes : (later : Memory) × (copied memory (slice_get frame.cells l) (Ok bytes) ≡ Ok later) × Represents allotted frame (with_cell_bytes store c bytes) later
      × ((cell other : Interval) (old : List ℕ) → slice_get frame.cells l ≡ Some cell → AreApart cell other → cell_bytes memory other ≡ Some old → cell_bytes later other ≡ Some old)
  unfolding copied
  writes =
      let at = interval-of frame memory l (store c) (holds.shows c l local) in
      let can = can_write memory at.0 (store c) bytes at.2 long in
      let size : length bytes ≡ at.0.size = long ∙ length-cell_bytes memory at.0 (store c) at.2 in
      let stays : (other : Interval) (old : List ℕ) → AreApart at.0 other → cell_bytes memory other ≡ Some old → cell_bytes can.0 other ≡ Some old = λ other old lies found. read-apart memory can.0 at.0 other bytes old can.1 size lies found in (
        can.0,
        ap (λ (o : Option Interval). copied memory o (Ok bytes)) at.1
            ∙ ap (λ (o : Option Memory). elim o [ Some after ↦ Ok after | None ↦ Err bad_write ]) can.1,
        record {
          shows = λ d k h. ⊎_elim
              (λ one.
              let same : l ≡ k = (let h' : allotted c ≡ Some k = ap allotted one.0 ∙ h in let both : Some l ≡ Some k = sym local ∙ h' in cc) in
              ap (local_bytes frame can.0) (sym same)
              ∙ bytes-at frame can.0 l at.0 at.1
              ∙ read-written memory can.0 at.0 bytes can.1 size
              ∙ ap (λ b. Some (cond b bytes (store d))) (sym one.1))
              (λ two.
              let other = interval-of frame memory k (store d) (holds.shows d k h) in
              bytes-at frame can.0 k other.0 other.1
              ∙ stays other.0 (store d) (apart l k at.0 other.0 (λ same. two.0 (own c d l local (h ∙ ap Some (sym same)))) at.1 other.1) other.2
              ∙ ap (λ b. Some (cond b bytes (store d))) (sym two.1))
              (cells c d);
        },
        λ cell other old found lies read.
            let both : Some at.0 ≡ Some cell = sym at.1 ∙ found in
            let same : at.0 ≡ cell = cc in
            stays other old (subst (λ (i : Interval). AreApart i other) (sym same) lies) read,
      )

-- operands of a caller have these bytes, one each, in each memory that holds its store
abbrev pub ShowAll : Shape → Frame → Store → List MirOperand → List (List ℕ) → Type 0
ShowAll whole caller store [] [] = Unit {0}
ShowAll whole caller store (arg ∷ args) (bytes ∷ given) = ((memory : Memory) → Holds whole caller store memory → mir_bytes caller memory arg.kind ≡ Some bytes) × ShowAll whole caller store args given
ShowAll whole caller store _ _ = ⊥

-- so they do where they fit operands of the source that have these bytes
pub shows-all : (source : Source) (whole : Shape) (caller : Frame) (store : Store) (args : List MirOperand) (values : List Operand) → FitAll source (map (λ (arg : MirOperand). arg.kind) args) whole caller values → (given : List (List ℕ)) → operands_bytes source store values ≡ Some given → ShowAll whole caller store args given
unfolding operands_bytes
shows-all source whole caller store [] [] fit given is = let none : [] ≡ given = cc in subst (ShowAll whole caller store []) none tt
shows-all source whole caller store [] (value ∷ values) fit given is = absurd fit
shows-all source whole caller store (arg ∷ args) [] fit given is = absurd fit
shows-all source whole caller store (arg ∷ args) (value ∷ values) fit given is =
    by_first (λ rest rest-is. shows-all source whole caller store args values fit.1 rest rest-is) (operand_bytes source store value) refl is
  where
    Goal : Type 0
    Goal = ShowAll whole caller store (arg ∷ args) given

    by_rest : ((rest : List (List ℕ)) → operands_bytes source store values ≡ Some rest → ShowAll whole caller store args rest) → (bytes : List ℕ) → operand_bytes source store value ≡ Some bytes → (rest : Option (List (List ℕ))) → operands_bytes source store values ≡ rest → option_map (λ (others : List (List ℕ)). bytes ∷ others) rest ≡ Some given → Goal
    by_rest others bytes bytes-are (Some rest) rest-is same =
        let all : bytes ∷ rest ≡ given = cc in
        subst (ShowAll whole caller store (arg ∷ args)) all
        ((λ memory holds. fit.0.bytes store memory holds ∙ bytes-are), others rest rest-is)
    by_rest others bytes bytes-are None rest-is same = absurd cc

    by_first : ((rest : List (List ℕ)) → operands_bytes source store values ≡ Some rest → ShowAll whole caller store args rest) → (first : Option (List ℕ)) → operand_bytes source store value ≡ first → option_and_then (λ (bytes : List ℕ). option_map (λ (others : List (List ℕ)). bytes ∷ others) (operands_bytes source store values)) first ≡ Some given → Goal
    by_first others (Some bytes) bytes-are same = by_rest others bytes bytes-are (operands_bytes source store values) refl same
    by_first others None bytes-are same = absurd cc

-- a test that is passed where something comes of it
passed : {A : Type 0} (m n : ℕ) (next : Option A) (x : A) (b : Bool) → eqb m n ≡ b → cond b next None ≡ Some x → (m ≡ n) × (next ≡ Some x)
passed m n next x true is h = (eqb-true m n is, h)
passed m n next x false is h = absurd cc

-- Arguments are copied from operands of a caller to the locals of a callee's parameters, whose cells share no byte with what could be read
-- before there were any.
module _ (source : Source) (whole : Shape) (caller : Frame) (store : Store) (before : Memory) (held : Holds whole caller store before) (called : Source) (allotted : Cell → Option ℕ) (own : (c d : Cell) (l : ℕ) → allotted c ≡ Some l → allotted d ≡ Some l → c ≡ d) (frame : Frame) (apart : AreCellsApart frame.cells)
    (outside : (b l : ℕ) (cell old : Interval) (bytes : List ℕ) → allotted (Binding b) ≡ Some l → slice_get frame.cells l ≡ Some cell → cell_bytes before old ≡ Some bytes → AreApart cell old) where
  -- the callee's cells hold a store, and what could be read before can be read still
  pub record Filling (now : Store) (memory : Memory) : Type 0 where
    pub holds : Represents allotted frame now memory
    pub sized : (b : ℕ) → length (now (Binding b)) ≡ cell_size called (Binding b)
    pub kept : (old : Interval) (bytes : List ℕ) → cell_bytes before old ≡ Some bytes → cell_bytes memory old ≡ Some bytes

  sized-later : (now : Store) (b c : ℕ) (bytes : List ℕ) → length bytes ≡ cell_size called (Binding b) → ((b : ℕ) → length (now (Binding b)) ≡ cell_size called (Binding b)) → length (with_cell_bytes now (Binding b) bytes (Binding c)) ≡ cell_size called (Binding c)
  sized-later now b c bytes long sized =
      ⊎_elim
      (λ one. ap (λ (t : Bool). length (cond t bytes (now (Binding c)))) one.1 ∙ long ∙ ap (cell_size called) one.0)
      (λ two. ap (λ (t : Bool). length (cond t bytes (now (Binding c)))) two.1 ∙ sized c)
      (cells (Binding b) (Binding c))

  pub fills : (bound : List ℕ) (params : List LocalId) (args : List MirOperand) (values : List (List ℕ)) (now start : Store) (memory : Memory) → AreLocalsOf allotted bound params → ShowAll whole caller store args values →
      Filling now memory → filled called now bound values ≡ Some start → (after : Memory) × (mir_filled caller frame.cells params args memory ≡ Ok after) × Filling start after
  unfolding filled mir_filled
  fills [] [] [] [] now start memory locals fit filling is = let same : now ≡ start = cc in (memory, refl, subst (λ (s : Store). Filling s memory) same filling)
  fills [] [] [] (value ∷ values) now start memory locals fit filling is = absurd fit
  fills [] [] (arg ∷ args) [] now start memory locals fit filling is = absurd fit
  fills [] [] (arg ∷ args) (value ∷ values) now start memory locals fit filling is = absurd cc
  fills [] (param ∷ params) args values now start memory locals fit filling is = absurd locals
  fills (b ∷ bound) [] args values now start memory locals fit filling is = absurd locals
  fills (b ∷ bound) (param ∷ params) [] [] now start memory locals fit filling is = absurd cc
  fills (b ∷ bound) (param ∷ params) [] (value ∷ values) now start memory locals fit filling is = absurd fit
  fills (b ∷ bound) (param ∷ params) (arg ∷ args) [] now start memory locals fit filling is = absurd fit
  fills (b ∷ bound) (param ∷ params) (arg ∷ args) (bytes ∷ values) now start memory locals fit filling is =
      let next = with_cell_bytes now (Binding b) bytes in
      let test = passed (length bytes) (cell_size called (Binding b)) (filled called next bound values) start (eqb (length bytes) (cell_size called (Binding b))) refl is in
      let written = writes allotted own frame apart now memory filling.holds (Binding b) param.0 locals.0 bytes (test.0 ∙ sym (filling.sized b)) in
      let has : mir_bytes caller memory arg.kind ≡ Some bytes = fit.0 memory (represents-later (local_of whole) caller store before memory held filling.kept) in
      let rest = fills bound params args values next start written.0 locals.1 fit.1
      (record {
        holds = written.2;
        sized = λ c. sized-later now b c bytes test.0 filling.sized;
        kept = λ old was found.
            let at = interval-of frame memory param.0 (now (Binding b)) (filling.holds.shows (Binding b) param.0 locals.0) in
            written.3 at.0 old was at.1 (outside b param.0 at.0 old was locals.0 at.1 found) (filling.kept old was found);
      })
      test.1 in (
        rest.0,
        ap (λ (o : Option (List ℕ)). elim (copied memory (slice_get frame.cells param.0) (read o)) [ Ok after ↦ mir_filled caller frame.cells params args after | Err e ↦ Err e ]) has
            ∙ ap (λ (r : Result Memory MirEvalError). elim r [ Ok after ↦ mir_filled caller frame.cells params args after | Err e ↦ Err e ]) written.1
            ∙ rest.1,
        rest.2,
      )

-- a zeroed cell of a local shows what the zeroed store has for its cell
zero-cell : (called : Source) (c : Cell) (local : Local) (intervals : List Interval) (i : ℕ) (memory : Memory) → HasCell called.world local intervals i memory → cell_type called c ≡ Some local.ty → option_and_then (cell_bytes memory) (slice_get intervals i) ≡ Some (zeroed called c)
zero-cell called c local intervals i memory placed typed =
    let layout : cell_layout called c ≡ Some placed.layout = ap (option_and_then (layout_of called.world)) typed ∙ placed.found in
    ap (option_and_then (cell_bytes memory)) placed.there ∙ placed.zeroed
    ∙ ap (λ (o : Option Layout). Some (replicate (unwrap_or (option_map (λ (layout : Layout). layout.size) o) 0) 0)) (sym layout)

-- what lies apart from a call's destination, where there is one
abbrev pub Spares : Option Interval → Interval → Type 0
Spares (Some cell) old = AreApart cell old
Spares None old = Unit {0}

-- what a called body finds in its return slot: what the destination shows, or zeros
abbrev pub Shows : Source → Memory → Option Interval → List ℕ → Type 0
Shows called memory (Some cell) bytes = cell_bytes memory cell ≡ Some bytes
Shows called memory None bytes = bytes ≡ zeroed called Slot

-- The cells of a called body: they lie apart, and from what could be read before, but for the destination; they are zeroed, but for it; and
-- what could be read before can be read still.
pub record ArePlaced (called : Source) (allotted : Cell → Option ℕ) (frame : Frame) (before : Memory) (destination : Option Interval) (result : List ℕ) (memory : Memory) : Type 0 where
  pub apart : AreCellsApart frame.cells
  pub kept : (old : Interval) (bytes : List ℕ) → cell_bytes before old ≡ Some bytes → cell_bytes memory old ≡ Some bytes
  pub holds : Represents allotted frame (with_cell_bytes (zeroed called) Slot result) memory
  pub outside : (b l : ℕ) (cell old : Interval) (bytes : List ℕ) → allotted (Binding b) ≡ Some l → slice_get frame.cells l ≡ Some cell → cell_bytes before old ≡ Some bytes → AreApart cell old
  pub others : (old : Interval) (bytes : List ℕ) → cell_bytes before old ≡ Some bytes → Spares destination old → LiesApart frame old
  pub slot : (cell : Interval) → destination ≡ Some cell → slice_get frame.cells 0 ≡ Some cell

behind-ok : (cell : Interval) (rest : Result (List Interval × Memory) MirEvalError) (all : List Interval × Memory) → cell_before cell rest ≡ Ok all → (behind : List Interval × Memory) × (rest ≡ Ok behind) × (◌≡◌ {A = List Interval × Memory} (cell ∷ behind.0, behind.1) all)
behind-ok cell (Ok behind) all is = (behind, refl, (let same : ◌≡◌ {A = List Interval × Memory} (cell ∷ behind.0, behind.1) all = cc in same))
behind-ok cell (Err e) all is = absurd cc

module _ (called : Source) (are : AreAligned called.world) (allotted : Cell → Option ℕ) (own : (c d : Cell) (l : ℕ) → allotted c ≡ Some l → allotted d ≡ Some l → c ≡ d) (first : allotted Slot ≡ Some 0) (before : Memory) where
  -- only the return slot is local 0
  never-first : {A : Type 0} (b : ℕ) → allotted (Binding b) ≡ Some 0 → A
  never-first b is = let same : Slot ≡ Binding b = own Slot (Binding b) 0 first is in absurd cc

  -- what a store shows that is zeroed but for the result, where it is so of the result and of each other cell
  shows-zeroed : (bytes : ℕ → Option (List ℕ)) (result : List ℕ) → bytes 0 ≡ Some result → ((c : Cell) (l : ℕ) → Slot ≢ c → allotted c ≡ Some l → bytes l ≡ Some (zeroed called c)) → (c : Cell) (l : ℕ) → allotted c ≡ Some l → bytes l ≡ Some (with_cell_bytes (zeroed called) Slot result c)
  shows-zeroed bytes result slot others c l local =
      ⊎_elim
      (λ one.
      let zeroth : allotted Slot ≡ Some l = ap allotted one.0 ∙ local in
      let both : Some 0 ≡ Some l = sym first ∙ zeroth in
      let at : 0 ≡ l = cc in
      ap bytes (sym at) ∙ slot ∙ ap (λ (t : Bool). Some (cond t result (zeroed called c))) (sym one.1))
      (λ two. others c l two.0 local ∙ ap (λ (t : Bool). Some (cond t result (zeroed called c))) (sym two.1))
      (cells Slot c)

  module _ (locals : List Local) (typed : (c : Cell) (l : ℕ) → allotted c ≡ Some l → (local : Local) × (slice_get locals l ≡ Some local) × (cell_type called c ≡ Some local.ty)) (frame : Frame) (memory : Memory) where
    -- without a destination all cells are new
    places-new : Placing called.world locals before frame.cells memory → ArePlaced called allotted frame before None (zeroed called Slot) memory
    unfolding local_bytes
    places-new placing =
        let shows : (c : Cell) (l : ℕ) → allotted c ≡ Some l → local_bytes frame memory l ≡ Some (zeroed called c) = λ c l local.
        let at = typed c l local in
        zero-cell called c at.0 frame.cells l memory (placing.each l at.0 at.1) at.2 in
        record {
          apart = placing.apart;
          kept = placing.kept;
          holds = record { shows = shows-zeroed (local_bytes frame memory) (zeroed called Slot) (shows Slot 0 first) (λ c l differ local. shows c l local) };
          outside = λ b l cell old bytes local there found. placing.others old bytes found l cell there;
          others = λ old bytes found spared i cell there. placing.others old bytes found i cell there;
          slot = λ cell is. absurd cc;
        }

  -- with one it comes first, and all others are new
  module _ (slot : Local) (locals : List Local) (typed : (c : Cell) (l : ℕ) → allotted c ≡ Some l → (local : Local) × (slice_get (slot ∷ locals) l ≡ Some local) × (cell_type called c ≡ Some local.ty)) (frame : Frame) (memory : Memory) (destination : Interval) (result : List ℕ) (there : cell_bytes before destination ≡ Some result)
      (behind : List Interval) (placing : Placing called.world locals before behind memory) (is : frame.cells ≡ destination ∷ behind) where
    apart-behind : AreCellsApart (destination ∷ behind)
    apart-behind zero zero a b differ at-a at-b = absurd (differ refl)
    apart-behind zero (suc j) a b differ at-a at-b =
        let same : destination ≡ a = cc in
        subst (λ (i : Interval). AreApart i b) same (apart-sym b destination (placing.others destination result there j b at-b))
    apart-behind (suc i) zero a b differ at-a at-b =
        let same : destination ≡ b = cc in
        subst (AreApart a) same (placing.others destination result there i a at-a)
    apart-behind (suc i) (suc j) a b differ at-a at-b = placing.apart i j a b (λ same. differ (ap suc same)) at-a at-b

    new-behind : (c : Cell) (l : ℕ) → Slot ≢ c → allotted c ≡ Some l → option_and_then (cell_bytes memory) (slice_get (destination ∷ behind) l) ≡ Some (zeroed called c)
    new-behind c zero differ local = absurd (differ (own Slot c 0 first local))
    new-behind c (suc l) differ local =
        let at = typed c (suc l) local in
        zero-cell called c at.0 behind l memory (placing.each l at.0 at.1) at.2

    outside-behind : (b l : ℕ) (cell old : Interval) (bytes : List ℕ) → allotted (Binding b) ≡ Some l → slice_get (destination ∷ behind) l ≡ Some cell → cell_bytes before old ≡ Some bytes → AreApart cell old
    outside-behind b zero cell old bytes local at found = never-first b local
    outside-behind b (suc l) cell old bytes local at found = placing.others old bytes found l cell at

    others-behind : (old : Interval) (bytes : List ℕ) → cell_bytes before old ≡ Some bytes → AreApart destination old → (l : ℕ) (cell : Interval) → slice_get (destination ∷ behind) l ≡ Some cell → AreApart cell old
    others-behind old bytes found spared zero cell at = let same : destination ≡ cell = cc in subst (λ (i : Interval). AreApart i old) same spared
    others-behind old bytes found spared (suc l) cell at = placing.others old bytes found l cell at

    places-behind : ArePlaced called allotted frame before (Some destination) result memory
    unfolding local_bytes
    places-behind =
        let at : (l : ℕ) → slice_get frame.cells l ≡ slice_get (destination ∷ behind) l = λ l. ap (λ (all : List Interval). slice_get all l) is in
        let bytes : (l : ℕ) → local_bytes frame memory l ≡ option_and_then (cell_bytes memory) (slice_get (destination ∷ behind) l) = λ l. ap (option_and_then (cell_bytes memory)) (at l) in
        record {
          apart = subst AreCellsApart (sym is) apart-behind;
          kept = placing.kept;
          holds = record { shows = shows-zeroed (local_bytes frame memory) result (bytes 0 ∙ placing.kept destination result there) (λ c l differ local. bytes l ∙ new-behind c l differ local) };
          outside = λ b l cell old old_bytes local found. outside-behind b l cell old old_bytes local (sym (at l) ∙ found);
          others = λ old old_bytes found spared l cell at_l. others-behind old old_bytes found spared l cell (sym (at l) ∙ at_l);
          slot = λ cell same. at 0 ∙ same;
        }

  -- the cells of a called body, where there are any
  pub called-places : (locals : List Local) → ((c : Cell) (l : ℕ) → allotted c ≡ Some l → (local : Local) × (slice_get locals l ≡ Some local) × (cell_type called c ≡ Some local.ty)) →
      (destination : Option Interval) (result : List ℕ) → Shows called before destination result → (all : List Interval × Memory) → called_cells called.world locals destination before ≡ Ok all →
      (frame : Frame) → frame.cells ≡ all.0 → ArePlaced called allotted frame before destination result all.1
  called-places locals typed None result shows all is frame same =
      let alone : cells_of called.world locals before ≡ Ok all = none-cells locals all is in
      let placing : Placing called.world locals before frame.cells all.1 = subst (λ (at : List Interval). Placing called.world locals before at all.1) (sym same) (places-all called.world are locals before all alone) in
      subst (λ (bytes : List ℕ). ArePlaced called allotted frame before None bytes all.1) (sym shows) (places-new locals typed frame all.1 placing) where
        none-cells : (ls : List Local) (a : List Interval × Memory) → called_cells called.world ls None before ≡ Ok a → cells_of called.world ls before ≡ Ok a
        none-cells [] a h = h
        none-cells (slot ∷ ls) a h = h
  called-places [] typed (Some destination) result shows all is frame same =
      let at = typed Slot 0 first in
      let none : None ≡ Some at.0 = at.1 in
      absurd cc
  called-places (slot ∷ locals) typed (Some destination) result shows all is frame same =
      let made = behind-ok destination (cells_of called.world locals before) all is in
      let at : frame.cells ≡ destination ∷ made.0.0 = same ∙ sym (ap (λ (a : List Interval × Memory). a.0) made.2) in
      subst (λ (m : Memory). ArePlaced called allotted frame before (Some destination) result m) (ap (λ (a : List Interval × Memory). a.1) made.2)
      (places-behind slot locals typed frame made.0.1 destination result shows made.0.0 (places-all called.world are locals before made.0 made.1) at)
