-- A whole body: its root, leaving it, and returning.
use Rattle.std.proofs.Common.{[], ◌∷◌, ◌++◌, ◌≡◌, ℕ, ◌+◌, ◌-◌, ◌≤◌, ◌⊎◌, ⊎_elim, inl, inr, Bool, true, false, List, length, Option, Some, Ok, refl, sym, ap, ◌∙◌, subst, arith}
use Rattle.std.specs.Prelude.{◌&&◌, slice_get, map, sum, replicate, option_map, option_and_then, unwrap_or}
use Rattle.world.specs.Checked.{IsCheckedBody}
use Rattle.world.specs.declared.database.HirDatabase.{HirDatabase}
use Rattle.world.specs.declared.layout.Layout.{Layout}
use Rattle.world.specs.Lookups.{layout_of}
use Rattle.mir.specs.declared.body.BasicBlock.{BasicBlock}
use Rattle.mir.specs.declared.body.Local.{Local}
use Rattle.mir.specs.declared.body.MirBody.{MirBody}
use Rattle.mir.specs.declared.body.TerminatorKind.TheVariants as kind
use Rattle.mir.specs.declared.span.MirSpan.{MirSpan}
use Rattle.mir.specs.declared.address.Interval.{Interval}
use Rattle.mir.specs.Areas.{first_areas}
use Rattle.mir.specs.Memory.{Memory, cell_bytes, cells_of}
use Rattle.mir.specs.Run.{Program, Frame, Waiting, Ended, Returned, Stops, returned, resumed, after_return, going_on, entering, begun, levels_over}
use Rattle.source_meaning.specs.Aggregates.{HasAggregates}
use Rattle.source_meaning.specs.Around.{Around, at_root, marking}
use Rattle.source_meaning.specs.Calls.{parameters, parameter_cells}
use Rattle.source_meaning.specs.Ends.{Cost, cost_of, greater, turns_alone, plus, End, Go, Jumps, Break, Continue, Return, Faults, Stuck, More, after}
use Rattle.source_meaning.specs.Entering.{body_room, is_cost_defined, room_of, run_cost, entering as entering_cost}
use Rattle.source_meaning.specs.Events.{marked}
use Rattle.source_meaning.specs.Laid.{is_laid_out}
use Rattle.source_meaning.specs.Meaning.{level_at, meaning_from, returned as returned_of, where_laid}
use Rattle.source_meaning.specs.Source.{Source, node_type, root, Cell, Result as Slot, Binding, Path, cell_type, cell_layout, drops, Store, zeroed, own_type}
use Rattle.source_meaning.specs.Valid.{IsPlain, IsLaidOut, AreLaidOut}
use Rattle.mir_lower.specs.Callees.{AreCounted, AreLocalsOf, RunsOn, RunsAs, Serves, cost_once_placed, once_placed}
use Rattle.mir_lower.specs.Does.{FrontAll, here, IsFrameOf, Holds, Nowhere, AtPoint, Landings, Goes, Reaches, Nothing, Stands}
use Rattle.mir_graph.specs.Graph.{OpenTarget, Shape, no_statements, local_of, local_of_type, with_terminator, with_scope}
use Rattle.mir_lower.specs.Growth.{Grows, IsSound, IsUsed, count_at}
use Rattle.mir_lower.specs.Leaving.{Idles}
use Rattle.mir_lower.specs.Lowered.{HasLayouts, LowersInto}
use Rattle.mir_lower.specs.Simulates.{EndsOn, EndsAs, Simulates}
use Rattle.mir_lower.specs.Stops.{IsCut, StopsWithin, StopsFrom}
use Rattle.mir_lower.specs.Runs.{Point, Within, Entry, Exit, start_of, run_from, local_bytes, AreCellsApart, Enters, IsReturned, EndsAfter, BreaksOff, HasGrown, Comes}
use Rattle.mir_lower.proofs.Covering.{Covers, covers-after}
use Rattle.mir_lower.proofs.Fitting.{unfit}
use Rattle.mir_lower.proofs.Growing.{grows-refl, grows-trans, with_terminator-grows, with_scope-grows}
use Rattle.mir_lower.proofs.Lacking.{entering-room, rooms-counted}
use Rattle.mir_lower.proofs.Leaving.{enters-block, comes-return, here-scope}
use Rattle.mir_graph.proofs.Lists.{front-of}
use Rattle.mir_lower.proofs.Placing.{AreAligned, Placing, places-all, first-ok}
use Rattle.mir_lower.proofs.Reaching.{breaks-after, comes-on, comes-trans, enters-both, stops-after, stops-before}
use Rattle.mir_lower.proofs.Parameters.{locals-carried}
use Rattle.mir_lower.proofs.Room.{fits-room}
use Rattle.mir_lower.proofs.Sound.{with_terminator-sound, slot-there, binding-there, stored-is-used}
use Rattle.mir_lower.proofs.Steps.{local_of-grows}
use Rattle.mir_lower.proofs.Stopping.{IsPart, cut-onward, ends-as}
use Rattle.mir_lower.proofs.Taking.{cells-take, grown-more, rooms}
use Rattle.std.proofs.lemmas.List.Elements.{All-nil}

-- a meaning that a cost stands before, and a run that comes to where it begins over as many blocks
module _ (source : Source) (allotted : Cell → Option ℕ) (frame : Frame) (from at : Point) (memory middle : Memory) (cost : Cost) (comes : Comes frame cost.turns cost.bytes from memory at middle) where
  runs-on-after : (end : End (List ℕ)) → RunsOn source allotted frame at middle end → RunsOn source allotted frame from memory (after cost end)
  unfolding after plus
  runs-on-after (Go bytes store then) does = (does.0, comes-trans frame cost.turns then.turns from at memory middle comes Exit does.0 does.1, does.2, does.3)
  runs-on-after (Jumps to store then) does = tt
  runs-on-after (Faults fault then) does = breaks-after frame cost.turns then.turns from at memory middle comes source fault does
  runs-on-after Stuck does = tt
  runs-on-after (More then) does = enters-both frame cost.turns then.turns from at memory middle comes does

  runs-cut-after : (end : End (List ℕ)) → StopsFrom source frame at middle (cost_of end) → RunsAs source allotted frame from memory (after cost end)
  unfolding after
  runs-cut-after (Go bytes store then) stops = inl (stops-after source frame cost then from at memory middle comes stops)
  runs-cut-after (Jumps to store then) stops = inl (stops-after source frame cost then from at memory middle comes stops)
  runs-cut-after (Faults fault then) stops = inl (stops-after source frame cost then from at memory middle comes stops)
  runs-cut-after Stuck stops = inr tt
  runs-cut-after (More then) stops = inl (stops-after source frame cost then from at memory middle comes stops)

  runs-after : (end : End (List ℕ)) → RunsAs source allotted frame at middle end → RunsAs source allotted frame from memory (after cost end)
  runs-after end does = ⊎_elim (runs-cut-after end) (λ goes. inr (runs-on-after end goes)) does

-- where no body waits, a run that comes to where the body returns ends with the bytes of the return slot
return-ends : (frame : Frame) (memory : Memory) (bytes : List ℕ) (more : ℕ) → frame.below ≡ [] → local_bytes frame memory 0 ≡ Some bytes → run_from frame memory Exit more ≡ record { ending = Returned bytes; left = more }
unfolding going_on after_return local_bytes
return-ends frame memory bytes more alone slot =
    ap (λ (below : List Waiting). going_on more (elim below [ [] ↦ Stops (returned (option_and_then (cell_bytes memory) (slice_get frame.cells 0))) | caller ∷ others ↦ resumed frame.program memory caller others ])) alone
    ∙ ap (λ o. record { ending = returned o; left = more }) slot

-- so there a run ends as the meaning does
ends-on-run : (source : Source) (allotted : Cell → Option ℕ) (frame : Frame) (from : Point) (memory : Memory) → frame.below ≡ [] → (end : End (List ℕ)) → RunsOn source allotted frame from memory end → EndsOn source end (run_from frame memory from)
ends-on-run source allotted frame from memory alone (Go bytes store cost) does =
    record {
      with_more = λ more. (Returned bytes, refl, does.1.with_more more ∙ return-ends frame does.0 bytes more alone does.3);
      with_fewer = does.1.with_fewer;
    }
ends-on-run source allotted frame from memory alone (Jumps to store cost) does = tt
ends-on-run source allotted frame from memory alone (Faults fault cost) does = does
ends-on-run source allotted frame from memory alone Stuck does = tt
ends-on-run source allotted frame from memory alone (More cost) does = does

-- where the run is after each jump out of a root: after a `return`, where the body returns; and of the others nothing is said
abbrev lands-out : Landings
lands-out Return = AtPoint Exit
lands-out (Break node) = Nowhere
lands-out (Continue node) = Nowhere

-- a cost without blocks before a meaning changes nothing of a run
ends-on-costed : (source : Source) (cost : Cost) (end : End (List ℕ)) (run : ℕ → Ended) → cost.turns ≡ 0 → EndsOn source end run → EndsOn source (after cost end) run
unfolding after plus
ends-on-costed source cost (Go bytes store rest) run free ends =
    let plain : rest.turns ≡ cost.turns + rest.turns = omega arith in
    subst (λ (n : ℕ). EndsAfter n (IsReturned bytes) run) plain ends
ends-on-costed source cost (Jumps to store rest) run free ends = tt
ends-on-costed source cost (Faults fault rest) run free ends =
    let plain : rest.turns ≡ cost.turns + rest.turns = omega arith in
    subst (λ (n : ℕ). BreaksOff source fault n run) plain ends
ends-on-costed source cost Stuck run free ends = tt
ends-on-costed source cost (More rest) run free ends =
    let plain : rest.turns ≡ cost.turns + rest.turns = omega arith in
    subst (λ (n : ℕ). Enters n run) plain ends

-- A run of a body that none called, whose cells took no more bytes than the source counts for them: where it stops at a call, that is within what
-- the body's meaning counts with them.
module _ (source : Source) (program : Program) (memory : Memory) (run : ℕ → Ended) (grown : HasGrown (body_room source) (first_areas program.bytes) memory) where
  stops-alone : (cost : Cost) → IsPart (entering_cost source) cost → StopsWithin source program (levels_over []) memory (cost_once_placed source cost) run → StopsWithin source program (levels_over []) (first_areas program.bytes) cost run
  stops-alone cost part stops =
      let room = entering-room source in
      let bytes = part.bytes in
      let stack = grown.stack in
      let limit = grown.limit in
      record {
        call = stops.call;
        blocks = stops.blocks;
        within = stops.within;
        ends = ends-as stops.blocks (IsCut source program (levels_over []) memory (cost_once_placed source cost)) (IsCut source program (levels_over []) (first_areas program.bytes) cost) run
            (cut-onward source source (λ reached on. on) program (levels_over []) memory (cost_once_placed source cost) (levels_over []) (first_areas program.bytes) cost (λ is. is) (λ passes. omega arith) (omega arith)) stops.ends;
      }

  -- what the run does alone, at the end of the body's meaning
  abbrev Alone : End (List ℕ) → Type 0
  Alone end = StopsWithin source program (levels_over []) (first_areas program.bytes) (cost_of end) run ⊎ EndsOn source (after (run_cost source) end) run

  ends-alone : (end : End (List ℕ)) → Covers (entering_cost source) end → StopsWithin source program (levels_over []) memory (cost_of (once_placed source end)) run ⊎ EndsOn source (once_placed source end) run → Alone end
  unfolding run_cost after
  ends-alone (Go bytes store cost) covers (inl stops) = inl (stops-alone cost covers stops)
  ends-alone (Go bytes store cost) covers (inr on) = inr (ends-on-costed source (run_cost source) (Go bytes store cost) run refl on)
  ends-alone (Jumps to store cost) covers either = inr tt
  ends-alone (Faults fault cost) covers (inl stops) = inl (stops-alone cost covers stops)
  ends-alone (Faults fault cost) covers (inr on) = inr (ends-on-costed source (run_cost source) (Faults fault cost) run refl on)
  ends-alone Stuck covers either = inr tt
  ends-alone (More cost) covers (inl stops) = inl (stops-alone cost covers stops)
  ends-alone (More cost) covers (inr on) = inr (ends-on-costed source (run_cost source) (More cost) run refl on)

-- a body's meaning counts at least what entering it costs
meaning-covers : (source : Source) (fuel : ℕ) → Covers (entering_cost source) (meaning_from source (zeroed source) fuel)
unfolding meaning_from
meaning-covers source fuel =
    covers-after (entering_cost source) (where_laid (is_laid_out source)
    (returned_of source ((level_at source fuel (marking (parameter_cells source) (at_root (record { cell = Slot })))).into (root source) (record { cell = Slot }) (zeroed source))))

-- what leaving the body costs: the parameters' cells are left too
abbrev pub leaving : Source → ℕ
leaving source = drops source (parameter_cells source ++ marked source (root source))

-- what a body makes of the end of its root, where the run goes on to leave the body's scope and returns
module _ (source : Source) (whole : Shape) (frame : Frame) (from at : Point) (memory : Memory) where
  runs-cut : (end : End (Unit {0})) → StopsFrom source frame from memory (cost_of end) → RunsAs source (local_of whole) frame from memory (returned_of source end)
  unfolding after
  runs-cut (Go done store cost) stops = inl (stops-before source frame from memory cost (turns_alone (leaving source)) stops)
  runs-cut (Jumps Return store cost) stops = inl stops
  runs-cut (Jumps (Break node) store cost) stops = inl stops
  runs-cut (Jumps (Continue node) store cost) stops = inl stops
  runs-cut (Faults fault cost) stops = inl stops
  runs-cut Stuck stops = inl stops
  runs-cut (More cost) stops = inl stops

  runs-out : (end : End (Unit {0})) → Goes source whole lands-out frame from at memory (Nothing whole frame) end →
      ((middle : Memory) → Comes frame (leaving source) 0 at middle Exit middle) → RunsAs source (local_of whole) frame from memory (returned_of source end)
  runs-out (Go done store cost) does rest =
      inr (runs-on-after source (local_of whole) frame from at memory does.0 cost does.1 (Go (store Slot) store (turns_alone (leaving source))) (does.0, rest does.0, does.2, does.2.shows Slot 0 refl))
  runs-out (Jumps Return store cost) does rest = inr (does.0, does.1, does.2, does.2.shows Slot 0 refl)
  runs-out (Jumps (Break node) store cost) does rest = inr tt
  runs-out (Jumps (Continue node) store cost) does rest = inr tt
  runs-out (Faults fault cost) does rest = inr does
  runs-out Stuck does rest = inr tt
  runs-out (More cost) does rest = inr does

  runs-returned : (end : End (Unit {0})) → Reaches source whole lands-out frame from at memory (Nothing whole frame) end →
      ((middle : Memory) → Comes frame (leaving source) 0 at middle Exit middle) → RunsAs source (local_of whole) frame from memory (returned_of source end)
  runs-returned end does rest = ⊎_elim (runs-cut end) (λ goes. runs-out end goes rest) does

-- what entering a body costs whose cells are placed
abbrev entered : Source → Cost
entered source = record { turns = 1; bytes = 0; nesting = 1; defined = is_cost_defined source }

placed-cost : (source : Source) (cost : Cost) → cost_once_placed source (plus (entering_cost source) cost) ≡ plus (entered source) cost
unfolding entering_cost plus
placed-cost source cost =
    let with-bytes : ℕ → Cost = λ n. record { turns = 1 + cost.turns; bytes = n; nesting = greater 1 cost.nesting; defined = is_cost_defined source && cost.defined } in
    let same : body_room source + cost.bytes - body_room source ≡ 0 + cost.bytes = omega arith in
    ap with-bytes same

placed-after : (source : Source) (end : End (List ℕ)) → once_placed source (after (entering_cost source) end) ≡ after (entered source) end
unfolding after
placed-after source (Go bytes store cost) = ap (Go bytes store) (placed-cost source cost)
placed-after source (Jumps to store cost) = ap (Jumps to store) (placed-cost source cost)
placed-after source (Faults fault cost) = ap (Faults fault) (placed-cost source cost)
placed-after source Stuck = refl
placed-after source (More cost) = ap More (placed-cost source cost)

-- entering a body costs a block
runs-entered : (source : Source) (allotted : Cell → Option ℕ) (frame : Frame) (memory : Memory) (block : ℕ) (end : End (List ℕ)) → RunsAs source allotted frame (start_of block) memory end → RunsAs source allotted frame (Entry block) memory (once_placed source (after (entering_cost source) end))
runs-entered source allotted frame memory block end does =
    subst (RunsAs source allotted frame (Entry block) memory) (sym (placed-after source end))
    (runs-after source allotted frame (Entry block) (start_of block) memory memory (entered source) (enters-block frame memory block) end does)

-- what is evaluated in a body is what it means, but where the types that it needs have no layouts
runs-laid : (source : Source) (allotted : Cell → Option ℕ) (frame : Frame) (from : Point) (memory : Memory) (end : End (List ℕ)) → IsCheckedBody source.body source.infer → (laid : Bool) → is_laid_out source ≡ laid → RunsAs source allotted frame from memory end → RunsAs source allotted frame from memory (where_laid laid end)
runs-laid source allotted frame from memory end checked true tested does = does
runs-laid source allotted frame from memory end checked false tested does = inr (unfit source checked tested)

-- the frame in which a body begins
pub begun-cells : (program : Program) (body : MirBody) (start : Frame × Memory) → begun program body ≡ Ok start → (all : List Interval × Memory) × (cells_of program.world body.locals (first_areas program.bytes) ≡ Ok all) × ◌≡◌ {A = Frame × Memory} start (record { program = program; body = body; cells = all.0; below = [] }, all.1)
unfolding begun
begun-cells program body start h =
    let first = first-ok (cells_of program.world body.locals (first_areas program.bytes)) (λ all. Ok (record { program = program; body = body; cells = all.0; below = [] }, all.1)) start h in
    (first.0, first.1, (let same : ◌≡◌ {A = Frame × Memory} (record { program = program; body = body; cells = first.0.0; below = [] }, first.0.1) start = cc in sym same))

-- each cell's local is zero at first
starts-zeroed : (source : Source) (s : Shape) (frame : Frame) (before memory : Memory) → IsSound source s → Placing source.world s.locals before frame.cells memory → Holds s frame (zeroed source) memory
unfolding local_bytes
starts-zeroed source s frame before memory sound placing =
    record { shows = λ cell l found. shows-cell cell l (sound.allotted.typed cell l found) } where
      shows-cell : (cell : Cell) (l : ℕ) → (local : Local) × (slice_get s.locals l ≡ Some local) × (cell_type source cell ≡ Some local.ty) → option_and_then (cell_bytes memory) (slice_get frame.cells l) ≡ Some (zeroed source cell)
      shows-cell cell l local =
          let placed = placing.each l local.0 local.1 in
          let layout : cell_layout source cell ≡ Some placed.layout = ap (option_and_then (layout_of source.world)) local.2 ∙ placed.found in
          ap (option_and_then (cell_bytes memory)) placed.there ∙ placed.zeroed
          ∙ ap (λ (o : Option Layout). Some (replicate (unwrap_or (option_map (λ (layout : Layout). layout.size) o) 0) 0)) (sym layout)

-- the point before the first statement of a graph of one empty block
pub here-first : (s : Shape) → s.blocks ≡ no_statements ∷ [] → s.current ≡ 0 → here s ≡ Within 0 0
unfolding count_at
here-first s blocks current =
    let at : List BasicBlock → ℕ → Point = λ bs n. Within n (unwrap_or (option_map (λ (b : BasicBlock). length b.statements) (slice_get bs n)) 0) in
    ap (λ (bs : List BasicBlock). at bs s.current) blocks ∙ ap (λ (n : ℕ). at (no_statements ∷ []) n) current

-- the root was lowered, where the parameters' cells are in use; the body's scope was left, and the block ended by a return
module _ (source : Source) (s0 s1 s2 : Shape) (span : MirSpan) (begins : here s0 ≡ Within 0 0) (inside : s0.scope ≡ parameter_cells source) (outermost : s0.targets ≡ []) (into : LowersInto source s0 s1 (root source) Slot) (idles : Idles source (with_scope [] s1) s2 (leaving source)) where
  abbrev Whole : Shape
  Whole = with_terminator (record { span = span; kind = kind.Return }) s2

  first-grows : Grows s1 Whole
  first-grows =
      grows-trans s1 (with_scope [] s1) Whole (with_scope-grows [] s1)
      (grows-trans (with_scope [] s1) s2 Whole idles.grows (with_terminator-grows (record { span = span; kind = kind.Return }) s2 idles.«open»))

  whole-sound : IsSound source Whole
  whole-sound = with_terminator-sound source (record { span = span; kind = kind.Return }) s2 idles.«open» idles.sound

  -- from the root's end on: the scope is left, and the body returns
  returns-after : (frame : Frame) → IsFrameOf Whole frame → (memory : Memory) → Comes frame (leaving source) 0 (here s1) memory Exit memory
  returns-after frame is memory =
      let comes : Comes frame (leaving source) 0 (here s1) memory (here s2) memory =
      subst (λ (p : Point). Comes frame (leaving source) 0 p memory (here s2) memory) (here-scope s1 [])
      (idles.comes Whole frame (with_terminator-grows (record { span = span; kind = kind.Return }) s2 idles.«open») is memory) in
      comes-on frame (leaving source) (here s1) (here s2) Exit memory memory memory comes (comes-return s2 Whole frame span memory idles.«open» (grows-refl Whole) is)

  -- the run of a body from its frame on
  runs-whole : IsCheckedBody source.body source.infer → (frame : Frame) (store : Store) (memory : Memory) → IsFrameOf Whole frame → Holds Whole frame store memory → (fuel : ℕ) → Serves fuel source frame.program → RunsAs source (local_of Whole) frame (Entry 0) memory (once_placed source (meaning_from source store fuel))
  unfolding meaning_from
  runs-whole checked frame store memory is holds fuel serves =
      let slot : Path = record { cell = Slot } in
      let around : Around = marking (parameter_cells source) (at_root slot) in
      let evaluates : End (Unit {0}) = (level_at source fuel around).into (root source) slot store in
      let stands : Stands Whole s0 lands-out around =
      record { marks = sym inside; result = refl; returns = refl; targets = subst (λ (targets : List OpenTarget). FrontAll Whole lands-out targets []) (sym outermost) tt } in
      runs-entered source (local_of Whole) frame memory 0 (where_laid (is_laid_out source) (returned_of source evaluates))
      (runs-laid source (local_of Whole) frame (start_of 0) memory (returned_of source evaluates) checked (is_laid_out source) refl
      (subst (λ (p : Point). RunsAs source (local_of Whole) frame p memory (returned_of source evaluates)) begins
      (runs-returned source Whole frame (here s0) (here s1) memory evaluates
      (into.does.reaches Whole frame first-grows whole-sound is lands-out around stands fuel serves store memory holds)
      (returns-after frame is))))

  -- what is evaluated has types with layouts, where the locals have
  lays-out : (locals : List Local) → locals ≡ Whole.locals → HasAggregates source.world → IsPlain source → ((l : ℕ) (local : Local) → slice_get locals l ≡ Some local → IsLaidOut source (Some local.ty)) → AreLaidOut source
  lays-out locals same aggregates plain laid =
      let all : HasLayouts source Whole = λ l local h. laid l local (ap (λ (ls : List Local). slice_get ls l) same ∙ h) in
      let first = slot-there source Whole whole-sound in
      let root-laid : IsLaidOut source (node_type source (root source)) =
      subst (IsLaidOut source) (sym first.2) (all 0 first.0 first.1) in
      record {
        nodes = λ e evaluates. into.laid root-laid (record { aggregates = aggregates; nodes = plain.nodes; opened = []; jumps = plain.jumps; laid = All-nil (λ target. IsLaidOut source (own_type source target.node)) }) (λ l local h. all l local (first-grows.locals l local h)) e evaluates;
        bindings = λ b t h. let there = binding-there source Whole whole-sound b t h in all there.0 (local_of_type t) there.1;
      }

  -- the graph of a body does what the body means
  pub whole-simulates : (body : MirBody) → AreAligned source.world → IsCheckedBody source.body source.infer → body.basic_blocks ≡ Whole.blocks → body.locals ≡ Whole.locals → body.projection_store.projections ≡ Whole.projections → body.start_block.0 ≡ 0 →
      (bound : List ℕ) → parameters source ≡ Some bound → AreLocalsOf (local_of s0) bound body.param_locals → Simulates source body
  whole-simulates body aligned checked blocks locals projections start bound binds told =
      let first = slot-there source Whole whole-sound in
      let frame-of : (frame : Frame) → frame.body ≡ body → AreCellsApart frame.cells → IsFrameOf Whole frame = λ frame same apart. record {
        blocks = ap (λ (b : MirBody). b.basic_blocks) same ∙ blocks;
        locals = ap (λ (b : MirBody). b.locals) same ∙ locals;
        projections = ap (λ (b : MirBody). b.projection_store.projections) same ∙ projections;
        apart = apart;
      } in
      let does-from : (fuel : ℕ) (store : Store) (frame : Frame) (memory : Memory) → frame.body ≡ body → Serves fuel source frame.program → AreCellsApart frame.cells → Holds Whole frame store memory →
      RunsAs source (local_of Whole) frame (Entry body.start_block.0) memory (once_placed source (meaning_from source store fuel)) =
      λ fuel store frame memory same serves apart holds.
      subst (λ (n : ℕ). RunsAs source (local_of Whole) frame (Entry n) memory (once_placed source (meaning_from source store fuel))) (sym start) (runs-whole checked frame store memory (frame-of frame same apart) holds fuel serves) in
      let all-grow : Grows s0 Whole = grows-trans s0 s1 Whole into.keeps.grows first-grows in
      let cells : (l : ℕ) (local : Local) → slice_get body.locals l ≡ Some local → (cell : Cell) × IsUsed source cell × (cell_type source cell ≡ Some local.ty) × (local_of Whole cell ≡ Some l) =
      λ l local h.
      let at = whole-sound.allotted.cells l local (ap (λ (ls : List Local). slice_get ls l) (sym locals) ∙ h) in
      (at.0, stored-is-used source at.0 at.1, at.3, at.2) in
      let room : sum (map (λ (local : Local). room_of (layout_of source.world local.ty)) body.locals) ≤ body_room source =
      subst (λ (ls : List Local). sum (map (λ (local : Local). room_of (layout_of source.world local.ty)) ls) ≤ body_room source) (sym locals)
      (fits-room source Whole checked.root whole-sound) in
      let counted : AreCounted source body.locals = record { cells = λ l local h. let at = cells l local h in (at.0, at.1, at.2); room = room } in
      record {
        allotted = local_of Whole;
        result = refl;
        bound = whole-sound.bound;
        own = whole-sound.allotted.own;
        typed = λ c l found.
            let at = whole-sound.allotted.typed c l found in
            (at.0, ap (λ (ls : List Local). slice_get ls l) locals ∙ at.1, at.2);
        params = record {
          bound = bound;
          binds = binds;
          locals = locals-carried (local_of s0) (local_of Whole) bound body.param_locals (λ b l found. local_of-grows s0 Whole all-grow (Binding b) l found) told;
        };
        does = does-from;
        slot = (first.0, ap (λ (l : List Local). slice_get l 0) locals ∙ first.1, first.2);
        cells = cells;
        room = room;
        laid_out = lays-out body.locals locals;
        runs = λ fuel program begin serves h.
            let all = begun-cells program body begin h in
            let frame : Frame = record { program = program; body = body; cells = all.0.0; below = [] } in
            let before : Memory = first_areas program.bytes in
            let placed = ap (λ (w : HirDatabase). cells_of w body.locals before) (sym serves.world) ∙ all.1 in
            let placing = places-all source.world aligned body.locals before all.0 placed in
            let placing' : Placing source.world Whole.locals before all.0.0 all.0.1 = subst (λ (l : List Local). Placing source.world l before all.0.0 all.0.1) locals placing in
            let own : ℕ = rooms source.world body.locals in
            let grown : HasGrown (body_room source) before all.0.1 = grown-more own (body_room source) before all.0.1 (rooms-counted source body.locals counted) (cells-take source.world body.locals before all.0 placed) in
            let run : ℕ → Ended = λ budget. entering budget frame all.0.1 body.start_block.0 in
            let end : End (List ℕ) = meaning_from source (zeroed source) fuel in
            let does = does-from fuel (zeroed source) frame all.0.1 refl serves placing.apart (starts-zeroed source Whole frame before all.0.1 whole-sound placing') in
            subst (λ (b : Frame × Memory). EndsAs source program fuel (λ budget. entering budget b.0 b.1 body.start_block.0)) (sym all.2)
            (ends-alone source program all.0.1 run grown end (meaning-covers source fuel)
            (⊎_elim inl (λ on. inr (ends-on-run source (local_of Whole) frame (Entry body.start_block.0) all.0.1 refl (once_placed source end) on)) does));
      }

  -- the locals that there were at first come first
  pub whole-front : (locals : List Local) → locals ≡ Whole.locals → (rest : List Local) × (locals ≡ s0.locals ++ rest)
  whole-front locals same =
      let grown = grows-trans s0 s1 Whole into.keeps.grows first-grows in
      let front = front-of s0.locals Whole.locals (λ i l h. grown.locals i l h) in
      (front.0, same ∙ front.1)
