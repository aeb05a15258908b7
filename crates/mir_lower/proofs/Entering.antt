-- A call: its callee's body runs in the caller's run, from the arguments on, and the caller goes on with the value.
use Rattle.std.proofs.Common.{◌≡◌, ℕ, suc, ◌+◌, ◌-◌, ◌<◌, ◌≤◌, ◌⊎◌, ⊎_elim, inl, inr, Bool, true, false, cond, List, [], ◌∷◌, Option, Some, None, Result, Ok, Err, refl, sym, ap, ◌∙◌, subst, arith}
use Rattle.std.specs.Prelude.{slice_get, nat_le, option_and_then, codes}
use borrow.Author.Tests.{leb-false}
use Rattle.std.proofs.lemmas.List.{length-replicate}
use Rattle.types.specs.declared.ids.FunctionId.{FunctionId}
use Rattle.types.specs.declared.ty.Ty.{Ty}
use Rattle.world.specs.declared.database.HirDatabase.{HirDatabase}
use Rattle.mir.specs.Projections.{empty_id}
use Rattle.mir.specs.Answers.{answer_to}
use Rattle.mir.specs.Areas.{taken}
use Rattle.mir.specs.declared.address.Interval.{Interval}
use Rattle.mir.specs.declared.answers.Answer.{Answer as Told}
use Rattle.mir.specs.declared.answers.Answer.TheVariants as told
use Rattle.mir.specs.declared.body.MirBody.{MirBody}
use Rattle.mir.specs.declared.errors.MirEvalError.{MirEvalError}
use Rattle.mir.specs.declared.errors.MirEvalError as error
use Rattle.mir.specs.declared.operand.Operand.{Operand as MirOperand}
use Rattle.mir.specs.Memory.{Memory, cell_bytes, number_held}
use Rattle.mir.specs.Run.{Program, Frame, Calling, Ending, Faulted, Asked, Ended, Next, Stops, operand_type as mir_type, body_query, trail_of, levels_over, entry_of, callee_error, called_cells, called as mir_called, called_by, calls, calls_out, entered, going_on, led, out_of_bounds as mir_out_of_bounds, some_out}
use Rattle.source_meaning.specs.Around.{at_root, marking}
use Rattle.source_meaning.specs.Calls.{function_called, function_in, source_of, source_called, parameter_cells, filled, started}
use Rattle.source_meaning.specs.Ends.{Cost, no_cost, turns_alone, one_level_more, plus, End, Fault, Panic, Undefined, NoLayout, Go, Jumps, Faults, Stuck, More, after, then_do}
use Rattle.source_meaning.specs.Entering.{body_room, entering as entering_cost, is_cost_defined}
use Rattle.source_meaning.specs.Laid.{is_laid_out}
use Rattle.source_meaning.specs.Meaning.{out_of_bounds, put, call_returned, call_diverged, call_ended, entered_from, entered_into, level_at, callees_at, meaning_from, returned, unfit_meaning, where_laid}
use Rattle.source_meaning.specs.Source.{Source, Cell, Result as Slot, Binding, cell_size, Path, Store, root, zeroed, with_cell_bytes}
use Rattle.source_meaning.specs.Valid.{Calls, at_once, through}
use Rattle.source_meaning.proofs.Calls.{called_by_name, called_is_checked, called_world}
use Rattle.mir_lower.specs.Callees.{RunsAs, DoesBelow, Serves, cost_once_placed, once_placed}
use Rattle.mir_lower.specs.Does.{IsFrameOf, Holds, Landings, Reaches, Nothing}
use Rattle.mir_graph.specs.Graph.{Shape, local_of}
use Rattle.mir_lower.specs.Growth.{IsSound}
use Rattle.mir_lower.specs.Runs.{Point, Entry, Exit, start_of, run_from, local_bytes, Enters, IsFault, IsFit, EndsAfter, BreaksOff, LiesApart, HasGrown, Comes}
use Rattle.mir_lower.specs.Stops.{MakesCall, MakesSomeCall, ReachesCall, IsCut, StopsWithin, StopsFrom, without_arguments}
use Rattle.mir_lower.proofs.Aligned.{are-aligned}
use Rattle.mir_lower.proofs.Arguments.{names-callee, bytes-at, ShowAll, Spares, Shows, ArePlaced, called-places, fills}
use Rattle.mir_lower.proofs.CallLeads.{frame-of, leads-by, called-into, called-alone, entered-lacks, entered-at, goes-back, goes-astray, levels-same, levels-more}
use Rattle.mir_lower.proofs.Covering.{Covers, covers-after, covers-on, covers-astray, covers-unfit, put-fits}
use Rattle.mir_lower.proofs.Fitting.{callee-fits, unfit}
use Rattle.mir_lower.proofs.Holding.{cells, interval-of}
use Rattle.mir_lower.proofs.Lacking.{entering-defined, entering-nests, entering-room, lacks-room, rooms-counted}
use Rattle.mir_lower.proofs.Leaving.{ends-faulting, enters-block}
use Rattle.mir_lower.proofs.Placing.{AreAligned}
use Rattle.mir_lower.proofs.Reaching.{none-entered, comes-trans, grown-trans, stops-before}
use Rattle.mir_lower.proofs.Stopping.{IsPart, cut-onward, defined-by, ends-as, lacks-onward}
use Rattle.mir_lower.proofs.Taking.{called-cells-take, filling-takes-none, grown-more, rooms}
use Rattle.mir_lower.proofs.Within.{call-out, call-within, more-within, none-out, read-within}

-- runs that are the same under every budget
enters-same : (turns : ℕ) (run other : ℕ → Ended) → ((budget : ℕ) → run budget ≡ other budget) → Enters turns other → Enters turns run
enters-same turns run other same enters fewer less = let out = enters fewer less in (out.0, same fewer ∙ out.1)

ends-same : (turns : ℕ) (ends : Ending → Type 0) (run other : ℕ → Ended) → ((budget : ℕ) → run budget ≡ other budget) → EndsAfter turns ends other → EndsAfter turns ends run
ends-same turns ends run other same after =
    record {
      with_more = λ more. let end = after.with_more more in (end.0, end.1, same (turns + more) ∙ end.2);
      with_fewer = enters-same turns run other same after.with_fewer;
    }

-- a callee's run that breaks off is one of its caller, which isn't fit where the callee isn't
breaks-same : (called source : Source) → (IsFit source → IsFit called) → (turns : ℕ) (fault : Fault) (run other : ℕ → Ended) → ((budget : ℕ) → run budget ≡ other budget) → BreaksOff called fault turns other → BreaksOff source fault turns run
breaks-same called source fits turns (Panic word) run other same breaks = ends-same turns (IsFault (error.Panic word)) run other same breaks
breaks-same called source fits turns (Undefined text) run other same breaks = ends-same turns (IsFault (error.UndefinedBehavior text)) run other same breaks
breaks-same called source fits turns NoLayout run other same breaks = λ fit. breaks (fits fit)

-- a source calls the source of a function that it makes a call of
calls-into : (source called : Source) (id : FunctionId) → MakesCall source id → source_of source.world id ≡ Some called → Calls source called
calls-into source called id makes has_body =
    record { e = makes.e; evaluated = makes.evaluated; callee = makes.callee; args = makes.args; is_call = makes.is_call; enters = called_by_name source makes.e makes.callee id called makes.names has_body }

-- where a callee's run stops at a call, so does its caller's
stops-same : (source called : Source) (program : Program) (levels : ℕ) (now : Memory) (few : Cost) (more : ℕ) (memory : Memory) (many : Cost) (run other : ℕ → Ended) → MakesSomeCall source → Calls source called → ((budget : ℕ) → run budget ≡ other budget) →
    few.turns ≤ many.turns → (few.defined ≡ false → many.defined ≡ false) → (now.limit < taken now.stack + few.bytes → memory.limit < taken memory.stack + many.bytes) → levels + few.nesting ≤ more + many.nesting →
    StopsWithin called program levels now few other → StopsWithin source program more memory many run
stops-same source called program levels now few more memory many run other makes calls same turns defined bytes nesting stops =
    let within : stops.blocks ≤ few.turns = stops.within in
    record {
      call = makes;
      blocks = stops.blocks;
      within = omega arith;
      ends = ends-as stops.blocks (IsCut called program levels now few) (IsCut source program more memory many) run
          (cut-onward called source (λ reached on. through calls on) program levels now few more memory many defined bytes nesting)
          (ends-same stops.blocks (IsCut called program levels now few) run other same stops.ends);
    }

-- a run that stops at once
stops-now : (source : Source) (program : Program) (levels : ℕ) (memory : Memory) (cost : Cost) (run : ℕ → Ended) (ending : Ending) → MakesSomeCall source → IsCut source program levels memory cost ending → ((budget : ℕ) → run budget ≡ record { ending = ending; left = budget }) → StopsWithin source program levels memory cost run
stops-now source program levels memory cost run ending makes cut ends =
    record {
      call = makes;
      blocks = 0;
      within = omega arith;
      ends = record {
        with_more = λ more. let plain : 0 + more ≡ more = omega arith in (ending, cut, ap run plain ∙ ends more);
        with_fewer = none-entered run;
      };
    }

-- where a call leads, by the answer to the query for its callee's body
module _ (frame : Frame) (from : Point) (memory : Memory) (call : Calling) (ty : Ty) (typed : mir_type frame.program.world frame.body call.func.kind ≡ Some ty) (id : FunctionId) (named : function_in ty ≡ Some id)
    (at : (budget : ℕ) → run_from frame memory from budget ≡ going_on budget (calls frame memory call)) where
  leads : (answer : Option Told) → answer_to frame.program.answers (body_query (without_arguments id)) ≡ answer → (budget : ℕ) → run_from frame memory from budget ≡ going_on budget (called_by frame memory call (without_arguments id) answer)
  leads answer known budget =
      at budget
      ∙ ap (going_on budget) (leads-by frame memory call id ty typed (names-callee ty id named))
      ∙ ap (λ (a : Option Told). going_on budget (called_by frame memory call (without_arguments id) a)) known

  -- A call of which an argument is out of bounds is a panic, unless the run isn't told the answer: then it stops at the call.
  module _ (source : Source) (whole : Shape) (lands : Landings) (to : Point) (makes : MakesCall source id) (args : some_out frame.program.world frame.body (number_held memory frame.cells) call.args ≡ true) where
    abbrev Panicking : Type 0
    Panicking = Reaches source whole lands frame from to memory (Nothing whole frame) (Faults out_of_bounds no_cost)

    panics : (next : Next) → ((budget : ℕ) → run_from frame memory from budget ≡ going_on budget (led frame (calls_out frame.program.world frame.body (number_held memory frame.cells) call) next)) → Panicking
    panics next by =
        inr (ends-faulting frame memory from mir_out_of_bounds
        (λ budget. by budget ∙ ap (λ (out : Bool). going_on budget (led frame out next)) (call-out frame memory call args)))

    asks-out : (answer : Option Told) → answer_to frame.program.answers (body_query (without_arguments id)) ≡ answer → ((budget : ℕ) → going_on budget (called_by frame memory call (without_arguments id) answer) ≡ record { ending = Asked (body_query (without_arguments id)) frame memory call; left = budget }) → Panicking
    asks-out answer known ends =
        inl (stops-now source frame.program (levels_over frame.below) memory no_cost (run_from frame memory from) (Asked (body_query (without_arguments id)) frame memory call) (id, makes)
        (record { id = id; call = record { caller = source; reached = at_once; makes = makes }; is = refl }) (λ budget. leads answer known budget ∙ ends budget))

    pub call-panics : Panicking
    unfolding called_by going_on
    call-panics = by_answer (answer_to frame.program.answers (body_query (without_arguments id))) refl where
      by_answer : (answer : Option Told) → answer_to frame.program.answers (body_query (without_arguments id)) ≡ answer → Panicking
      by_answer None known = asks-out None known (λ budget. refl)
      by_answer (Some (told.Konst konst)) known = asks-out (Some (told.Konst konst)) known (λ budget. refl)
      by_answer (Some (told.Discriminant number)) known = asks-out (Some (told.Discriminant number)) known (λ budget. refl)
      by_answer (Some (told.Body body)) known = panics (mir_called frame memory call id body.value) (leads (Some (told.Body body)) known)
      by_answer (Some (told.Failed refusal)) known = panics (Stops (Faulted (callee_error id refusal) (entry_of frame call id ∷ trail_of frame))) (leads (Some (told.Failed refusal)) known)

module _ (source : Source) (whole : Shape) (frame : Frame) (lands : Landings) (from : Point) (memory : Memory) (store : Store)
    (sound : IsSound source whole) (is : IsFrameOf whole frame) (holds : Holds whole frame store memory)
    (fuel : ℕ) (serves : Serves (suc fuel) source frame.program)
    (call : Calling) (values : List (List ℕ)) (fit : ShowAll whole frame store call.args values)
    (e : ℕ) (callee : Option ℕ) (ty : Ty) (typed : mir_type frame.program.world frame.body call.func.kind ≡ Some ty)
    (id : FunctionId) (named : function_in ty ≡ Some id) (names : function_called source e callee ≡ Some id) (makes : MakesCall source id)
    (c : Cell) (is-whole : call.destination.projection ≡ empty_id) (found : local_of whole c ≡ Some call.destination.local.0)
    (at : (budget : ℕ) → run_from frame memory from budget ≡ going_on budget (calls frame memory call)) where
  -- the run stops at the call, where at least a cost is counted
  abbrev StopsFor : Cost → Type 0
  StopsFor least = (cost : Cost) → IsPart least cost → StopsFrom source frame from memory cost

  stopped-reaches : (to : Point) (least : Cost) (end : End (Unit {0})) → StopsFor least → Covers least end → Reaches source whole lands frame from to memory (Nothing whole frame) end
  stopped-reaches to least (Go value store cost) stops covers = inl (stops cost covers)
  stopped-reaches to least (Jumps jump store cost) stops covers = inl (stops cost covers)
  stopped-reaches to least (Faults fault cost) stops covers = inl (stops cost covers)
  stopped-reaches to least Stuck stops covers = inr tt
  stopped-reaches to least (More cost) stops covers = inl (stops cost covers)

  -- The callee's body runs in the caller's run, from a store on. What could be read before can be read still, and shares no byte with its
  -- cells but for the destination, which is its return slot.
  record RunsCallee (called : Source) (destination : Option Interval) (start : Store) : Type 0 where
    body : MirBody
    allotted : Cell → Option ℕ
    intervals : List Interval
    now : Memory
    runs : RunsAs called allotted (frame-of frame call id body intervals) (Entry body.start_block.0) now (once_placed called (meaning_from called start fuel))
    grown : HasGrown (body_room called) memory now
    same : (budget : ℕ) → run_from frame memory from budget ≡ run_from (frame-of frame call id body intervals) now (Entry body.start_block.0) budget
    kept : (old : Interval) (bytes : List ℕ) → cell_bytes memory old ≡ Some bytes → cell_bytes now old ≡ Some bytes
    others : (old : Interval) (bytes : List ℕ) → cell_bytes memory old ≡ Some bytes → Spares destination old → LiesApart (frame-of frame call id body intervals) old
    slot : (cell : Interval) → destination ≡ Some cell → slice_get intervals 0 ≡ Some cell

  -- The callee's cells can be placed: its body runs from a store on, where the arguments fit its parameters.
  record EntersCallee (called : Source) (destination : Option Interval) (result : List ℕ) : Type 0 where
    fits : IsFit source → IsFit called
    runs : (start : Store) → started called result values ≡ Some start → RunsCallee called destination start

  abbrev place : Path
  place = record { cell = c }

  -- where the arguments don't fit, the call is stuck, or the callee can't be entered, and then the source isn't fit
  unfit-reaches : (diverging : Bool) (to : Point) (called : Source) → Calls source called → (IsFit source → IsFit called) → (laid : Bool) → is_laid_out called ≡ laid → Reaches source whole lands frame from to memory (Nothing whole frame) (call_ended diverging place store (unfit_meaning laid called))
  unfolding after
  unfit-reaches true to called way fits true tested = inr tt
  unfit-reaches false to called way fits true tested = inr tt
  unfit-reaches true to called way fits false tested = inr (λ fit. unfit called (called_is_checked source way.e way.callee called serves.checked way.enters) tested (fits fit))
  unfit-reaches false to called way fits false tested = inr (λ fit. unfit called (called_is_checked source way.e way.callee called serves.checked way.enters) tested (fits fit))

  -- where a cost is defined in which entering the callee is counted, that of entering it is defined
  counts-entering : (called : Source) → source_of source.world id ≡ Some called → (cost : Cost) → IsPart (entering_cost called) cost → (other : Source) → source_of source.world id ≡ Some other → cost.defined ≡ true → is_cost_defined other ≡ true
  counts-entering called has_body cost part other found counts =
      let both : Some called ≡ Some other = sym has_body ∙ found in
      let same : called ≡ other = cc in
      subst (λ (s : Source). is_cost_defined s ≡ true) same (sym (entering-defined called) ∙ defined-by (entering_cost called).defined cost.defined part.defined counts)

  own-call : ReachesCall source id
  own-call = record { caller = source; reached = at_once; makes = makes }

  -- arguments that show values can be read
  args-within : (args : List MirOperand) (given : List (List ℕ)) → ShowAll whole frame store args given → some_out frame.program.world frame.body (number_held memory frame.cells) args ≡ false
  args-within [] [] shown = none-out frame memory
  args-within [] (bytes ∷ given) shown = absurd shown
  args-within (arg ∷ args) [] shown = absurd shown
  args-within (arg ∷ args) (bytes ∷ given) shown = more-within frame memory arg args (read-within frame memory arg.kind bytes (shown.0 memory holds)) (args-within args given shown.1)

  -- the body that the run is told for the callee; without one the run stops
  told-body : (called : Source) → source_of source.world id ≡ Some called → StopsFor (entering_cost called) ⊎ ((body : MirBody) × DoesBelow (suc fuel) frame.program called body × ((budget : ℕ) → run_from frame memory from budget ≡ going_on budget (mir_called frame memory call id body)))
  unfolding called_by going_on
  told-body called has_body = by_answer (answer_to frame.program.answers (body_query (without_arguments id))) refl where
    told-so : (answer : Option Told) → answer_to frame.program.answers (body_query (without_arguments id)) ≡ answer → (budget : ℕ) → run_from frame memory from budget ≡ going_on budget (called_by frame memory call (without_arguments id) answer)
    told-so = leads frame from memory call ty typed id named at

    within : (next : Next) (budget : ℕ) → going_on budget (led frame (calls_out frame.program.world frame.body (number_held memory frame.cells) call) next) ≡ going_on budget next
    within next budget = ap (λ (out : Bool). going_on budget (led frame out next)) (call-within frame memory call is-whole (args-within call.args values fit))

    asks : (answer : Option Told) → answer_to frame.program.answers (body_query (without_arguments id)) ≡ answer → ((budget : ℕ) → going_on budget (called_by frame memory call (without_arguments id) answer) ≡ record { ending = Asked (body_query (without_arguments id)) frame memory call; left = budget }) → StopsFor (entering_cost called)
    asks answer known ends cost part =
        stops-now source frame.program (levels_over frame.below) memory cost (run_from frame memory from) (Asked (body_query (without_arguments id)) frame memory call) (id, makes) (record { id = id; call = own-call; is = refl }) (λ budget. told-so answer known budget ∙ ends budget)

    by_answer : (answer : Option Told) → answer_to frame.program.answers (body_query (without_arguments id)) ≡ answer → StopsFor (entering_cost called) ⊎ ((body : MirBody) × DoesBelow (suc fuel) frame.program called body × ((budget : ℕ) → run_from frame memory from budget ≡ going_on budget (mir_called frame memory call id body)))
    by_answer None known = inl (asks None known (λ budget. refl))
    by_answer (Some (told.Konst konst)) known = inl (asks (Some (told.Konst konst)) known (λ budget. refl))
    by_answer (Some (told.Discriminant number)) known = inl (asks (Some (told.Discriminant number)) known (λ budget. refl))
    by_answer (Some (told.Body body)) known =
        inr (
          body.value,
          serves.bodies id called body has_body known,
          λ budget. told-so (Some (told.Body body)) known budget ∙ within (mir_called frame memory call id body.value) budget,
        )
    by_answer (Some (told.Failed refusal)) known =
        inl (λ cost part.
        stops-now source frame.program (levels_over frame.below) memory cost (run_from frame memory from) (Faulted (callee_error id refusal) (entry_of frame call id ∷ trail_of frame)) (id, makes)
        (inl (record { id = id; call = own-call; refusal = refusal; told = known; is = refl; counted = counts-entering called has_body cost part }))
        (λ budget. told-so (Some (told.Failed refusal)) known budget ∙ within (Stops (Faulted (callee_error id refusal) (entry_of frame call id ∷ trail_of frame))) budget))

  -- the body is entered: its cells are placed, and the arguments are copied to them; or the run stops
  enters-body : (called : Source) → source_of source.world id ≡ Some called → (body : MirBody) → DoesBelow (suc fuel) frame.program called body → (destination : Option Interval) (result : List ℕ) → Shows called memory destination result →
      ((budget : ℕ) → run_from frame memory from budget ≡ going_on budget (entered frame memory call id body destination)) →
      StopsFor (entering_cost called) ⊎ EntersCallee called destination result
  unfolding going_on started
  enters-body called has_body body below destination result shows leads = by_cells (called_cells frame.program.world body.locals destination memory) refl where
    way : Calls source called
    way = calls-into source called id makes has_body

    world : called.world ≡ source.world
    world = called_world source way.e way.callee called way.enters

    in-world : HirDatabase → Result (List Interval × Memory) MirEvalError
    in-world w = called_cells w body.locals destination memory

    by_cells : (all : Result (List Interval × Memory) MirEvalError) → called_cells frame.program.world body.locals destination memory ≡ all → StopsFor (entering_cost called) ⊎ EntersCallee called destination result
    by_cells (Err e) none =
        inl (λ cost part.
        let bytes = part.bytes in
        let nesting = part.nesting in
        let lacks = lacks-room called frame.program (levels_over frame.below) body.locals destination memory e (called_is_checked source way.e way.callee called serves.checked way.enters) below.counted (ap in-world (world ∙ sym serves.world) ∙ none) in
        stops-now source frame.program (levels_over frame.below) memory cost (run_from frame memory from) (Faulted e (trail_of frame)) (id, makes)
        (inr (lacks-onward called source (λ reached on. through way on) frame.program (levels_over frame.below) memory (entering_cost called) (levels_over frame.below) memory cost part.defined (λ passes. omega arith) (omega arith) e lacks))
        (λ budget. leads budget ∙ ap (going_on budget) (entered-lacks frame memory call id body destination e none)))
    by_cells (Ok all) placed =
        let aligned : AreAligned called.world = subst AreAligned (sym world) (are-aligned source.world serves.checked) in
        let there : called_cells called.world body.locals destination memory ≡ Ok all = ap in-world (world ∙ sym serves.world) ∙ placed in
        let inner : Frame = frame-of frame call id body all.0 in
        let places : ArePlaced called below.allotted inner memory destination result all.1 =
        called-places called aligned below.allotted below.own below.result memory body.locals below.typed destination result shows all there inner refl in
        let slot = below.typed Slot 0 below.result in
        inr (record {
          fits = callee-fits source called way body below.laid_out slot.0 slot.1 slot.2 destination memory all there;
          runs = λ start starts.
              let given : filled called (with_cell_bytes (zeroed called) Slot result) below.params.bound values ≡ Some start =
              sym (ap (option_and_then (λ (bound : List ℕ). filled called (with_cell_bytes (zeroed called) Slot result) bound values)) below.params.binds) ∙ starts in
              let full = fills source whole frame store memory holds called below.allotted below.own inner places.apart places.outside below.params.bound body.param_locals call.args values (with_cell_bytes (zeroed called) Slot result) start all.1 below.params.locals fit
              (record { holds = places.holds; sized = λ b. length-replicate (cell_size called (Binding b)) 0; kept = places.kept }) given in
              record {
                body = body;
                allotted = below.allotted;
                intervals = all.0;
                now = full.0;
                runs = below.does fuel (omega arith) start inner full.0 refl refl places.apart full.2.holds;
                grown = grown-more (rooms called.world body.locals + 0) (body_room called) memory full.0 (let counts = rooms-counted called body.locals below.counted in omega arith)
                    (grown-trans (rooms called.world body.locals) 0 memory all.1 full.0 (called-cells-take called.world body.locals destination memory all there)
                    (filling-takes-none frame all.0 body.param_locals call.args all.1 full.0 full.1));
                same = λ budget. leads budget ∙ ap (going_on budget) (entered-at frame memory call id body destination all full.0 placed full.1);
                kept = full.2.kept;
                others = places.others;
                slot = places.slot;
              };
        })

  -- what the callee's cells and the run of its body take together is what its meaning counts
  both-grown : (called : Source) (cost : Cost) (now later : Memory) → IsPart (entering_cost called) cost → HasGrown (body_room called) memory now → HasGrown (cost.bytes - body_room called) now later → HasGrown cost.bytes memory later
  both-grown called cost now later covers placed grown =
      let bytes = covers.bytes in
      let room = entering-room called in
      let first = placed.stack in
      let second = grown.stack in
      record { stack = omega arith; limit = grown.limit ∙ placed.limit }

  passes-both : (called : Source) (cost : Cost) (now : Memory) → IsPart (entering_cost called) cost → HasGrown (body_room called) memory now → now.limit < taken now.stack + (cost.bytes - body_room called) → memory.limit < taken memory.stack + cost.bytes
  passes-both called cost now covers placed passes =
      let bytes = covers.bytes in
      let room = entering-room called in
      let stack = placed.stack in
      let limit = placed.limit in
      omega arith

  -- the body of a callee that gives a value
  module _ (called : Source) (way : Calls source called) (fits : IsFit source → IsFit called) (next : ℕ) (target : call.target ≡ Some next) (cell : Interval) (there : slice_get frame.cells call.destination.local.0 ≡ Some cell) (start : Store) (into : RunsCallee called (Some cell) start) where
    abbrev Inner : Frame
    Inner = frame-of frame call id into.body into.intervals

    abbrev Returns : End (Unit {0}) → Type 0
    Returns end = Reaches source whole lands frame from (start_of next) memory (Nothing whole frame) end

    stops-back : (cost : Cost) → IsPart (entering_cost called) cost → StopsFrom called Inner (Entry into.body.start_block.0) into.now (cost_once_placed called cost) → StopsFrom source frame from memory cost
    stops-back cost covers stops =
        let levels = levels-same frame call id next target in
        stops-same source called frame.program (levels_over Inner.below) into.now (cost_once_placed called cost) (levels_over frame.below) memory cost (run_from frame memory from) (run_from Inner into.now (Entry into.body.start_block.0)) (id, makes) way into.same
        (omega arith) (λ is. is) (passes-both called cost into.now covers into.grown) (omega arith) stops

    module _ (value : List ℕ) (left : Store) (cost : Cost) (covers : IsPart (entering_cost called) cost) (later : Memory) (comes : Comes Inner cost.turns (cost.bytes - body_room called) (Entry into.body.start_block.0) into.now Exit later) where
      comes-back : Comes frame cost.turns cost.bytes from memory (Entry next) later
      comes-back =
          record {
            with_more = λ more. into.same (cost.turns + more) ∙ comes.with_more more ∙ goes-back frame memory call id into.body next into.intervals later more target;
            with_fewer = enters-same cost.turns (run_from frame memory from) (run_from Inner into.now (Entry into.body.start_block.0)) into.same comes.with_fewer;
            others = λ interval bytes apart read. comes.others interval bytes (into.others interval bytes read (apart call.destination.local.0 cell there)) (into.kept interval bytes read);
            grown = both-grown called cost into.now later covers into.grown comes.grown;
          }

      holds-back : local_bytes Inner later 0 ≡ Some value → Holds whole frame (with_cell_bytes store c value) later
      holds-back given =
          record {
            shows = λ d k h. ⊎_elim
                (λ one.
                let same : call.destination.local.0 ≡ k = (let h' : local_of whole c ≡ Some k = ap (local_of whole) one.0 ∙ h in let both : Some call.destination.local.0 ≡ Some k = sym found ∙ h' in cc) in
                ap (local_bytes frame later) (sym same)
                ∙ bytes-at frame later call.destination.local.0 cell there
                ∙ sym (bytes-at Inner later 0 cell (into.slot cell refl))
                ∙ given
                ∙ ap (λ b. Some (cond b value (store d))) (sym one.1))
                (λ two.
                let other = interval-of frame memory k (store d) (holds.shows d k h) in
                let apart = is.apart call.destination.local.0 k cell other.0 (λ same. two.0 (sound.allotted.own c d call.destination.local.0 found (h ∙ ap Some (sym same)))) there other.1 in
                bytes-at frame later k other.0 other.1
                ∙ comes.others other.0 (store d) (into.others other.0 (store d) other.2 apart) (into.kept other.0 (store d) other.2)
                ∙ ap (λ b. Some (cond b value (store d))) (sym two.1))
                (cells c d);
          }

    gives-value : (value : List ℕ) (left : Store) (cost : Cost) → IsPart (entering_cost called) cost → RunsAs called into.allotted Inner (Entry into.body.start_block.0) into.now (once_placed called (Go value left cost)) → Returns (call_returned (record { cell = c }) store (Go value left cost))
    unfolding after then_do plus
    gives-value value left cost covers does = by_put (put-fits store (record { cell = c }) value) does where
      by_put : (put store (record { cell = c }) value ≡ Go tt (with_cell_bytes store c value) no_cost) ⊎ (put store (record { cell = c }) value ≡ Stuck) → RunsAs called into.allotted Inner (Entry into.body.start_block.0) into.now (once_placed called (Go value left cost)) → Returns (after cost (then_do (put store (record { cell = c }) value) (λ _ last. Go tt last (turns_alone 1))))
      by_put (inl fits) (inl stops) =
          subst (λ (written : End (Unit {0})). Returns (after cost (then_do written (λ _ last. Go tt last (turns_alone 1))))) (sym fits)
          (inl (stops-before source frame from memory cost (plus no_cost (turns_alone 1)) (stops-back cost covers stops)))
      by_put (inl fits) (inr done) =
          subst (λ (written : End (Unit {0})). Returns (after cost (then_do written (λ _ last. Go tt last (turns_alone 1))))) (sym fits)
          (inr (done.0, comes-trans frame cost.turns 1 from (Entry next) memory done.0 (comes-back value left cost covers done.0 done.1) (start_of next) done.0 (enters-block frame done.0 next), holds-back value left cost covers done.0 done.1 done.3, tt))
      by_put (inr stuck) either =
          subst (λ (written : End (Unit {0})). Returns (after cost (then_do written (λ _ last. Go tt last (turns_alone 1))))) (sym stuck) (inr tt)

    gives-back : (end : End (List ℕ)) → Covers (entering_cost called) end → RunsAs called into.allotted Inner (Entry into.body.start_block.0) into.now (once_placed called end) → Returns (call_returned (record { cell = c }) store end)
    gives-back (Go value left cost) covers does = gives-value value left cost covers does
    gives-back (Jumps to left cost) covers does = inr tt
    gives-back Stuck covers does = inr tt
    gives-back (Faults fault cost) covers (inl stops) = inl (stops-back cost covers stops)
    gives-back (Faults fault cost) covers (inr ends) =
        inr (breaks-same called source fits cost.turns fault (run_from frame memory from) (run_from Inner into.now (Entry into.body.start_block.0)) into.same ends)
    gives-back (More cost) covers (inl stops) = inl (stops-back cost covers stops)
    gives-back (More cost) covers (inr enters) = inr (enters-same cost.turns (run_from frame memory from) (run_from Inner into.now (Entry into.body.start_block.0)) into.same enters)

  -- the body of a callee that must not return
  module _ (called : Source) (way : Calls source called) (fits : IsFit source → IsFit called) (target : call.target ≡ None) (start : Store) (into : RunsCallee called None start) (to : Point) where
    abbrev Own : Frame
    Own = frame-of frame call id into.body into.intervals

    abbrev Strays : End (Unit {0}) → Type 0
    Strays end = Reaches source whole lands frame from to memory (Nothing whole frame) end

    stops-astray : (cost : Cost) → IsPart (entering_cost called) cost → StopsFrom called Own (Entry into.body.start_block.0) into.now (cost_once_placed called cost) → StopsFrom source frame from memory (one_level_more cost)
    stops-astray cost covers stops =
        let levels = levels-more frame call id target in
        stops-same source called frame.program (levels_over Own.below) into.now (cost_once_placed called cost) (levels_over frame.below) memory (one_level_more cost) (run_from frame memory from) (run_from Own into.now (Entry into.body.start_block.0)) (id, makes) way into.same
        (omega arith) (λ is. is) (passes-both called cost into.now covers into.grown) (omega arith) stops

    gives-astray : (end : End (List ℕ)) → Covers (entering_cost called) end → RunsAs called into.allotted Own (Entry into.body.start_block.0) into.now (once_placed called end) → Strays (call_diverged end)
    gives-astray (Jumps jump left cost) covers does = inr tt
    gives-astray Stuck covers does = inr tt
    gives-astray (Go value left cost) covers (inl stops) = inl (stops-astray cost covers stops)
    gives-astray (Go value left cost) covers (inr done) =
        inr (record {
          with_more = λ more. (
            Faulted (error.UndefinedBehavior (codes "Diverging function returned")) (trail_of frame),
            (trail_of frame, refl),
            into.same (cost.turns + more) ∙ done.1.with_more more ∙ goes-astray frame memory call id into.body into.intervals done.0 more target,
          );
          with_fewer = enters-same cost.turns (run_from frame memory from) (run_from Own into.now (Entry into.body.start_block.0)) into.same done.1.with_fewer;
        })
    gives-astray (Faults fault cost) covers (inl stops) = inl (stops-astray cost covers stops)
    gives-astray (Faults fault cost) covers (inr ends) =
        inr (breaks-same called source fits cost.turns fault (run_from frame memory from) (run_from Own into.now (Entry into.body.start_block.0)) into.same ends)
    gives-astray (More cost) covers (inl stops) = inl (stops-astray cost covers stops)
    gives-astray (More cost) covers (inr enters) = inr (enters-same cost.turns (run_from frame memory from) (run_from Own into.now (Entry into.body.start_block.0)) into.same enters)

  callee-is : source_called source e callee ≡ source_of source.world id
  unfolding source_called
  callee-is = ap (option_and_then (source_of source.world)) names

  -- what a callee's body means, and what its call does by that
  meant-covers : (called : Source) (start : Store) → Covers (entering_cost called) (callees_at fuel called start)
  meant-covers called start =
      covers-after (entering_cost called) (where_laid (is_laid_out called)
      (returned called ((level_at called fuel (marking (parameter_cells called) (at_root (record { cell = Slot })))).into (root called) (record { cell = Slot }) start)))

  module _ (next : ℕ) (target : call.target ≡ Some next) where
    abbrev Returning : End (Unit {0}) → Type 0
    Returning end = Reaches source whole lands frame from (start_of next) memory (Nothing whole frame) end

    returning-covers : (called : Source) (start : Option Store) → Covers (entering_cost called) (entered_from (callees_at fuel) false called start place store)
    returning-covers called None = covers-on (entering_cost called) place store (unfit_meaning (is_laid_out called) called) (covers-unfit called (is_laid_out called))
    returning-covers called (Some start) = covers-on (entering_cost called) place store (callees_at fuel called start) (meant-covers called start)

    returns-started : (called : Source) → Calls source called → (cell : Interval) → slice_get frame.cells call.destination.local.0 ≡ Some cell → StopsFor (entering_cost called) ⊎ EntersCallee called (Some cell) (store c) →
        (start : Option Store) → started called (store c) values ≡ start → Returning (entered_from (callees_at fuel) false called start place store)
    unfolding meaning_from
    returns-started called way cell there (inl stopped) start starts = stopped-reaches (start_of next) (entering_cost called) (entered_from (callees_at fuel) false called start place store) stopped (returning-covers called start)
    returns-started called way cell there (inr enters) None starts = unfit-reaches false (start_of next) called way enters.fits (is_laid_out called) refl
    returns-started called way cell there (inr enters) (Some start) starts =
        let runs = enters.runs start starts in
        gives-back called way enters.fits next target cell there start runs (callees_at fuel called start) (meant-covers called start) runs.runs

    returns-told : (called : Source) → source_of source.world id ≡ Some called → StopsFor (entering_cost called) ⊎ ((body : MirBody) × DoesBelow (suc fuel) frame.program called body × ((budget : ℕ) → run_from frame memory from budget ≡ going_on budget (mir_called frame memory call id body))) →
        Returning (entered_into (callees_at fuel) false (Some called) (Some values) place store)
    returns-told called has_body (inl stopped) = stopped-reaches (start_of next) (entering_cost called) (entered_into (callees_at fuel) false (Some called) (Some values) place store) stopped (returning-covers called (started called (store c) values))
    returns-told called has_body (inr told) =
        let there = interval-of frame memory call.destination.local.0 (store c) (holds.shows c call.destination.local.0 found) in
        returns-started called (calls-into source called id makes has_body) there.0 there.1
        (enters-body called has_body told.0 told.1 (Some there.0) (store c) there.2
        (λ budget. told.2 budget ∙ ap (going_on budget) (called-into frame memory call id told.0 next there.0 target is-whole there.1)))
        (started called (store c) values) refl

    returns-source : (o : Option Source) → source_of source.world id ≡ o → Returning (entered_into (callees_at fuel) false o (Some values) place store)
    returns-source None has_body = inr tt
    returns-source (Some called) has_body = returns-told called has_body (told-body called has_body)

  -- a call with a target: the callee's body runs, its value lies at the destination, and the target block is entered; or the run stops at
  -- the call, or in the callee
  pub call-returns : (next : ℕ) → call.target ≡ Some next →
      Reaches source whole lands frame from (start_of next) memory (Nothing whole frame) (entered_into (callees_at fuel) false (source_called source e callee) (Some values) (record { cell = c }) store)
  call-returns next target =
      subst (λ (o : Option Source). Returning next target (entered_into (callees_at fuel) false o (Some values) place store)) (sym callee-is) (returns-source next target (source_of source.world id) refl)

  module _ (to : Point) (target : call.target ≡ None) where
    abbrev Straying : End (Unit {0}) → Type 0
    Straying end = Reaches source whole lands frame from to memory (Nothing whole frame) end

    straying-covers : (called : Source) (start : Option Store) → Covers (one_level_more (entering_cost called)) (entered_from (callees_at fuel) true called start place store)
    straying-covers called None = covers-astray (entering_cost called) (unfit_meaning (is_laid_out called) called) (covers-unfit called (is_laid_out called))
    straying-covers called (Some start) = covers-astray (entering_cost called) (callees_at fuel called start) (meant-covers called start)

    -- a level more than what entering counts is counted where that is
    for-more : (called : Source) → StopsFor (entering_cost called) → StopsFor (one_level_more (entering_cost called))
    for-more called stopped cost part = let nesting = part.nesting in stopped cost (record { turns = part.turns; bytes = part.bytes; nesting = omega arith; defined = part.defined })

    strays-started : (called : Source) → Calls source called → StopsFor (entering_cost called) ⊎ EntersCallee called None (zeroed called Slot) →
        (start : Option Store) → started called (zeroed called Slot) values ≡ start → Straying (entered_from (callees_at fuel) true called start place store)
    unfolding meaning_from
    strays-started called way (inl stopped) start starts = stopped-reaches to (one_level_more (entering_cost called)) (entered_from (callees_at fuel) true called start place store) (for-more called stopped) (straying-covers called start)
    strays-started called way (inr enters) None starts = unfit-reaches true to called way enters.fits (is_laid_out called) refl
    strays-started called way (inr enters) (Some start) starts =
        let runs = enters.runs start starts in
        gives-astray called way enters.fits target start runs to (callees_at fuel called start) (meant-covers called start) runs.runs

    -- no level is left for the call
    too-deep : (called : Source) (body : MirBody) → ((budget : ℕ) → run_from frame memory from budget ≡ going_on budget (mir_called frame memory call id body)) → nat_le (suc (levels_over frame.below)) frame.program.nesting ≡ false → StopsFor (one_level_more (entering_cost called))
    unfolding going_on
    too-deep called body leads levels cost part =
        let less = leb-false (suc (levels_over frame.below)) frame.program.nesting levels in
        let nesting = part.nesting in
        let one = entering-nests called in
        stops-now source frame.program (levels_over frame.below) memory cost (run_from frame memory from) (Faulted error.StackOverflow (trail_of frame)) (id, makes) (inr (omega arith))
        (λ budget. leads budget ∙ ap (going_on budget) (called-alone frame memory call id body false target levels))

    strays-told : (called : Source) → source_of source.world id ≡ Some called → StopsFor (entering_cost called) ⊎ ((body : MirBody) × DoesBelow (suc fuel) frame.program called body × ((budget : ℕ) → run_from frame memory from budget ≡ going_on budget (mir_called frame memory call id body))) →
        (deep : Bool) → nat_le (suc (levels_over frame.below)) frame.program.nesting ≡ deep → Straying (entered_into (callees_at fuel) true (Some called) (Some values) place store)
    strays-told called has_body (inl stopped) deep levels = stopped-reaches to (one_level_more (entering_cost called)) (entered_into (callees_at fuel) true (Some called) (Some values) place store) (for-more called stopped) (straying-covers called (started called (zeroed called Slot) values))
    strays-told called has_body (inr told) true levels =
        strays-started called (calls-into source called id makes has_body)
        (enters-body called has_body told.0 told.1 None (zeroed called Slot) refl
        (λ budget. told.2 budget ∙ ap (going_on budget) (called-alone frame memory call id told.0 true target levels)))
        (started called (zeroed called Slot) values) refl
    strays-told called has_body (inr told) false levels =
        stopped-reaches to (one_level_more (entering_cost called)) (entered_into (callees_at fuel) true (Some called) (Some values) place store) (too-deep called told.0 told.2 levels) (straying-covers called (started called (zeroed called Slot) values))

    strays-source : (o : Option Source) → source_of source.world id ≡ o → Straying (entered_into (callees_at fuel) true o (Some values) place store)
    strays-source None has_body = inr tt
    strays-source (Some called) has_body = strays-told called has_body (told-body called has_body) (nat_le (suc (levels_over frame.below)) frame.program.nesting) refl

  -- a call without a target, whose callee must not return
  pub call-strays : (to : Point) → call.target ≡ None →
      Reaches source whole lands frame from to memory (Nothing whole frame) (entered_into (callees_at fuel) true (source_called source e callee) (Some values) (record { cell = c }) store)
  call-strays to target =
      subst (λ (o : Option Source). Straying to target (entered_into (callees_at fuel) true o (Some values) place store)) (sym callee-is) (strays-source to target (source_of source.world id) refl)
