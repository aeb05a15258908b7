-- How a run of a lowered body ends, by what its source means.
use Rattle.std.proofs.Common.{◌≡◌, ◌≢◌, ℕ, zero, suc, ◌+◌, ◌-◌, ◌<◌, ◌≤◌, ◌⊎◌, ⊎_elim, inl, inr, List, [], Option, Some, None, Result, Ok, Err, refl, sym, ap, ◌∙◌, subst, arith}
use Rattle.std.specs.Prelude.{slice_get}
use Rattle.std.proofs.lemmas.Bool.{cases_lt}
use Rattle.types.specs.declared.ty.Const.{Const}
use Rattle.types.specs.declared.ty.Ty.{Ty}
use Rattle.world.specs.declared.database.HirDatabase.{HirDatabase}
use Rattle.world.specs.declared.limits.Limits.{Limits}
use Rattle.mir.specs.Areas.{first_areas}
use Rattle.mir.specs.declared.answers.Query.{Query}
use Rattle.mir.specs.declared.body.Local.{Local}
use Rattle.mir.specs.declared.body.MirBody.{MirBody}
use Rattle.mir.specs.declared.errors.MirEvalError.{MirEvalError}
use Rattle.mir.specs.declared.errors.MirEvalError as error
use Rattle.mir.specs.declared.errors.TrailEntry.{TrailEntry}
use Rattle.mir.specs.Memory.{Memory}
use Rattle.mir.specs.Run.{Program, Frame, Calling, Ending, Returned, Faulted, Asked, Ended, bad_read, levels_over}
use Rattle.mir_eval.specs.Machine.{on_levels, outcome_of, wrapped}
use Rattle.mir_lower.specs.Callees.{Serves}
use Rattle.mir_lower.specs.Simulates.{EndsOn, Simulates}
use Rattle.mir_lower.specs.Stops.{IsCut, MakesSomeCall, StopsWithin, WasRefused}
use Rattle.mir_lower.specs.Runs.{BreaksOff, EndsAfter, IsFault, IsFit, IsOutOfBlocks, IsReturned}
use Rattle.source_meaning.specs.Ends.{Cost, cost_of, End, Go, Jumps, Faults, Stuck, More, Fault, Panic, Undefined, NoLayout, GoesOn, IsOver, JumpsNowhere}
use Rattle.source_meaning.specs.Entering.{run_cost}
use Rattle.source_meaning.specs.Heights.{height}
use Rattle.source_meaning.specs.Meaning.{Gives, meaning_of}
use Rattle.source_meaning.specs.Source.{Source, Store, node_type, root}
use Rattle.consteval.specs.Answers.{EndsAtCall, EndsEvaluation, EndsFrame, GivesValue, CountsBlocks, IsWithinLimits, IsWithinRoom, constant_of, cost_at}
use Rattle.consteval.specs.Kept.{Kept, Ran, program_of, run_of}
use Rattle.consteval.proofs.Costs.{body-within, run-of}
use Rattle.consteval.proofs.Cuts.{IsCutAt, IsUnlowered, cut-at-call, cut-by-room, wrapped-cut}
use Rattle.consteval.proofs.Faults.{at-call, framed, overflowed}
use Rattle.consteval.proofs.Nesting.{fault-on-levels, has-levels, run-is-high, value-nests, value-on-levels}

-- with as many blocks as it enters, a run reaches its end
runs-with : (turns : ℕ) (ends : Ending → Type 0) (run : ℕ → Ended) → EndsAfter turns ends run → (blocks : ℕ) → turns ≤ blocks → ends (run blocks).ending
runs-with turns ends run reaches blocks le =
    let parts : blocks ≡ turns + (blocks - turns) = omega arith in
    let end = reaches.with_more (blocks - turns) in
    subst ends (sym (ap (λ n. (run n).ending) parts ∙ ap (λ (ended : Ended). ended.ending) end.2)) end.1

-- and then it has entered exactly these
entered-with : (turns : ℕ) (ends : Ending → Type 0) (run : ℕ → Ended) → EndsAfter turns ends run → (blocks : ℕ) → turns ≤ blocks → blocks - (run blocks).left ≡ turns
entered-with turns ends run reaches blocks le =
    let parts : blocks ≡ turns + (blocks - turns) = omega arith in
    let end = reaches.with_more (blocks - turns) in
    let left : (run blocks).left ≡ blocks - turns = ap (λ n. (run n).left) parts ∙ ap (λ (ended : Ended). ended.left) end.2 in
    omega arith

-- a run under a budget reaches its end, or is out of blocks where the budget is too small
runs-under : (turns : ℕ) (ends : Ending → Type 0) (run : ℕ → Ended) → EndsAfter turns ends run → (blocks : ℕ) → ((blocks < turns) × IsOutOfBlocks (run blocks)) ⊎ ends (run blocks).ending
runs-under turns ends run reaches blocks = ⊎_elim (λ less. inl (less, reaches.with_fewer blocks less)) (λ le. inr (runs-with turns ends run reaches blocks le)) (cases_lt blocks turns)

-- what the bytes of a return slot are handed out as
returned-outcome : (world : HirDatabase) (levels : ℕ) (body : MirBody) (slot : Local) (bytes : List ℕ) → slice_get body.locals 0 ≡ Some slot → outcome_of world levels body (Returned bytes) ≡ Some (on_levels (height world slot.ty) levels (Ok (constant_of slot.ty bytes)))
unfolding outcome_of
returned-outcome world levels body slot bytes there =
    ap (λ (found : Option Local). Some (on_levels (elim found [ Some s ↦ height world s.ty | None ↦ 0 ]) levels (elim found [ Some s ↦ Ok (constant_of s.ty bytes) | None ↦ Err (error.InFunction bad_read []) ]))) there

-- a fault is handed out wrapped
faulted-outcome : (world : HirDatabase) (levels : ℕ) (body : MirBody) (e : MirEvalError) (trail : List TrailEntry) → outcome_of world levels body (Faulted e trail) ≡ Some (Err (wrapped e trail))
unfolding outcome_of
faulted-outcome world levels body e trail = refl

-- the error in which a run ends where the meaning ends in a fault; where a body can't be entered for want of a layout, no run comes so far
abbrev pub IsErrorOf : Fault → MirEvalError → Type 0
IsErrorOf (Panic word) e = e ≡ error.Panic word
IsErrorOf (Undefined text) e = e ≡ error.UndefinedBehavior text
IsErrorOf NoLayout e = ⊥

-- such an error is handed out in a frame
wrapped-fault : (fault : Fault) (e : MirEvalError) (trail : List TrailEntry) → IsErrorOf fault e → wrapped e trail ≡ error.InFunction e trail
wrapped-fault (Panic word) e trail of = subst (λ (f : MirEvalError). wrapped f trail ≡ error.InFunction f trail) (sym of) refl
wrapped-fault (Undefined text) e trail of = subst (λ (f : MirEvalError). wrapped f trail ≡ error.InFunction f trail) (sym of) refl
wrapped-fault NoLayout e trail of = absurd of

-- a fault in which the run of a fit source breaks off has an error
has-error : (source : Source) → IsFit source → (fault : Fault) (turns : ℕ) (run : ℕ → Ended) → BreaksOff source fault turns run → (e : MirEvalError) × IsErrorOf fault e
has-error source fit (Panic word) turns run breaks = (error.Panic word, refl)
has-error source fit (Undefined text) turns run breaks = (error.UndefinedBehavior text, refl)
has-error source fit NoLayout turns run breaks = absurd (breaks fit)

-- and the run ends in it
ends-in-error : (source : Source) (fault : Fault) (e : MirEvalError) (turns : ℕ) (run : ℕ → Ended) → IsErrorOf fault e → BreaksOff source fault turns run → EndsAfter turns (IsFault e) run
ends-in-error source (Panic word) e turns run of breaks = subst (λ (f : MirEvalError). EndsAfter turns (IsFault f) run) (sym of) breaks
ends-in-error source (Undefined text) e turns run of breaks = subst (λ (f : MirEvalError). EndsAfter turns (IsFault f) run) (sym of) breaks
ends-in-error source NoLayout e turns run of breaks = absurd of

-- a run that asks hands out nothing
asked-outcome : (world : HirDatabase) (levels : ℕ) (body : MirBody) (q : Query) (frame : Frame) (memory : Memory) (call : Calling) → outcome_of world levels body (Asked q frame memory call) ≡ None
unfolding outcome_of
asked-outcome world levels body q frame memory call = refl

-- what hands out nothing has no outcome
nothing-handed-out : (outcome : Result Const MirEvalError) → ◌≡◌ {A = Option (Result Const MirEvalError)} None (Some outcome) → ⊥
nothing-handed-out outcome h = cc

-- a value is no fault
value-is-no-fault : (konst : Const) (e : MirEvalError) → ◌≡◌ {A = Result Const MirEvalError} (Ok konst) (Err e) → ⊥
value-is-no-fault konst e h = cc

-- a fault is one alone
same-fault : (e other : MirEvalError) → ◌≡◌ {A = Result Const MirEvalError} (Err e) (Err other) → e ≡ other
same-fault e other h = cc

-- and so is an outcome
same-outcome : (one other : Result Const MirEvalError) → ◌≡◌ {A = Option (Result Const MirEvalError)} (Some one) (Some other) → one ≡ other
same-outcome one other h = cc

-- an end that has a meaning, and is no jump
abbrev pub EndsWell : End (List ℕ) → Type 0
EndsWell end = (end ≢ Stuck) × JumpsNowhere end

-- the meaning of a source at some amount of fuel: an end, or a lack of fuel after at least `many` blocks
pub record ComesTo (source : Source) (many : ℕ) (end : End (List ℕ)) : Type 0 where
  pub fuel : ℕ
  pub reached : meaning_of source fuel ≡ end
  pub goes_on : GoesOn many end

module _ (source : Source) (kept : Kept) (limits : Limits) (turns : ℕ) (outcome : Result Const MirEvalError) (body : MirBody) (ran : Ran kept body limits turns outcome)
    (serves : (fuel : ℕ) → Serves fuel source (program_of kept.world limits ran.answers)) (simulates : Simulates source body) (fit : IsFit source)
    (refused : (cost : Cost) (e : MirEvalError) → WasRefused source (program_of kept.world limits ran.answers) cost e → IsUnlowered source cost e) where
  abbrev Run : ℕ → Ended
  Run = run_of body ran.start

  abbrev GoesBy : Program
  GoesBy = program_of kept.world limits ran.answers

  -- how many levels of nesting are left for the value
  abbrev Levels : ℕ
  Levels = limits.nesting - 1

  -- the outcome is a fault in a frame, over some trail
  abbrev FaultsWith : MirEvalError → Type 0
  FaultsWith e = (trail : List TrailEntry) × (outcome ≡ Err (error.InFunction e trail))

  -- what the end of the run is handed out as is the outcome
  handed-out : (result : Result Const MirEvalError) → outcome_of kept.world Levels body (Run limits.blocks).ending ≡ Some result → outcome ≡ result
  handed-out result is = same-outcome outcome result (sym ran.ended ∙ is)

  -- a run out of blocks has that fault
  out-of-blocks : IsOutOfBlocks (Run limits.blocks) → FaultsWith error.ExecutionLimitExceeded
  out-of-blocks out =
      (out.0, handed-out (Err (error.InFunction error.ExecutionLimitExceeded out.0)) (ap (λ (ended : Ended). outcome_of kept.world Levels body ended.ending) out.1 ∙ faulted-outcome kept.world Levels body error.ExecutionLimitExceeded out.0))

  -- one that ends in a fault has that
  faulted : (fault : Fault) (e : MirEvalError) → IsErrorOf fault e → IsFault e (Run limits.blocks).ending → FaultsWith e
  faulted fault e of is =
      (is.0, handed-out (Err (error.InFunction e is.0)) (ap (outcome_of kept.world Levels body) is.1 ∙ faulted-outcome kept.world Levels body e is.0 ∙ ap (λ f. Some (Err f)) (wrapped-fault fault e is.0 of)))

  -- how many levels the value takes
  abbrev Height : ℕ
  Height = height kept.world simulates.slot.0.ty

  -- a run of the source takes a level beside these
  high : (run_cost source).nesting ≡ suc Height
  high = run-is-high source simulates.slot.0.ty simulates.slot.2 ∙ ap (λ (world : HirDatabase). suc (height world simulates.slot.0.ty)) (sym (serves zero).world)

  -- and one that returns bytes has the value of these, where there are levels for it
  returned : (bytes : List ℕ) → IsReturned bytes (Run limits.blocks).ending → outcome ≡ on_levels Height Levels (Ok (constant_of simulates.slot.0.ty bytes))
  returned bytes is = handed-out (on_levels Height Levels (Ok (constant_of simulates.slot.0.ty bytes))) (ap (outcome_of kept.world Levels body) is ∙ returned-outcome kept.world Levels body simulates.slot.0 bytes simulates.slot.1)

  -- what hands out a value hands out no fault
  no-fault : {A : Type 0} (konst : Const) (e : MirEvalError) → outcome ≡ Ok konst → FaultsWith e → A
  no-fault konst e h faults = absurd (value-is-no-fault konst (error.InFunction e faults.0) (sym h ∙ faults.1))

  -- the run stops at a call, within what its source counts at an amount of fuel
  abbrev StopsAt : ℕ → Type 0
  StopsAt fuel = StopsWithin source GoesBy (levels_over []) (first_areas GoesBy.bytes) (cost_at source fuel) Run

  -- a callee isn't entered, by what its source counts at an amount of fuel
  abbrev CutsAt : ℕ → MirEvalError → Type 0
  CutsAt fuel e = IsCutAt source GoesBy (cost_at source fuel) e

  -- why a callee isn't entered is the fault of the run
  cut-so : (fuel : ℕ) (e : MirEvalError) (trail : List TrailEntry) → (Run limits.blocks).ending ≡ Faulted e trail → CutsAt fuel e → (f : MirEvalError) × CutsAt fuel f × FaultsWith f
  cut-so fuel e trail is cut =
      let framed_cut = wrapped-cut source GoesBy (cost_at source fuel) e trail cut in
      (e, cut, (trail, handed-out (Err (error.InFunction e trail)) (ap (outcome_of kept.world Levels body) is ∙ faulted-outcome kept.world Levels body e trail ∙ ap (λ w. Some (Err w)) framed_cut)))

  -- an end at a call is a fault, since a callee isn't entered
  cut-faults : (fuel : ℕ) (ending : Ending) → (Run limits.blocks).ending ≡ ending → IsCut source GoesBy (levels_over []) (first_areas GoesBy.bytes) (cost_at source fuel) ending → (e : MirEvalError) × CutsAt fuel e × FaultsWith e
  cut-faults fuel (Returned bytes) is cut = absurd cut
  cut-faults fuel (Faulted e trail) is cut = ⊎_elim (λ was. cut-so fuel e trail is (inl (refused (cost_at source fuel) e was))) (λ lacks. cut-so fuel e trail is (inr lacks)) cut
  cut-faults fuel (Asked q frame memory call) is cut = absurd (nothing-handed-out outcome (sym (ap (outcome_of kept.world Levels body) is ∙ asked-outcome kept.world Levels body q frame memory call) ∙ ran.ended))

  -- a run that stops at a call faults there, or is out of blocks before
  stops-at : (fuel : ℕ) → StopsAt fuel → ((limits.blocks < (cost_at source fuel).turns) × FaultsWith error.ExecutionLimitExceeded) ⊎ ((e : MirEvalError) × CutsAt fuel e × FaultsWith e)
  stops-at fuel stops =
      ⊎_elim
      (λ out.
      let less = out.0 in
      let within = stops.within in
      inl (omega arith, out-of-blocks out.1))
      (λ cut. inr (cut-faults fuel (Run limits.blocks).ending refl cut))
      (runs-under stops.blocks (IsCut source GoesBy (levels_over []) (first_areas GoesBy.bytes) (cost_at source fuel)) Run stops.ends limits.blocks)

  -- so it hands out no value
  stops-without-value : {A : Type 0} (fuel : ℕ) → StopsAt fuel → (konst : Const) → outcome ≡ Ok konst → A
  stops-without-value fuel stops konst h =
      ⊎_elim (λ out. no-fault konst error.ExecutionLimitExceeded h out.1) (λ cut. no-fault konst cut.0 h cut.2) (stops-at fuel stops)

  -- the run ends as the meaning of the source at some amount of fuel does, or stops at a call
  ends-as : (end : End (List ℕ)) (fuel : ℕ) → meaning_of source fuel ≡ end → StopsAt fuel ⊎ EndsOn source end Run
  ends-as end fuel reached = subst (λ (e : End (List ℕ)). StopsAt fuel ⊎ EndsOn source e Run) reached (simulates.runs fuel GoesBy ran.start (serves fuel) ran.began)

  -- the meaning of the source at some amount of fuel: an end, or a lack of fuel after more blocks than the limit
  abbrev Comes : End (List ℕ) → Type 0
  Comes end = ComesTo source (suc limits.blocks) end

  -- where that is no end, the run is out of blocks
  more-blocks : (cost : Cost) → Comes (More cost) → EndsOn source (More cost) Run → (limits.blocks < cost.turns) × FaultsWith error.ExecutionLimitExceeded
  more-blocks cost comes ends =
      let many = comes.goes_on in
      let less : limits.blocks < cost.turns = omega arith in
      (less, out-of-blocks (ends limits.blocks less))

  -- where that is a fault, so is the outcome, or the run is out of blocks before
  breaks : (fault : Fault) (turns : ℕ) → BreaksOff source fault turns Run → ((limits.blocks < turns) × FaultsWith error.ExecutionLimitExceeded) ⊎ ((e : MirEvalError) × IsErrorOf fault e × FaultsWith e)
  breaks fault turns off =
      let has = has-error source fit fault turns Run off in
      ⊎_elim (λ out. inl (out.0, out-of-blocks out.1)) (λ is. inr (has.0, has.1, faulted fault has.0 has.1 is))
      (runs-under turns (IsFault has.0) Run (ends-in-error source fault has.0 turns Run has.1 off) limits.blocks)

  -- and no value is handed out
  fault-is-no-value : {A : Type 0} (fault : Fault) (turns : ℕ) → BreaksOff source fault turns Run → (konst : Const) → outcome ≡ Ok konst → A
  fault-is-no-value fault turns off konst h =
      ⊎_elim (λ out. no-fault konst error.ExecutionLimitExceeded h out.1) (λ faults. no-fault konst faults.0 h faults.2) (breaks fault turns off)

  -- a value of a run that ends as its source's meaning is what the source means
  value-of-end : (end : End (List ℕ)) → Comes end → EndsOn source end Run → EndsWell end → (konst : Const) → outcome ≡ Ok konst → GivesValue source konst
  value-of-end (Go bytes store cost) comes ends well konst h =
      ⊎_elim (λ out. no-fault konst error.ExecutionLimitExceeded h (out-of-blocks out.1))
      (λ is. record {
        ty = simulates.slot.0.ty;
        typed = simulates.slot.2;
        bytes = bytes;
        store = store;
        cost = cost;
        gives = record { fuel = comes.fuel; reached = comes.reached; over = tt };
        same = value-on-levels Height Levels (constant_of simulates.slot.0.ty bytes) konst (sym h ∙ returned bytes is);
      })
      (runs-under cost.turns (IsReturned bytes) Run ends limits.blocks)
  value-of-end (Jumps to store cost) comes ends well konst h = absurd well.1
  value-of-end (Faults fault cost) comes ends well konst h = fault-is-no-value fault cost.turns ends konst h
  value-of-end Stuck comes ends well konst h = absurd (well.0 refl)
  value-of-end (More cost) comes ends well konst h = no-fault konst error.ExecutionLimitExceeded h (more-blocks cost comes ends).1

  -- a run that handed out a value entered as many blocks as the source counts
  counts-of-end : (end : End (List ℕ)) → Comes end → EndsOn source end Run → EndsWell end → (konst : Const) → outcome ≡ Ok konst → CountsBlocks source (limits.blocks - (Run limits.blocks).left)
  counts-of-end (Go bytes store cost) comes ends well konst h =
      ⊎_elim (λ less. no-fault konst error.ExecutionLimitExceeded h (out-of-blocks (ends.with_fewer limits.blocks less)))
      (λ le. record { bytes = bytes; store = store; cost = cost; gives = record { fuel = comes.fuel; reached = comes.reached; over = tt }; same = entered-with cost.turns (IsReturned bytes) Run ends limits.blocks le })
      (cases_lt limits.blocks cost.turns)
  counts-of-end (Jumps to store cost) comes ends well konst h = absurd well.1
  counts-of-end (Faults fault cost) comes ends well konst h = fault-is-no-value fault cost.turns ends konst h
  counts-of-end Stuck comes ends well konst h = absurd (well.0 refl)
  counts-of-end (More cost) comes ends well konst h = no-fault konst error.ExecutionLimitExceeded h (more-blocks cost comes ends).1

  -- a fault in a frame is how the evaluation can end where its frame can end so
  framed-so : (e inner : MirEvalError) → FaultsWith inner → EndsFrame source limits inner → outcome ≡ Err e → EndsEvaluation source limits e
  framed-so e inner faults ends h = subst (EndsEvaluation source limits) (sym (same-fault e (error.InFunction inner faults.0) (sym h ∙ faults.1))) (framed source limits inner faults.0 ends)

  -- a run that was out of blocks passes the limit
  passes : (end : End (List ℕ)) (e : MirEvalError) → Comes end → limits.blocks < (cost_of end).turns → FaultsWith error.ExecutionLimitExceeded → outcome ≡ Err e → EndsEvaluation source limits e
  passes end e comes less faults h =
      framed-so e error.ExecutionLimitExceeded faults (comes.fuel, subst (λ (reached : End (List ℕ)). limits.blocks < (cost_of reached).turns) (sym comes.reached) less) h

  -- a value for which there are too few levels of nesting passes the limit
  too-deep : (value : Const) (e : MirEvalError) → Err e ≡ on_levels Height Levels (Ok value) → EndsEvaluation source limits e
  too-deep value e h =
      let none = fault-on-levels Height Levels value e h in
      let left = none.0 in
      subst (EndsEvaluation source limits) (sym none.1) (overflowed source limits (omega (arith, left, high)))

  -- a fault that the source means, as a frame's error
  frame-of : (fault : Fault) (e : MirEvalError) (cost : Cost) → IsErrorOf fault e → Gives source (Faults fault cost) → EndsFrame source limits e
  frame-of (Panic word) e cost of gives = subst (EndsFrame source limits) (sym of) (record { cost = cost; gives = gives })
  frame-of (Undefined text) e cost of gives = subst (EndsFrame source limits) (sym of) (record { cost = cost; gives = gives })
  frame-of NoLayout e cost of gives = absurd of

  -- a fault of such a run is one that the source means, or a limit that it passes
  fault-of-end : (end : End (List ℕ)) → Comes end → EndsOn source end Run → EndsWell end → (e : MirEvalError) → outcome ≡ Err e → EndsEvaluation source limits e
  fault-of-end (Go bytes store cost) comes ends well e h =
      ⊎_elim (λ out. passes (Go bytes store cost) e comes out.0 (out-of-blocks out.1) h) (λ is. too-deep (constant_of simulates.slot.0.ty bytes) e (sym h ∙ returned bytes is))
      (runs-under cost.turns (IsReturned bytes) Run ends limits.blocks)
  fault-of-end (Jumps to store cost) comes ends well e h = absurd well.1
  fault-of-end (Faults fault cost) comes ends well e h =
      ⊎_elim (λ out. passes (Faults fault cost) e comes out.0 out.1 h)
      (λ faults. framed-so e faults.0 faults.2 (frame-of fault faults.0 cost faults.1 (record { fuel = comes.fuel; reached = comes.reached; over = tt })) h)
      (breaks fault cost.turns ends)
  fault-of-end Stuck comes ends well e h = absurd (well.0 refl)
  fault-of-end (More cost) comes ends well e h = let out = more-blocks cost comes ends in passes (More cost) e comes out.0 out.1 h

  -- so does one that was out of blocks before a call, and one that stopped at a call ends in what the call was refused for
  fault-of-stop : (fuel : ℕ) → StopsAt fuel → (e : MirEvalError) → outcome ≡ Err e → EndsEvaluation source limits e
  fault-of-stop fuel stops e h =
      ⊎_elim
      (λ out.
      let run = run-of source fuel in
      let same = run.turns in
      let less = out.0 in
      framed-so e error.ExecutionLimitExceeded out.1 (fuel, omega arith) h)
      (λ cut. framed-so e cut.0 cut.2 (at-call source limits cut.0 stops.call (cut-at-call source GoesBy limits refl refl fuel cut.0 cut.1)) h)
      (stops-at fuel stops)

  -- a value that was handed out is what the source means
  pub gives-value : (end : End (List ℕ)) → Comes end → EndsWell end → (konst : Const) → outcome ≡ Ok konst → GivesValue source konst
  gives-value end comes well konst h =
      ⊎_elim (λ stops. stops-without-value comes.fuel stops konst h) (λ on. value-of-end end comes on well konst h) (ends-as end comes.fuel comes.reached)

  -- over exactly as many blocks as that counts
  pub counts-value : (end : End (List ℕ)) → Comes end → EndsWell end → (konst : Const) → outcome ≡ Ok konst → CountsBlocks source (limits.blocks - (Run limits.blocks).left)
  counts-value end comes well konst h =
      ⊎_elim (λ stops. stops-without-value comes.fuel stops konst h) (λ on. counts-of-end end comes on well konst h) (ends-as end comes.fuel comes.reached)

  -- a fault that was handed out is one that the source means, or the limit that it passes, or why a call isn't entered
  pub gives-fault : (end : End (List ℕ)) → Comes end → EndsWell end → (e : MirEvalError) → outcome ≡ Err e → EndsEvaluation source limits e
  gives-fault end comes well e h =
      ⊎_elim (λ stops. fault-of-stop comes.fuel stops e h) (λ on. fault-of-end end comes on well e h) (ends-as end comes.fuel comes.reached)

  -- where the cost at an amount of fuel is within the limits on bytes and nesting, a run that stops at a call is out of blocks before
  stops-in-room : (fuel : ℕ) → IsWithinRoom (cost_at source fuel) limits → StopsAt fuel → (limits.blocks < (cost_at source fuel).turns) × FaultsWith error.ExecutionLimitExceeded
  stops-in-room fuel room stops =
      ⊎_elim (λ out. out) (λ cut. absurd (cut-by-room source GoesBy limits refl refl fuel room cut.0 cut.1)) (stops-at fuel stops)

  -- within all limits it doesn't stop
  within-goes-on : (end : End (List ℕ)) (fuel : ℕ) → meaning_of source fuel ≡ end → IsWithinLimits (cost_of end) limits → EndsOn source end Run
  within-goes-on end fuel reached within =
      ⊎_elim
      (λ stops.
      let inner = body-within source limits fuel end reached within in
      let out = stops-in-room fuel inner.room stops in
      let less = out.0 in
      let most = inner.turns in
      absurd (omega arith))
      (λ on. on)
      (ends-as end fuel reached)

  -- a value that is within the limits is handed out
  pub completes-value : (ty : Ty) (bytes : List ℕ) (store : Store) (cost : Cost) → node_type source (root source) ≡ Some ty → Gives source (Go bytes store cost) → IsWithinLimits cost limits → outcome ≡ Ok (constant_of ty bytes)
  completes-value ty bytes store cost typed gives within =
      let of_type : simulates.slot.0.ty ≡ ty = (let slot = simulates.slot.2 in cc) in
      let deep = value-nests source bytes store cost gives in
      let room = within.room in
      let bound = room.nesting in
      returned bytes (runs-with cost.turns (IsReturned bytes) Run (within-goes-on (Go bytes store cost) gives.fuel gives.reached within) limits.blocks within.turns)
      ∙ has-levels Height Levels (Ok (constant_of simulates.slot.0.ty bytes)) (omega (arith, deep, high, bound))
      ∙ ap (λ t. Ok (constant_of t bytes)) of_type

  -- and so is a fault that has an error
  pub completes-fault : (fault : Fault) (e : MirEvalError) (cost : Cost) → IsErrorOf fault e → Gives source (Faults fault cost) → IsWithinLimits cost limits → FaultsWith e
  completes-fault fault e cost of gives within =
      let ends = ends-in-error source fault e cost.turns Run of (within-goes-on (Faults fault cost) gives.fuel gives.reached within) in
      faulted fault e of (runs-with cost.turns (IsFault e) Run ends limits.blocks within.turns)

  -- a run ends past the limit on blocks where its source counts more blocks
  past-end : (end : End (List ℕ)) → EndsOn source end Run → EndsWell end → limits.blocks < (cost_of end).turns → IsOutOfBlocks (Run limits.blocks)
  past-end (Go bytes store cost) ends well less = ends.with_fewer limits.blocks less
  past-end (Jumps to store cost) ends well less = absurd well.1
  past-end (Faults fault cost) ends well less =
      let has = has-error source fit fault cost.turns Run ends in
      let so = ends-in-error source fault has.0 cost.turns Run has.1 ends in
      so.with_fewer limits.blocks less
  past-end Stuck ends well less = absurd (well.0 refl)
  past-end (More cost) ends well less = ends limits.blocks less

  -- and where the rest is within the limits, such a run does so, whatever calls it makes
  pub passes-blocks : (fuel : ℕ) → EndsWell (meaning_of source fuel) → limits.blocks < (cost_at source fuel).turns → IsWithinRoom (cost_at source fuel) limits → FaultsWith error.ExecutionLimitExceeded
  passes-blocks fuel well less room =
      ⊎_elim (λ stops. (stops-in-room fuel room stops).1)
      (λ on.
      let run = run-of source fuel in
      let same = run.turns in
      out-of-blocks (past-end (meaning_of source fuel) on well (omega arith)))
      (ends-as (meaning_of source fuel) fuel refl)

  -- the run stopped at a call
  abbrev pub Stopped : Type 0
  Stopped = MakesSomeCall source × (fault : MirEvalError) × EndsAtCall source limits fault × FaultsWith fault

  -- where the source has no end, the run is out of blocks
  endless-of-end : (end : End (List ℕ)) → Comes end → EndsOn source end Run → ¬ IsOver end → FaultsWith error.ExecutionLimitExceeded
  endless-of-end (Go bytes store cost) comes ends none = absurd (none tt)
  endless-of-end (Jumps to store cost) comes ends none = absurd (none tt)
  endless-of-end (Faults fault cost) comes ends none = absurd (none tt)
  endless-of-end Stuck comes ends none = absurd (none tt)
  endless-of-end (More cost) comes ends none = (more-blocks cost comes ends).1

  -- or it stopped at a call
  pub gives-no-end : (end : End (List ℕ)) → Comes end → ¬ IsOver end → FaultsWith error.ExecutionLimitExceeded ⊎ Stopped
  gives-no-end end comes endless =
      ⊎_elim
      (λ stops.
      ⊎_elim (λ out. inl out.1)
      (λ cut. inr (stops.call, cut.0, cut-at-call source GoesBy limits refl refl comes.fuel cut.0 cut.1, cut.2))
      (stops-at comes.fuel stops))
      (λ on. inl (endless-of-end end comes on endless))
      (ends-as end comes.fuel comes.reached)
