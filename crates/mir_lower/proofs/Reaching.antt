-- Reaching a point through another.
use Rattle.std.proofs.Common.{◌≡◌, ℕ, ◌+◌, ◌-◌, ⊎_elim, inl, inr, refl, ap, ◌∙◌, subst, arith}
use Rattle.std.proofs.lemmas.Bool.{cases_lt}
use Rattle.mir.specs.Memory.{Memory}
use Rattle.mir.specs.declared.errors.MirEvalError as error
use Rattle.mir.specs.Run.{Frame, Ending, Ended, levels_over}
use Rattle.source_meaning.specs.Ends.{Cost, cost_of, End, Fault, Panic, Undefined, NoLayout, Go, Jumps, Faults, Stuck, More, plus, after, then_do}
use Rattle.source_meaning.specs.Source.{Source, Store}
use Rattle.mir_lower.specs.Does.{Holds, Landing, Nowhere, AtPoint, Landings, Lands, Goes, Reaches}
use Rattle.mir_graph.specs.Graph.{Shape}
use Rattle.mir_lower.specs.Runs.{Point, run_from, HasGrown, Comes, Enters, IsFault, EndsAfter, BreaksOff, KeepsOthers}
use Rattle.mir_lower.specs.Stops.{IsCut, StopsFrom}
use Rattle.mir_lower.proofs.Stopping.{cut-before, ends-as, first-part, stops-within}

-- each run enters no block at least
pub none-entered : (run : ℕ → Ended) → Enters 0 run
none-entered run fewer less = absurd (omega arith)

-- memory that stays as it is
pub keeps-refl : (frame : Frame) (memory : Memory) → KeepsOthers frame memory memory
keeps-refl frame memory interval bytes apart found = found

pub not-grown : (memory : Memory) (bytes : ℕ) → HasGrown bytes memory memory
not-grown memory bytes = record { stack = omega arith; limit = refl }

pub grown-trans : (first second : ℕ) (memory middle later : Memory) → HasGrown first memory middle → HasGrown second middle later → HasGrown (first + second) memory later
grown-trans first second memory middle later grown more =
    let one = grown.stack in
    let two = more.stack in
    record { stack = omega arith; limit = more.limit ∙ grown.limit }

pub comes-refl : (frame : Frame) (at : Point) (memory : Memory) {bytes : ℕ} → Comes frame 0 bytes at memory at memory
comes-refl frame at memory {bytes = bytes} =
    record {
      with_more = λ more. let plain : 0 + more ≡ more = omega arith in ap (run_from frame memory at) plain;
      with_fewer = none-entered (run_from frame memory at);
      others = keeps-refl frame memory;
      grown = not-grown memory bytes;
    }

module _ (frame : Frame) (first second : ℕ) (from at : Point) (memory middle : Memory) {bytes : ℕ} (comes : Comes frame first bytes from memory at middle) where
  -- the blocks up to a point, and those behind it
  pub enters-both : Enters second (run_from frame middle at) → Enters (first + second) (run_from frame memory from)
  enters-both rest fewer less =
      ⊎_elim (λ few. comes.with_fewer fewer few)
      (λ many.
      let parts : fewer ≡ first + (fewer - first) = omega arith in
      let out = rest (fewer - first) (omega arith) in
      (out.0, ap (run_from frame memory from) parts ∙ comes.with_more (fewer - first) ∙ out.1))
      (cases_lt fewer first)

  pub comes-trans : (to : Point) (later : Memory) {more : ℕ} → Comes frame second more at middle to later → Comes frame (first + second) (bytes + more) from memory to later
  comes-trans to later {more = placed} next =
      record {
        with_more = λ more.
            let parts : first + second + more ≡ first + (second + more) = omega arith in
            ap (run_from frame memory from) parts ∙ comes.with_more (second + more) ∙ next.with_more more;
        with_fewer = enters-both next.with_fewer;
        others = λ interval bytes apart found. next.others interval bytes apart (comes.others interval bytes apart found);
        grown = grown-trans bytes placed memory middle later comes.grown next.grown;
      }

  pub ends-after : (ends : Ending → Type 0) → EndsAfter second ends (run_from frame middle at) → EndsAfter (first + second) ends (run_from frame memory from)
  ends-after ends next =
      record {
        with_more = λ more.
            let parts : first + second + more ≡ first + (second + more) = omega arith in
            let end = next.with_more more in
            (end.0, end.1, ap (run_from frame memory from) parts ∙ comes.with_more (second + more) ∙ end.2);
        with_fewer = enters-both next.with_fewer;
      }

  -- a run that breaks off from a point on does so after it came to that point
  pub breaks-after : (source : Source) (fault : Fault) → BreaksOff source fault second (run_from frame middle at) → BreaksOff source fault (first + second) (run_from frame memory from)
  breaks-after source (Panic word) next = ends-after (IsFault (error.Panic word)) next
  breaks-after source (Undefined text) next = ends-after (IsFault (error.UndefinedBehavior text)) next
  breaks-after source NoLayout unfit = unfit

-- what comes to the same numbers
same-counts : (frame : Frame) (turns other bytes taken : ℕ) (from to : Point) (memory later : Memory) → turns ≡ other → bytes ≡ taken → Comes frame turns bytes from memory to later → Comes frame other taken from memory to later
same-counts frame turns other bytes taken from to memory later same long comes =
    subst (λ (n : ℕ). Comes frame n taken from memory to later) same (subst (λ (n : ℕ). Comes frame turns n from memory to later) long comes)

-- from a point that is reached over no block
pub comes-from : (frame : Frame) (turns : ℕ) (from at to : Point) (memory middle later : Memory) {bytes : ℕ} → Comes frame 0 0 from memory at middle → Comes frame turns bytes at middle to later → Comes frame turns bytes from memory to later
comes-from frame turns from at to memory middle later {bytes = bytes} comes next =
    same-counts frame (0 + turns) turns (0 + bytes) bytes from to memory later (omega arith) (omega arith) (comes-trans frame 0 turns from at memory middle comes to later next)

-- one point after another, where the second is reached over no block
pub comes-on : (frame : Frame) (turns : ℕ) (from at to : Point) (memory middle later : Memory) {bytes : ℕ} → Comes frame turns bytes from memory at middle → Comes frame 0 0 at middle to later → Comes frame turns bytes from memory to later
comes-on frame turns from at to memory middle later {bytes = bytes} comes next =
    same-counts frame (turns + 0) turns (bytes + 0) bytes from to memory later (omega arith) (omega arith) (comes-trans frame turns 0 from at memory middle comes to later next)

-- where a jump lands from a point on, after the run came to that point
lands-after : (whole : Shape) (frame : Frame) (first second : Cost) (from at : Point) (memory middle : Memory) (store : Store) (landing : Landing) → Comes frame first.turns first.bytes from memory at middle → Lands whole frame at middle store second landing → Lands whole frame from memory store (plus first second) landing
unfolding plus
lands-after whole frame first second from at memory middle store Nowhere comes does = tt
lands-after whole frame first second from at memory middle store (AtPoint point) comes does =
    (does.0, comes-trans frame first.turns second.turns from at memory middle comes point does.0 does.1, does.2)

-- what an end does from a point on, after the run came to that point
goes-after : {A : Type 0} (source : Source) (whole : Shape) (lands : Landings) (frame : Frame) (from at to : Point) (memory middle : Memory) (claim : A → Type 0) (cost : Cost) → Comes frame cost.turns cost.bytes from memory at middle → (end : End A) → Goes source whole lands frame at to middle claim end → Goes source whole lands frame from to memory claim (after cost end)
unfolding after plus
goes-after source whole lands frame from at to memory middle claim cost comes (Go value store then) does =
    (does.0, comes-trans frame cost.turns then.turns from at memory middle comes to does.0 does.1, does.2, does.3)
goes-after source whole lands frame from at to memory middle claim cost comes (Jumps jump store then) does =
    lands-after whole frame cost then from at memory middle store (lands jump) comes does
goes-after source whole lands frame from at to memory middle claim cost comes (Faults fault then) does =
    breaks-after frame cost.turns then.turns from at memory middle comes source fault does
goes-after source whole lands frame from at to memory middle claim cost comes Stuck does = tt
goes-after source whole lands frame from at to memory middle claim cost comes (More then) does = enters-both frame cost.turns then.turns from at memory middle comes does

-- a run that stops at a call within some cost from a point on does so within as much more, after it came to that point
pub stops-after : (source : Source) (frame : Frame) (first second : Cost) (from at : Point) (memory middle : Memory) → Comes frame first.turns first.bytes from memory at middle → StopsFrom source frame at middle second → StopsFrom source frame from memory (plus first second)
unfolding plus
stops-after source frame first second from at memory middle comes stops =
    record {
      call = stops.call;
      blocks = first.turns + stops.blocks;
      within = (let less = stops.within in omega arith);
      ends = ends-as (first.turns + stops.blocks) (IsCut source frame.program (levels_over frame.below) middle second) (IsCut source frame.program (levels_over frame.below) memory (plus first second)) (run_from frame memory from)
          (cut-before source frame memory middle first second comes.grown)
          (ends-after frame first.turns stops.blocks from at memory middle comes (IsCut source frame.program (levels_over frame.below) middle second) stops.ends);
    }

-- or within more, where it stops before
pub stops-before : (source : Source) (frame : Frame) (from : Point) (memory : Memory) (first second : Cost) → StopsFrom source frame from memory first → StopsFrom source frame from memory (plus first second)
stops-before source frame from memory first second stops =
    stops-within source frame.program (levels_over frame.below) memory first (plus first second) (run_from frame memory from) (first-part first second) stops

-- where a run comes to a point, and stops at a call from there on
stopped-after : {A : Type 0} (source : Source) (whole : Shape) (lands : Landings) (frame : Frame) (from at to : Point) (memory middle : Memory) (claim : A → Type 0) (cost : Cost) → Comes frame cost.turns cost.bytes from memory at middle → (end : End A) → StopsFrom source frame at middle (cost_of end) → Reaches source whole lands frame from to memory claim (after cost end)
unfolding after
stopped-after source whole lands frame from at to memory middle claim cost comes (Go value store then) stops = inl (stops-after source frame cost then from at memory middle comes stops)
stopped-after source whole lands frame from at to memory middle claim cost comes (Jumps jump store then) stops = inl (stops-after source frame cost then from at memory middle comes stops)
stopped-after source whole lands frame from at to memory middle claim cost comes (Faults fault then) stops = inl (stops-after source frame cost then from at memory middle comes stops)
stopped-after source whole lands frame from at to memory middle claim cost comes Stuck stops = inr tt
stopped-after source whole lands frame from at to memory middle claim cost comes (More then) stops = inl (stops-after source frame cost then from at memory middle comes stops)

-- where a run stops at a call within what is counted first
pub stopped-before : {A : Type 0} (source : Source) (whole : Shape) (lands : Landings) (frame : Frame) (from to : Point) (memory : Memory) (claim : A → Type 0) (cost : Cost) → StopsFrom source frame from memory cost → (end : End A) → Reaches source whole lands frame from to memory claim (after cost end)
unfolding after
stopped-before source whole lands frame from to memory claim cost stops (Go value store then) = inl (stops-before source frame from memory cost then stops)
stopped-before source whole lands frame from to memory claim cost stops (Jumps jump store then) = inl (stops-before source frame from memory cost then stops)
stopped-before source whole lands frame from to memory claim cost stops (Faults fault then) = inl (stops-before source frame from memory cost then stops)
stopped-before source whole lands frame from to memory claim cost stops Stuck = inr tt
stopped-before source whole lands frame from to memory claim cost stops (More then) = inl (stops-before source frame from memory cost then stops)

-- what an end does from a point on, or where the run stops then, after the run came to that point
pub reaches-after : {A : Type 0} (source : Source) (whole : Shape) (lands : Landings) (frame : Frame) (from at to : Point) (memory middle : Memory) (claim : A → Type 0) (cost : Cost) → Comes frame cost.turns cost.bytes from memory at middle → (end : End A) → Reaches source whole lands frame at to middle claim end → Reaches source whole lands frame from to memory claim (after cost end)
reaches-after source whole lands frame from at to memory middle claim cost comes end =
    ⊎_elim (stopped-after source whole lands frame from at to memory middle claim cost comes end) (λ does. inr (goes-after source whole lands frame from at to memory middle claim cost comes end does))

-- One evaluation, and then another; where the first ends by a jump or a fault, or its fuel runs out, so do both, and where it stops at a
-- call, both do.
pub reaches-then : {A B : Type 0} (source : Source) (whole : Shape) (lands : Landings) (frame : Frame) (from at to : Point) (memory : Memory) (first : A → Type 0) (claim : B → Type 0) (end : End A) (next : A → Store → End B) → Reaches source whole lands frame from at memory first end → ((value : A) (store : Store) (middle : Memory) → Holds whole frame store middle × first value → Reaches source whole lands frame at to middle claim (next value store)) → Reaches source whole lands frame from to memory claim (then_do end next)
unfolding then_do
reaches-then source whole lands frame from at to memory first claim (Go value store cost) next (inr does) rest =
    reaches-after source whole lands frame from at to memory does.0 claim cost does.1 (next value store) (rest value store does.0 (does.2, does.3))
reaches-then source whole lands frame from at to memory first claim (Go value store cost) next (inl stops) rest = stopped-before source whole lands frame from to memory claim cost stops (next value store)
reaches-then source whole lands frame from at to memory first claim (Jumps jump store cost) next (inr does) rest = inr does
reaches-then source whole lands frame from at to memory first claim (Jumps jump store cost) next (inl stops) rest = inl stops
reaches-then source whole lands frame from at to memory first claim (Faults fault cost) next (inr does) rest = inr does
reaches-then source whole lands frame from at to memory first claim (Faults fault cost) next (inl stops) rest = inl stops
reaches-then source whole lands frame from at to memory first claim Stuck next does rest = inr tt
reaches-then source whole lands frame from at to memory first claim (More cost) next (inr does) rest = inr does
reaches-then source whole lands frame from at to memory first claim (More cost) next (inl stops) rest = inl stops
