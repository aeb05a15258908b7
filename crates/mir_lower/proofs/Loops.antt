-- Loops and labelled blocks: what stands inside is evaluated again and again, until a jump leaves it or a labelled block ends.
use Rattle.std.proofs.Common.{◌≡◌, ℕ, zero, suc, ◌<◌, Bool, true, false, List, [], ◌∷◌, ◌++◌, length, Contains, Option, Some, None, refl, sym, ap, ◌∙◌, subst, arith, append-nil, inl, inr, ◌⊎◌}
use Rattle.std.specs.Prelude.{All, ◌==◌, if◌then◌else◌, flat_map, IfSome}
use Rattle.std.proofs.lemmas.Bool.Decides.{nat_tests}
use Rattle.std.proofs.lemmas.List.Elements.{All-head, All-tail, Contains-append_right}
use Rattle.types.specs.declared.ids.LabelId.{LabelId}
use Rattle.mir.specs.Memory.{Memory}
use Rattle.mir.specs.Run.{Frame}
use Rattle.source_meaning.specs.Around.{Around, Target, inside}
use Rattle.source_meaning.specs.Core as expr
use Rattle.source_meaning.specs.Ends.{plus, turns_alone, End, Go, Jumps, Break, Continue, Return, Faults, Stuck, More, after}
use Rattle.source_meaning.specs.Events.{marked_as_place, marked_in_block}
use Rattle.source_meaning.specs.Meaning.{level_at, callees_at, into_of, caught, turn_of, block_into}
use Rattle.source_meaning.specs.Source.{Source, node, Cell, Store, drops}
use Rattle.source_meaning.specs.Valid.{own, inside as needed_inside, sized_parts, IsLaidOutNode, NeedsLayout}
use Rattle.source_meaning.proofs.Marks.{loop_marks, labelled_marks}
use Rattle.source_meaning.proofs.Parts.{sized_part_is_part, block_parts}
use Rattle.mir_lower.specs.Branches.{HasGoneOn}
use Rattle.mir.specs.declared.operand.Place.{Place as GraphPlace}
use Rattle.mir_lower.specs.Does.{here, IsFrameOf, Holds, AtPoint, Landings, Lands, Reaches, Nothing, LeadsTo, FrontAll, Stands}
use Rattle.mir_graph.specs.Graph.{Shape, OpenTarget, local_of, with_scope, with_targets}
use Rattle.mir_lower.specs.Growth.{Grows, Spares, IsInside, IsSound, IsReady}
use Rattle.mir_lower.specs.Jumps.{IsEntered}
use Rattle.mir_lower.specs.Leaving.{Idles}
use Rattle.mir_lower.specs.Lowered.{IsPlainWithin, LaysOut, LowersOwn, LowersPlace, LowersStatements, LowersTail}
use Rattle.mir_lower.specs.Runs.{Point, Entry, start_of, Comes}
use Rattle.mir_lower.proofs.Blocks.{scope-idles, does-block, lays-block}
use Rattle.mir_lower.proofs.Growing.{grows-trans, with_scope-grows}
use Rattle.mir_lower.proofs.Jumps.{with_targets-grows, here-targets, spares-retargeted}
use Rattle.mir_lower.proofs.Branches.{spares-gone}
use Rattle.mir_lower.proofs.Laid.{layouts-before, plain-part, one-of}
use Rattle.mir_lower.proofs.Leaving.{enters-block}
use Rattle.mir_lower.proofs.Reaching.{none-entered, comes-on, comes-trans, stops-before, stopped-before, reaches-after, reaches-then}
use Rattle.mir_lower.proofs.Sparing.{spares-trans, scoped-spares}
use Rattle.mir_lower.proofs.Steps.{local_of-grows, reaches-from, does-form}
use Rattle.source_meaning.specs.Steps.{parts_of, statement_parts}
use Rattle.world.specs.declared.body.Statement.{Statement}
use Rattle.types.specs.declared.ids.ExprId.{ExprId}
use Rattle.mir_lower.specs.Callees.{Serves}
use Rattle.mir_lower.proofs.Serving.{serves-less}
use Rattle.mir_lower.specs.Stops.{StopsFrom}

-- what a loop or a labelled block evaluates is a part of it
pub body-part : (source : Source) (e : ℕ) (label : Option LabelId) (body : ℕ) → node source e ≡ Some (expr.Loop label body) → Contains (parts_of (node source e)) body
body-part source e label body form = subst (λ n. Contains (parts_of n) body) (sym form) (0, omega arith, refl)

pub labelled-tail-part : (source : Source) (e : ℕ) (label : LabelId) (statements : List Statement) (tail : Option ExprId) → node source e ≡ Some (expr.Labelled label statements tail) → IfSome tail (λ one. Contains (parts_of (node source e)) one.0)
labelled-tail-part source e label statements None form = tt
labelled-tail-part source e label statements (Some one) form =
    subst (λ n. Contains (parts_of n) one.0) (sym form)
    (subst (λ (parts : List ℕ). Contains parts one.0) (sym (block_parts statements (Some one))) (Contains-append_right (flat_map statement_parts statements) (one.0 ∷ []) one.0 (0, omega arith, refl)))

-- where jumps land inside a loop or a labelled block: those to it before its own blocks, and others where they land outside
abbrev pub lands_inside : (e begin end : ℕ) → Landings → Landings
lands_inside e begin end lands (Break target) = if target == e then AtPoint (Entry end) else lands (Break target)
lands_inside e begin end lands (Continue target) = if target == e then AtPoint (Entry begin) else lands (Continue target)
lands_inside e begin end lands Return = lands Return

module _ (source : Source) (whole : Shape) (frame : Frame) (lands : Landings) (e begin end : ℕ) (from at to : Point) (memory : Memory) where
  -- what a loop or a labelled block catches leads behind it or to its beginning
  pub reaches-caught : (again ended : Store → End (Unit {0})) → ((store : Store) (later : Memory) → Holds whole frame store later → Reaches source whole lands frame (Entry begin) to later (Nothing whole frame) (again store)) →
      ((store : Store) (later : Memory) → Holds whole frame store later → Reaches source whole lands frame at to later (Nothing whole frame) (ended store)) → ((later : Memory) → Comes frame 1 0 (Entry end) later to later) →
      (turn : End (Unit {0})) → Reaches source whole (lands_inside e begin end lands) frame from at memory (Nothing whole frame) turn → Reaches source whole lands frame from to memory (Nothing whole frame) (caught e again ended turn)
  unfolding plus
  reaches-caught again ended again-does ended-does leaves (Go done store cost) (inl stops) = stopped-before source whole lands frame from to memory (Nothing whole frame) cost stops (ended store)
  reaches-caught again ended again-does ended-does leaves (Go done store cost) (inr does) =
      reaches-after source whole lands frame from at to memory does.0 (Nothing whole frame) cost does.1 (ended store) (ended-does store does.0 does.2)
  reaches-caught again ended again-does ended-does leaves (Jumps (Break target) store cost) does = by-test (target == e) does where
    by-test : (test : Bool) → StopsFrom source frame from memory cost ⊎ Lands whole frame from memory store cost (if test then AtPoint (Entry end) else lands (Break target)) → Reaches source whole lands frame from to memory (Nothing whole frame) (if test then Go tt store (plus cost (turns_alone 1)) else Jumps (Break target) store cost)
    by-test true (inl stops) = inl (stops-before source frame from memory cost (turns_alone 1) stops)
    by-test true (inr lands-there) = inr (lands-there.0, comes-trans frame cost.turns 1 from (Entry end) memory lands-there.0 lands-there.1 to lands-there.0 (leaves lands-there.0), lands-there.2, tt)
    by-test false (inl stops) = inl stops
    by-test false (inr lands-there) = inr lands-there
  reaches-caught again ended again-does ended-does leaves (Jumps (Continue target) store cost) does = by-test (target == e) does where
    by-test : (test : Bool) → StopsFrom source frame from memory cost ⊎ Lands whole frame from memory store cost (if test then AtPoint (Entry begin) else lands (Continue target)) → Reaches source whole lands frame from to memory (Nothing whole frame) (if test then after cost (again store) else Jumps (Continue target) store cost)
    by-test true (inl stops) = stopped-before source whole lands frame from to memory (Nothing whole frame) cost stops (again store)
    by-test true (inr lands-there) = reaches-after source whole lands frame from (Entry begin) to memory lands-there.0 (Nothing whole frame) cost lands-there.1 (again store) (again-does store lands-there.0 lands-there.2)
    by-test false (inl stops) = inl stops
    by-test false (inr lands-there) = inr lands-there
  reaches-caught again ended again-does ended-does leaves (Jumps Return store cost) does = does
  reaches-caught again ended again-does ended-does leaves (Faults fault cost) does = does
  reaches-caught again ended again-does ended-does leaves Stuck does = inr tt
  reaches-caught again ended again-does ended-does leaves (More cost) does = does

-- a point that leads on over no block, where the evaluation ends with a value
reaches-on : (source : Source) (whole : Shape) (lands : Landings) (frame : Frame) (from at to : Point) (memory : Memory) (claim : Unit {0} → Type 0) → ((later : Memory) → Comes frame 0 0 at later to later) → (end : End (Unit {0})) → Reaches source whole lands frame from at memory claim end → Reaches source whole lands frame from to memory claim end
reaches-on source whole lands frame from at to memory claim on (Go value store cost) (inl stops) = inl stops
reaches-on source whole lands frame from at to memory claim on (Go value store cost) (inr does) = inr (does.0, comes-on frame cost.turns from at to memory does.0 does.0 does.1 (on does.0), does.2, does.3)
reaches-on source whole lands frame from at to memory claim on (Jumps jump store cost) does = does
reaches-on source whole lands frame from at to memory claim on (Faults fault cost) does = does
reaches-on source whole lands frame from at to memory claim on Stuck does = inr tt
reaches-on source whole lands frame from at to memory claim on (More cost) does = does

same-number : (n : ℕ) → (n == n) ≡ true
same-number n = grind (arith, nat_tests)

unlike : (m n : ℕ) → n < m → (m == n) ≡ false
unlike m n less = grind (arith, nat_tests)

-- jumps to the loops and labelled blocks further out land where they do outside
fronts-outer : (old whole : Shape) (lands : Landings) (e begin end : ℕ) (targets : List OpenTarget) (fronts : List Target) → All (IsInside old e) targets → FrontAll whole lands targets fronts → FrontAll whole (lands_inside e begin end lands) targets fronts
fronts-outer old whole lands e begin end [] [] insides all = tt
fronts-outer old whole lands e begin end [] (front ∷ others) insides all = absurd all
fronts-outer old whole lands e begin end (target ∷ outer) [] insides all = absurd all
fronts-outer old whole lands e begin end (target ∷ outer) (front ∷ others) insides all =
    let inside = All-head (IsInside old e) target outer insides in
    let other : (target.opened.node == e) ≡ false = unlike target.opened.node e inside.above in
    let first = all.0 in (
      record {
        opened = first.opened;
        local = first.local;
        kept = first.kept;
        breaks = ap (λ (test : Bool). if test then AtPoint (Entry end) else lands (Break target.opened.node)) other ∙ first.breaks;
        continues = ap (λ (test : Bool). if test then AtPoint (Entry begin) else lands (Continue target.opened.node)) other ∙ first.continues;
      },
      fronts-outer old whole lands e begin end outer others (All-tail (IsInside old e) target outer insides) all.1,
    )

-- what stands around the code inside a loop or a labelled block that was entered
pub stands-inside : (source : Source) (s0 s1 whole : Shape) (lands : Landings) (around : Around) (e : ℕ) (label : Option LabelId) (target : OpenTarget) (c : Cell) → IsReady source s0 e → IsEntered source s0 s1 target →
    target.opened ≡ record { node = e; label = label } → local_of whole c ≡ Some target.local → Stands whole s0 lands around → Stands whole s1 (lands_inside e target.begin_block target.end_block lands) (inside e label (record { cell = c }) around)
stands-inside source s0 s1 whole lands around e label target c ready entered opened local stands =
    let own-node : target.opened.node ≡ e = ap (λ o. o.node) opened in
    let own-test : (target.opened.node == e) ≡ true = ap (λ (n : ℕ). n == e) own-node ∙ same-number e in
    record {
      marks = stands.marks ∙ sym entered.scope;
      result = stands.result;
      returns = stands.returns;
      targets = subst (λ (targets : List OpenTarget). FrontAll whole (lands_inside e target.begin_block target.end_block lands) targets (record { opened = record { node = e; label = label }; path = record { cell = c }; kept = length around.marks } ∷ around.targets)) (sym entered.targets) (
        record {
          opened = sym opened;
          local = local;
          kept = ap length stands.marks ∙ sym entered.kept;
          breaks = ap (λ (test : Bool). if test then AtPoint (Entry target.end_block) else lands (Break target.opened.node)) own-test;
          continues = ap (λ (test : Bool). if test then AtPoint (Entry target.begin_block) else lands (Continue target.opened.node)) own-test;
        },
        fronts-outer s0 whole lands e target.begin_block target.end_block s0.targets around.targets ready.around.inside stands.targets,
      );
    }

-- what is kept by code inside that was entered and left
module _ (source : Source) (s0 s1 s2 s3 s4 : Shape) (to : ℕ) (target : OpenTarget) (entered : IsEntered source s0 s1 target) (grown : Grows s1 s2) (spared : Spares s1 s2) (turns : ℕ) (left : Idles source (with_scope s1.scope s2) s3 turns) (gone : HasGoneOn source (with_targets s0.targets s3) s4 to target.end_block) where
  pub inner-grows : Grows s3 s4
  inner-grows = grows-trans s3 (with_targets s0.targets s3) s4 (with_targets-grows s0.targets s3) gone.grows

  pub inner-grows2 : Grows s2 s4
  inner-grows2 = grows-trans s2 (with_scope s1.scope s2) s4 (with_scope-grows s1.scope s2) (grows-trans (with_scope s1.scope s2) s3 s4 left.grows inner-grows)

  pub inner-grows0 : Grows s0 s4
  inner-grows0 = grows-trans s0 s1 s4 entered.grows (grows-trans s1 s2 s4 grown inner-grows2)

  pub inner-spares : Spares s0 s4
  inner-spares =
      let inner : Spares s1 s3 = scoped-spares s1 s2 s3 spared s1.scope left.spares in
      let up-to : Spares s0 (with_targets s0.targets s3) = spares-trans s0 (with_targets s0.targets s1) (with_targets s0.targets s3) entered.spares (spares-retargeted s1 s3 s0.targets inner) in
      spares-gone up-to gone entered.end_new

  pub inner-scope : s4.scope ≡ s0.scope
  inner-scope = gone.scope ∙ left.scope ∙ entered.scope

  -- the end of the inner code leads on
  pub inner-heads : (whole : Shape) (frame : Frame) → Grows s4 whole → IsFrameOf whole frame → (memory : Memory) → Comes frame 0 0 (here s3) memory (Entry to) memory
  inner-heads whole frame grows is memory =
      subst (λ (p : Point). Comes frame 0 0 p memory (Entry to) memory) (here-targets s0.targets s3) (gone.heads whole frame grows is memory)

  -- and the block behind is entered
  pub inner-leaves : (frame : Frame) (memory : Memory) → Comes frame 1 0 (Entry target.end_block) memory (here s4) memory
  inner-leaves frame memory = subst (λ (p : Point). Comes frame 1 0 (Entry target.end_block) memory p memory) (sym gone.begins) (enters-block frame memory target.end_block)

-- A loop: it was entered, its body lowered to a place, the scope of the turn left, and the end leads to the beginning.
module _ (source : Source) (s0 s1 s2 s3 s4 : Shape) (e : ℕ) (label : Option LabelId) (body : ℕ) (local : GraphPlace) (target : OpenTarget) (c : Cell) (form : node source e ≡ Some (expr.Loop label body)) (ready : IsReady source s0 e) (entered : IsEntered source s0 s1 target) (opened : target.opened ≡ record { node = e; label = label }) (found : local_of s0 c ≡ Some target.local) (place : LowersPlace source s1 s2 body local) (left : Idles source (with_scope s1.scope s2) s3 (drops source (marked_as_place source body))) (gone : HasGoneOn source (with_targets s0.targets s3) s4 target.begin_block target.end_block) where
  abbrev turns : ℕ
  turns = drops source (marked_as_place source body)

  module _ (whole : Shape) (frame : Frame) (grows : Grows s4 whole) (sound : IsSound source whole) (is : IsFrameOf whole frame) (lands : Landings) (around : Around) (stands : Stands whole s0 lands around) where
    abbrev within : Landings
    within = lands_inside e target.begin_block target.end_block lands

    -- one turn, from the first block on to where it leads to the beginning
    turn-reaches : (fuel : ℕ) → Serves fuel source frame.program → (store : Store) (memory : Memory) → Holds whole frame store memory → Reaches source whole within frame (start_of target.begin_block) (Entry target.begin_block) memory (Nothing whole frame) (turn_of source (level_at source fuel) (inside e label (record { cell = c }) around) body store)
    turn-reaches fuel serves store memory holds =
        let around' : Around = inside e label (record { cell = c }) around in
        let grown2 : Grows s2 whole = grows-trans s2 s4 whole (inner-grows2 source s0 s1 s2 s3 s4 target.begin_block target entered place.keeps.grows place.keeps.spares turns left gone) grows in
        let grown0 : Grows s0 whole = grows-trans s0 s4 whole (inner-grows0 source s0 s1 s2 s3 s4 target.begin_block target entered place.keeps.grows place.keeps.spares turns left gone) grows in
        let grown3 : Grows s3 whole = grows-trans s3 s4 whole (inner-grows source s0 s1 s2 s3 s4 target.begin_block target entered place.keeps.grows place.keeps.spares turns left gone) grows in
        let stands' = stands-inside source s0 s1 whole lands around e label target c ready entered opened (local_of-grows s0 whole grown0 c target.local found) stands in
        reaches-then source whole within frame (start_of target.begin_block) (here s2) (Entry target.begin_block) memory (LeadsTo place.does.at whole frame) (Nothing whole frame) ((level_at source fuel around').place body store) (λ _ later. Go tt later (turns_alone turns))
        (subst (λ (p : Point). Reaches source whole within frame p (here s2) memory (LeadsTo place.does.at whole frame) ((level_at source fuel around').place body store)) entered.begins
        (place.does.does.reaches whole frame grown2 sound is within around' stands' fuel serves store memory holds))
        (λ path store1 memory1 claims. inr (
          memory1,
          comes-on frame turns (here s2) (here s3) (Entry target.begin_block) memory1 memory1 memory1
              (scope-idles s2 s1.scope source s3 turns left whole frame grown3 is memory1)
              (inner-heads source s0 s1 s2 s3 s4 target.begin_block target entered place.keeps.grows place.keeps.spares turns left gone whole frame grows is memory1),
          claims.0,
          tt,
        ))

    one-loop : (fuel : ℕ) → Serves fuel source frame.program → ((store : Store) (memory : Memory) → Holds whole frame store memory → Reaches source whole lands frame (Entry target.begin_block) (here s4) memory (Nothing whole frame) ((level_at source fuel around).own e (record { cell = c }) store)) →
        (store : Store) (memory : Memory) → Holds whole frame store memory → Reaches source whole lands frame (Entry target.begin_block) (here s4) memory (Nothing whole frame) (into_of source (level_at source fuel) (callees_at fuel) around e (Some (expr.Loop label body)) (record { cell = c }) store)
    one-loop fuel serves again store memory holds =
        reaches-after source whole lands frame (Entry target.begin_block) (start_of target.begin_block) (here s4) memory memory (Nothing whole frame) (turns_alone 1) (enters-block frame memory target.begin_block) _
        (reaches-caught source whole frame lands e target.begin_block target.end_block (start_of target.begin_block) (Entry target.begin_block) (here s4) memory _ _ again again
        (λ later. inner-leaves source s0 s1 s2 s3 s4 target.begin_block target entered place.keeps.grows place.keeps.spares turns left gone frame later)
        (turn_of source (level_at source fuel) (inside e label (record { cell = c }) around) body store) (turn-reaches fuel serves store memory holds))

    -- by induction on the fuel, of which each turn takes some
    loop-reaches : (fuel : ℕ) → Serves fuel source frame.program → (store : Store) (memory : Memory) → Holds whole frame store memory → Reaches source whole lands frame (Entry target.begin_block) (here s4) memory (Nothing whole frame) (into_of source (level_at source fuel) (callees_at fuel) around e (Some (expr.Loop label body)) (record { cell = c }) store)
    unfolding level_at
    loop-reaches zero serves = one-loop zero serves (λ store memory holds. inr (none-entered _))
    loop-reaches (suc fuel) serves =
        one-loop (suc fuel) serves (λ store memory holds.
        subst (λ f. Reaches source whole lands frame (Entry target.begin_block) (here s4) memory (Nothing whole frame) (into_of source (level_at source fuel) (callees_at fuel) around e f (record { cell = c }) store)) (sym form) (loop-reaches fuel (serves-less fuel source frame.program serves) store memory holds))

  lays-loop : IsLaidOutNode source e → LaysOut source s4 e
  lays-loop laid plain layouts f own = laid
  lays-loop laid plain layouts f (needed_inside {child = child} contained rest) =
      let same : body ≡ child = one-of body child (subst (λ n. Contains (sized_parts source n) child) form contained) in
      let below = plain-part source e child (sized_part_is_part source (node source e) child contained) laid plain in
      place.laid (subst (IsPlainWithin source) (sym same) below) (layouts-before source s2 s4 (inner-grows2 source s0 s1 s2 s3 s4 target.begin_block target entered place.keeps.grows place.keeps.spares turns left gone) layouts) f (subst (λ x. NeedsLayout source x f) (sym same) rest)

  pub lowers-loop : LowersOwn source s0 s4 e c
  lowers-loop =
      record {
        keeps = record {
          grows = inner-grows0 source s0 s1 s2 s3 s4 target.begin_block target entered place.keeps.grows place.keeps.spares turns left gone;
          spares = inner-spares source s0 s1 s2 s3 s4 target.begin_block target entered place.keeps.grows place.keeps.spares turns left gone;
          sound = gone.sound;
          «open» = gone.«open»;
          scope =
              inner-scope source s0 s1 s2 s3 s4 target.begin_block target entered place.keeps.grows place.keeps.spares turns left gone
              ∙ sym (append-nil s0.scope) ∙ ap (λ m. s0.scope ++ m) (sym (loop_marks source ready.checked e ready.within label body form));
        };
        does = does-form source s0 s4 e c (Some (expr.Loop label body)) form (record {
          reaches = λ whole frame grows sound is lands around stands fuel serves store memory holds.
              let grown1 : Grows s1 whole = grows-trans s1 s2 whole place.keeps.grows (grows-trans s2 s4 whole (inner-grows2 source s0 s1 s2 s3 s4 target.begin_block target entered place.keeps.grows place.keeps.spares turns left gone) grows) in
              reaches-from source whole lands frame (here s0) (Entry target.begin_block) (here s4) memory (Nothing whole frame) (entered.heads whole frame grown1 is memory) _
              (loop-reaches whole frame grows sound is lands around stands fuel serves store memory holds);
        });
        laid = lays-loop;
      }

-- A labelled block: it was entered, its statements and its tail lowered, its scope left, and the end leads to the block behind it.
module _ (source : Source) (s0 s1 s2 s3 s4 s5 : Shape) (e : ℕ) (label : LabelId) (statements : List Statement) (tail : Option ExprId) (target : OpenTarget) (c : Cell) (form : node source e ≡ Some (expr.Labelled label statements tail)) (ready : IsReady source s0 e) (entered : IsEntered source s0 s1 target) (opened : target.opened ≡ record { node = e; label = Some label }) (found : local_of s0 c ≡ Some target.local) (first : LowersStatements source s1 s2 statements) (last : LowersTail source s2 s3 tail c) (left : Idles source (with_scope s1.scope s3) s4 (drops source (marked_in_block source statements tail))) (gone : HasGoneOn source (with_targets s0.targets s4) s5 target.end_block target.end_block) where
  abbrev dropped : ℕ
  dropped = drops source (marked_in_block source statements tail)

  abbrev inner : Grows s1 s3
  inner = grows-trans s1 s2 s3 first.keeps.grows last.keeps.grows

  abbrev spared-inside : Spares s1 s3
  spared-inside = spares-trans s1 s2 s3 first.keeps.spares last.keeps.spares

  abbrev behind : Grows s3 s5
  behind = inner-grows2 source s0 s1 s3 s4 s5 target.end_block target entered inner spared-inside dropped left gone

  module _ (whole : Shape) (frame : Frame) (grows : Grows s5 whole) (sound : IsSound source whole) (is : IsFrameOf whole frame) (lands : Landings) (around : Around) (stands : Stands whole s0 lands around) where
    abbrev lands-within : Landings
    lands-within = lands_inside e target.begin_block target.end_block lands

    -- the block, from its first statement on to where it leads behind it
    block-reaches : (fuel : ℕ) → Serves fuel source frame.program → (store : Store) (memory : Memory) → Holds whole frame store memory → Reaches source whole lands-within frame (start_of target.begin_block) (Entry target.end_block) memory (Nothing whole frame) (block_into source (level_at source fuel) (inside e (Some label) (record { cell = c }) around) statements tail (record { cell = c }) store)
    block-reaches fuel serves store memory holds =
        let grown0 : Grows s0 whole = grows-trans s0 s5 whole (inner-grows0 source s0 s1 s3 s4 s5 target.end_block target entered inner spared-inside dropped left gone) grows in
        let grown4 : Grows s4 whole = grows-trans s4 s5 whole (inner-grows source s0 s1 s3 s4 s5 target.end_block target entered inner spared-inside dropped left gone) grows in
        let stands' = stands-inside source s0 s1 whole lands around e (Some label) target c ready entered opened (local_of-grows s0 whole grown0 c target.local found) stands in
        let around' : Around = inside e (Some label) (record { cell = c }) around in
        let block : End (Unit {0}) = block_into source (level_at source fuel) around' statements tail (record { cell = c }) store in
        let does : Reaches source whole lands-within frame (here s1) (here s4) memory (Nothing whole frame) block =
        (does-block source s1 s2 s3 s4 statements tail c first last left).reaches whole frame grown4 sound is lands-within around' stands' fuel serves store memory holds in
        reaches-on source whole lands-within frame (start_of target.begin_block) (here s4) (Entry target.end_block) memory (Nothing whole frame) (λ later. inner-heads source s0 s1 s3 s4 s5 target.end_block target entered inner spared-inside dropped left gone whole frame grows is later) block
        (subst (λ (p : Point). Reaches source whole lands-within frame p (here s4) memory (Nothing whole frame) block) entered.begins does)

    ends-block : (store : Store) (memory : Memory) → Holds whole frame store memory → Reaches source whole lands frame (Entry target.end_block) (here s5) memory (Nothing whole frame) (Go tt store (turns_alone 1))
    ends-block store memory holds = inr (memory, inner-leaves source s0 s1 s3 s4 s5 target.end_block target entered inner spared-inside dropped left gone frame memory, holds, tt)

    one-block : (fuel : ℕ) → Serves fuel source frame.program → ((store : Store) (memory : Memory) → Holds whole frame store memory → Reaches source whole lands frame (Entry target.begin_block) (here s5) memory (Nothing whole frame) ((level_at source fuel around).own e (record { cell = c }) store)) →
        (store : Store) (memory : Memory) → Holds whole frame store memory → Reaches source whole lands frame (Entry target.begin_block) (here s5) memory (Nothing whole frame) (into_of source (level_at source fuel) (callees_at fuel) around e (Some (expr.Labelled label statements tail)) (record { cell = c }) store)
    one-block fuel serves again store memory holds =
        reaches-after source whole lands frame (Entry target.begin_block) (start_of target.begin_block) (here s5) memory memory (Nothing whole frame) (turns_alone 1) (enters-block frame memory target.begin_block) _
        (reaches-caught source whole frame lands e target.begin_block target.end_block (start_of target.begin_block) (Entry target.end_block) (here s5) memory _ _ again ends-block
        (λ later. inner-leaves source s0 s1 s3 s4 s5 target.end_block target entered inner spared-inside dropped left gone frame later)
        (block_into source (level_at source fuel) (inside e (Some label) (record { cell = c }) around) statements tail (record { cell = c }) store) (block-reaches fuel serves store memory holds))

    -- by induction on the fuel, of which each `continue` takes some
    labelled-reaches : (fuel : ℕ) → Serves fuel source frame.program → (store : Store) (memory : Memory) → Holds whole frame store memory → Reaches source whole lands frame (Entry target.begin_block) (here s5) memory (Nothing whole frame) (into_of source (level_at source fuel) (callees_at fuel) around e (Some (expr.Labelled label statements tail)) (record { cell = c }) store)
    unfolding level_at
    labelled-reaches zero serves = one-block zero serves (λ store memory holds. inr (none-entered _))
    labelled-reaches (suc fuel) serves =
        one-block (suc fuel) serves (λ store memory holds.
        subst (λ f. Reaches source whole lands frame (Entry target.begin_block) (here s5) memory (Nothing whole frame) (into_of source (level_at source fuel) (callees_at fuel) around e f (record { cell = c }) store)) (sym form) (labelled-reaches fuel (serves-less fuel source frame.program serves) store memory holds))

  pub lowers-labelled : LowersOwn source s0 s5 e c
  lowers-labelled =
      record {
        keeps = record {
          grows = inner-grows0 source s0 s1 s3 s4 s5 target.end_block target entered inner spared-inside dropped left gone;
          spares = inner-spares source s0 s1 s3 s4 s5 target.end_block target entered inner spared-inside dropped left gone;
          sound = gone.sound;
          «open» = gone.«open»;
          scope =
              inner-scope source s0 s1 s3 s4 s5 target.end_block target entered inner spared-inside dropped left gone
              ∙ sym (append-nil s0.scope) ∙ ap (λ m. s0.scope ++ m) (sym (labelled_marks source ready.checked e ready.within label statements tail form));
        };
        does = does-form source s0 s5 e c (Some (expr.Labelled label statements tail)) form (record {
          reaches = λ whole frame grows sound is lands around stands fuel serves store memory holds.
              let grown1 : Grows s1 whole = grows-trans s1 s3 whole inner (grows-trans s3 s5 whole behind grows) in
              reaches-from source whole lands frame (here s0) (Entry target.begin_block) (here s5) memory (Nothing whole frame) (entered.heads whole frame grown1 is memory) _
              (labelled-reaches whole frame grows sound is lands around stands fuel serves store memory holds);
        });
        laid = lays-block source s1 s2 s3 s5 e (expr.Labelled label statements tail) statements tail c form (block_parts statements tail) (λ ty plain. plain.1) first last (grows-trans s2 s3 s5 last.keeps.grows behind) behind;
      }
