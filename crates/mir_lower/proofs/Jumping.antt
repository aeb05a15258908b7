-- `break` and `continue`: where they lead, and what they leave.
use Rattle.std.proofs.Common.{◌≡◌, ℕ, Bool, true, false, List, [], ◌∷◌, ◌++◌, Contains, Option, Some, None, refl, sym, ap, ◌∙◌, subst, arith, append-nil, drop, inr}
use Rattle.std.specs.Prelude.{All, if◌then◌else◌, flat_map, IfSome}
use Rattle.std.proofs.lemmas.List.Elements.{All-head, All-tail}
use Rattle.types.specs.declared.ids.ExprId.{ExprId}
use Rattle.types.specs.declared.ids.LabelId.{LabelId}
use Rattle.mir.specs.Memory.{Memory}
use Rattle.mir.specs.Run.{Frame}
use Rattle.source_meaning.specs.Around.{Around, Opened, Target, is_meant, meant, target_of}
use Rattle.source_meaning.specs.Core as expr
use Rattle.source_meaning.specs.Ends.{Jumps, Break, Continue, turns_alone}
use Rattle.source_meaning.specs.Events.{marked_by_tail}
use Rattle.source_meaning.specs.Meaning.{level_at, tail_into, leaving, break_to, continue_to}
use Rattle.source_meaning.specs.Source.{Source, node, own_type, node_type, Cell, Path, Store, drops}
use Rattle.source_meaning.specs.Steps.{tail_steps, parts_of}
use Rattle.source_meaning.specs.Valid.{itself_in, own, inside, sized_part, sized_parts, FitsAround, HasPlainTarget, IsLaidOut, IsLaidOutNode, NeedsLayout}
use Rattle.source_meaning.proofs.Marks.{break_marks, continue_marks, no_tail_marks}
use Rattle.source_meaning.proofs.Parts.{sized_part_is_part}
use Rattle.mir_lower.specs.Does.{here, IsFrameOf, Holds, AtPoint, Landings, Lands, Reaches, Nothing, Fronts, FrontAll, Stands}
use Rattle.mir_graph.specs.Graph.{Shape, OpenTarget, local_of, meant_target}
use Rattle.mir_lower.specs.Growth.{Grows, IsInside, IsSound, IsReady}
use Rattle.mir_lower.specs.Jumps.{HasJumped}
use Rattle.mir_lower.specs.Lowered.{IsPlainWithin, LaysOut, LowersOwn, LowersTail, HasLayouts}
use Rattle.mir_lower.specs.Runs.{Entry, Comes}
use Rattle.mir_lower.proofs.Growing.{grows-trans}
use Rattle.mir_lower.proofs.Laid.{layouts-before, plain-part, alone, one-of}
use Rattle.mir_lower.proofs.Reaching.{reaches-then}
use Rattle.mir_lower.proofs.Sparing.{spares-trans}
use Rattle.mir_lower.proofs.Steps.{local_of-grows, does-form}
use Rattle.mir_lower.specs.Callees.{Serves}

-- the value of a `break` is a part of it
pub break-part : (source : Source) (e : ℕ) (label : Option LabelId) (value : Option ExprId) → node source e ≡ Some (expr.Break label value) → IfSome value (λ one. Contains (parts_of (node source e)) one.0)
break-part source e label None form = tt
break-part source e label (Some one) form = subst (λ n. Contains (parts_of n) one.0) (sym form) (0, omega arith, refl)

-- what holds of all that is open holds of the one that a jump means
pub meant-has : (P : OpenTarget → Type 0) (label : Option LabelId) (targets : List OpenTarget) (target : OpenTarget) → All P targets → meant_target label targets ≡ Some target → P target
unfolding meant_target
meant-has P label [] target all is = absurd cc
meant-has P label (first ∷ outer) target all is = by-test (is_meant label first.opened) (meant-has P label outer target (All-tail P first outer all)) is where
  by-test : (test : Bool) → (meant_target label outer ≡ Some target → P target) → if test then Some first else meant_target label outer ≡ Some target → P target
  by-test true further same = let one : first ≡ target = cc in subst P one (All-head P first outer all)
  by-test false further rest = further rest

-- the meaning's target of a jump is the graph's
fronts-meant : (whole : Shape) (lands : Landings) (label : Option LabelId) (targets : List OpenTarget) (fronts : List Target) (target : OpenTarget) → FrontAll whole lands targets fronts → meant_target label targets ≡ Some target → (front : Target) × (target_of label fronts ≡ Some front) × Fronts whole lands target front
unfolding meant_target target_of
fronts-meant whole lands label [] [] target all is = absurd cc
fronts-meant whole lands label [] (front ∷ others) target all is = absurd all
fronts-meant whole lands label (first ∷ outer) [] target all is = absurd all
fronts-meant whole lands label (first ∷ outer) (front ∷ others) target all is =
    let same : is_meant label front.opened ≡ is_meant label first.opened = ap (is_meant label) all.0.opened in
    by-test (is_meant label first.opened) same (fronts-meant whole lands label outer others target all.1) is where
      by-test : (test : Bool) → is_meant label front.opened ≡ test → (meant_target label outer ≡ Some target → (found : Target) × (target_of label others ≡ Some found) × Fronts whole lands target found) → if test then Some first else meant_target label outer ≡ Some target →
          (found : Target) × (if is_meant label front.opened then Some front else target_of label others ≡ Some found) × Fronts whole lands target found
      by-test true meant-is further is' =
          let one : first ≡ target = cc in
          (front, ap (λ (test : Bool). if test then Some front else target_of label others) meant-is, subst (λ (t : OpenTarget). Fronts whole lands t front) one all.0)
      by-test false meant-is further is' =
          let rest = further is' in
          (rest.0, ap (λ (test : Bool). if test then Some front else target_of label others) meant-is ∙ rest.1, rest.2)

-- the type of the loop or labelled block that a `break` means has a layout, and so has that of its value
meant-laid : (source : Source) (label : Option LabelId) (opened : List Opened) (target : Opened) → All (λ other. IsLaidOut source (own_type source other.node)) opened → meant label opened ≡ Some target → IsLaidOut source (own_type source target.node)
unfolding meant
meant-laid source label [] target all is = absurd cc
meant-laid source label (first ∷ outer) target all is = by-test (is_meant label first) (meant-laid source label outer target (All-tail (λ other. IsLaidOut source (own_type source other.node)) first outer all)) is where
  by-test : (test : Bool) → (meant label outer ≡ Some target → IsLaidOut source (own_type source target.node)) → if test then Some first else meant label outer ≡ Some target → IsLaidOut source (own_type source target.node)
  by-test true further same = let one : first ≡ target = cc in subst (λ (o : Opened). IsLaidOut source (own_type source o.node)) one (All-head (λ other. IsLaidOut source (own_type source other.node)) first outer all)
  by-test false further rest = further rest

value-laid : (source : Source) (label : Option LabelId) (opened : List Opened) (value : ExprId) → All (λ other. IsLaidOut source (own_type source other.node)) opened → HasPlainTarget source opened label (Some value) → IsLaidOut source (node_type source value.0)
value-laid source label opened value all plain =
    subst (IsLaidOut source) (plain.target_has ∙ sym plain.value_has) (meant-laid source label opened plain.target all plain.means)

-- A `break`: its value went where that of its target goes, and a jump to the block behind the target was added.
module _ (source : Source) (s0 s1 s2 : Shape) (e : ℕ) (label : Option LabelId) (value : Option ExprId) (target : OpenTarget) (form : node source e ≡ Some (expr.Break label value)) (ready : IsReady source s0 e) (meant-is : meant_target label s0.targets ≡ Some target) (lowers-value : (cell : Cell) → local_of s0 cell ≡ Some target.local → LowersTail source s0 s1 value cell) (jumped : HasJumped source s1 s2 target.end_block (drops source (drop target.kept s1.scope))) where
  abbrev around-it : IsInside s0 e target
  around-it = meant-has (IsInside s0 e) label s0.targets target ready.around.inside meant-is

  abbrev cell : Cell
  cell = around-it.placed.cell

  abbrev tail : LowersTail source s0 s1 value cell
  tail = lowers-value cell around-it.placed.found

  break-reaches : (whole : Shape) (frame : Frame) → Grows s2 whole → IsSound source whole → IsFrameOf whole frame → (lands : Landings) (around : Around) → Stands whole s0 lands around → (fuel : ℕ) → Serves fuel source frame.program → (store : Store) (memory : Memory) → Holds whole frame store memory → Reaches source whole lands frame (here s0) (here s2) memory (Nothing whole frame) (break_to source (level_at source fuel) around value (target_of label around.targets) store)
  break-reaches whole frame grows sound is lands around stands fuel serves store memory holds =
      let grown1 : Grows s1 whole = grows-trans s1 s2 whole jumped.grows grows in
      let grown0 : Grows s0 whole = grows-trans s0 s1 whole tail.keeps.grows grown1 in
      let found = fronts-meant whole lands label s0.targets around.targets target stands.targets meant-is in
      let front = found.0 in
      let fronts = found.2 in
      let same-cell : front.path.cell ≡ cell = sound.allotted.own front.path.cell cell target.local fronts.local (local_of-grows s0 whole grown0 cell target.local around-it.placed.found) in
      let to : Path = record { cell = cell } in
      let same-path : to ≡ front.path = ap (λ (c : Cell). record { cell = c }) (sym same-cell) in
      let landing : lands (Break front.opened.node) ≡ AtPoint (Entry target.end_block) = ap (λ (o : Opened). lands (Break o.node)) fronts.opened ∙ fronts.breaks in
      let counted : leaving source around value front ≡ drops source (drop target.kept s1.scope) =
      ap (λ (marks : List Cell). drops source (drop front.kept (marks ++ marked_by_tail source value))) stands.marks
      ∙ ap (λ (n : ℕ). drops source (drop n (s0.scope ++ marked_by_tail source value))) fronts.kept
      ∙ ap (λ (scope : List Cell). drops source (drop target.kept scope)) (sym tail.keeps.scope) in
      subst (λ (t : Option Target). Reaches source whole lands frame (here s0) (here s2) memory (Nothing whole frame) (break_to source (level_at source fuel) around value t store)) (sym found.1)
      (reaches-then source whole lands frame (here s0) (here s1) (here s2) memory (Nothing whole frame) (Nothing whole frame) (tail_into (level_at source fuel around) value front.path store) (λ _ later. Jumps (Break front.opened.node) later (turns_alone (leaving source around value front)))
      (subst (λ (p : Path). Reaches source whole lands frame (here s0) (here s1) memory (Nothing whole frame) (tail_into (level_at source fuel around) value p store)) same-path
      (tail.does.reaches whole frame grown1 sound is lands around stands fuel serves store memory holds))
      (λ done store1 memory1 claims.
      inr (subst (Lands whole frame (here s1) memory1 store1 (turns_alone (leaving source around value front))) (sym landing)
      (memory1, subst (λ (n : ℕ). Comes frame n 0 (here s1) memory1 (Entry target.end_block) memory1) (sym counted) (jumped.heads whole frame grows is memory1), claims.0))))

  lays-value : (child : ℕ) (given : Option ExprId) → value ≡ given → Contains (flat_map (sized_part source) (tail_steps given)) child → IsLaidOutNode source e → IsPlainWithin source e → IsPlainWithin source child → HasLayouts source s2 → (f : ℕ) → NeedsLayout source child f → IsLaidOutNode source f
  lays-value child None is within laid plain below layouts f needs = absurd (let bound = within.1 in omega arith)
  lays-value child (Some one) is within laid plain below layouts f needs =
      let same : one.0 ≡ child = one-of one.0 child within in
      let has-target : HasPlainTarget source plain.opened label value = subst (FitsAround source plain.opened) form (plain.jumps plain.opened e itself_in) in
      let typed = value-laid source label plain.opened one plain.laid (subst (HasPlainTarget source plain.opened label) is has-target) in
      tail.laid one is typed (subst (IsPlainWithin source) (sym same) below) (layouts-before source s1 s2 jumped.grows layouts) f (subst (λ x. NeedsLayout source x f) (sym same) needs)

  lays-break : IsLaidOutNode source e → LaysOut source s2 e
  lays-break laid plain layouts f own = laid
  lays-break laid plain layouts f (inside {child = child} within rest) =
      lays-value child value refl (subst (λ n. Contains (sized_parts source n) child) form within) laid plain
      (plain-part source e child (sized_part_is_part source (node source e) child within) laid plain) layouts f rest

  pub lowers-break : (c : Cell) → LowersOwn source s0 s2 e c
  lowers-break c =
      record {
        keeps = record {
          grows = grows-trans s0 s1 s2 tail.keeps.grows jumped.grows;
          spares = spares-trans s0 s1 s2 tail.keeps.spares jumped.spares;
          sound = jumped.sound;
          «open» = jumped.«open»;
          scope = jumped.scope ∙ tail.keeps.scope ∙ ap (λ m. s0.scope ++ m) (sym (break_marks source ready.checked e ready.within label value form));
        };
        does = does-form source s0 s2 e c (Some (expr.Break label value)) form (record { reaches = break-reaches });
        laid = lays-break;
      }

-- A `continue`: a jump to the block where its target begins was added.
module _ (source : Source) (s0 s1 : Shape) (e : ℕ) (label : Option LabelId) (target : OpenTarget) (form : node source e ≡ Some (expr.Continue label)) (ready : IsReady source s0 e) (meant-is : meant_target label s0.targets ≡ Some target) (jumped : HasJumped source s0 s1 target.begin_block (drops source (drop target.kept s0.scope))) where
  continue-reaches : (whole : Shape) (frame : Frame) → Grows s1 whole → IsSound source whole → IsFrameOf whole frame → (lands : Landings) (around : Around) → Stands whole s0 lands around → (fuel : ℕ) → Serves fuel source frame.program → (store : Store) (memory : Memory) → Holds whole frame store memory → Reaches source whole lands frame (here s0) (here s1) memory (Nothing whole frame) (continue_to source around (target_of label around.targets) store)
  continue-reaches whole frame grows sound is lands around stands fuel serves store memory holds =
      let found = fronts-meant whole lands label s0.targets around.targets target stands.targets meant-is in
      let front = found.0 in
      let fronts = found.2 in
      let landing : lands (Continue front.opened.node) ≡ AtPoint (Entry target.begin_block) = ap (λ (o : Opened). lands (Continue o.node)) fronts.opened ∙ fronts.continues in
      let counted : leaving source around None front ≡ drops source (drop target.kept s0.scope) =
      ap (λ (marks : List Cell). drops source (drop front.kept (marks ++ marked_by_tail source None))) stands.marks
      ∙ ap (λ (n : ℕ). drops source (drop n (s0.scope ++ marked_by_tail source None))) fronts.kept
      ∙ ap (λ (more : List Cell). drops source (drop target.kept (s0.scope ++ more))) (no_tail_marks source)
      ∙ ap (λ (scope : List Cell). drops source (drop target.kept scope)) (append-nil s0.scope) in
      subst (λ (t : Option Target). Reaches source whole lands frame (here s0) (here s1) memory (Nothing whole frame) (continue_to source around t store)) (sym found.1)
      (inr (subst (Lands whole frame (here s0) memory store (turns_alone (leaving source around None front))) (sym landing)
      (memory, subst (λ (n : ℕ). Comes frame n 0 (here s0) memory (Entry target.begin_block) memory) (sym counted) (jumped.heads whole frame grows is memory), holds)))

  pub lowers-continue : (c : Cell) → LowersOwn source s0 s1 e c
  lowers-continue c =
      record {
        keeps = record {
          grows = jumped.grows;
          spares = jumped.spares;
          sound = jumped.sound;
          «open» = jumped.«open»;
          scope = jumped.scope ∙ sym (append-nil s0.scope) ∙ ap (λ m. s0.scope ++ m) (sym (continue_marks source ready.checked e ready.within label form));
        };
        does = does-form source s0 s1 e c (Some (expr.Continue label)) form (record { reaches = continue-reaches });
        laid = λ laid plain layouts f needs. subst (IsLaidOutNode source) (alone source e f (ap (sized_parts source) form) needs) laid;
      }
