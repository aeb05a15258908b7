-- Compound assignments: the place of the target, the value's operand, and then one operation that reads both and writes to the place.
use Rattle.std.proofs.Common.{◌≡◌, ◌||◌, ℕ, ◌⊎◌, inr, ⊎_elim, Bool, true, List, [], ◌∷◌, ◌++◌, Contains, Option, Some, None, option_and_then, refl, sym, ap, ◌∙◌, subst, append_assoc, false}
use Rattle.std.specs.Prelude.{flat_map}
use Rattle.std.proofs.lemmas.List.Elements.{Contains-append_cases}
use Rattle.types.specs.declared.ids.BindingId.{BindingId}
use Rattle.numbers.specs.declared.operator.Operator.{Operator}
use Rattle.world.specs.declared.infer.ValueNs.{ValueNs}
use Rattle.world.specs.declared.infer.ValueNs.TheVariants.{LocalBinding}
use Rattle.mir.specs.declared.errors.MirLowerError.{MirLowerError}
use Rattle.mir.specs.declared.errors.MirLowerError.TheVariants as refusal
use Rattle.mir.specs.declared.operand.Operand.{Operand as MirOperand}
use Rattle.mir.specs.declared.operand.OperandKind.TheVariants.{Copy}
use Rattle.mir.specs.declared.ids.LocalId.{LocalId}
use Rattle.mir.specs.declared.operand.Place.{Place as GraphPlace}
use Rattle.mir.specs.declared.operand.Rvalue.TheVariants.{CheckedBinaryOp}
use Rattle.mir.specs.declared.span.MirSpan.{MirSpan}
use Rattle.mir.specs.Memory.{Memory, number_held}
use Rattle.mir.specs.Run.{Frame, assigns_out, operand_out as mir_out, reads_out}
use Rattle.source_meaning.specs.Places.{is_out_of_bounds, some_out}
use Rattle.mir.specs.WholePlaces.{whole_place}
use Rattle.source_meaning.specs.Around.{Around, marking}
use Rattle.source_meaning.specs.Core.{Assigned, ByField, ByPath, Combine, ElementAt, FieldOf, Part, is_truth, local_named, PlaceElem}
use Rattle.source_meaning.specs.Core as expr
use Rattle.source_meaning.specs.Ends.{then_do}
use Rattle.source_meaning.specs.Events.{marked_as_operand, marked_by_assigned}
use Rattle.source_meaning.specs.Meaning.{level_at, callees_at, answer_at, answered_for, assigned_place, bound_place, combined_at, values_of, into_of}
use Rattle.source_meaning.specs.Source.{Source, node, unadjusted, named_by, compound_path, compound_target, Cell, Binding, Place, whole as place_of_cell, Operand, Store, At}
use Rattle.source_meaning.specs.Steps.{assigned_parts, assigned_steps, field_parts, parts_of}
use Rattle.source_meaning.specs.Steps as step
use Rattle.source_meaning.specs.Valid.{own, inside, sized_part, sized_parts, IsLaidOutNode}
use Rattle.source_meaning.proofs.Depth.{combined_is_part, combined_target_is_part}
use Rattle.source_meaning.proofs.Marks.{compound_marks, field_target_marks, path_target_marks}
use Rattle.source_meaning.proofs.Parts.{nothing_is_contained, sized_operand, sized_part_is_part}
use Rattle.body_forms.specs.Refusals.{IsUnbuilt, IsUnresolved, LacksLocal}
use Rattle.mir_lower.specs.Callees.{Serves}
use Rattle.mir_lower.specs.Does.{Stands, here, IsAt, IsFrameOf, Holds, Landings, LeadsTo, Reaches, Nothing, Fits}
use Rattle.mir_graph.specs.Graph.{Shape, with_statement}
use Rattle.mir_lower.specs.Growth.{Grows, IsSound, IsOpen, IsReady}
use Rattle.mir_lower.specs.Lowered.{IsCombinedIn, Keeps, LaysOut, LowersAssigned, LowersField, LowersOwn, LowersOperand}
use Rattle.mir_lower.specs.Refusals.{RefusesAt, RefusesCombined}
use Rattle.mir_lower.proofs.Assignments.{keeps-none}
use Rattle.mir_lower.proofs.Growing.{grows-trans, with_statement-grows}
use Rattle.mir_lower.proofs.Laid.{layouts-before, plain-part, one-of}
use Rattle.mir_lower.proofs.Projecting.{at-later, whole-at}
use Rattle.mir_lower.proofs.Reaching.{comes-refl, reaches-then}
use Rattle.mir_lower.proofs.Reading.{place-fits}
use Rattle.mir_lower.proofs.Refused.{refuses-here, refuses-no-memory}
use Rattle.mir_lower.proofs.Sound.{with_statement-sound, with_statement-open, with_statement-scope}
use Rattle.mir_lower.proofs.Sparing.{spares-trans, with_statement-spares}
use Rattle.mir_lower.proofs.Standing.{marking-fits}
use Rattle.mir_lower.proofs.Steps.{does-form}
use Rattle.mir_lower.proofs.Rvalues.{binary-agrees, read-all, two-out}
use Rattle.mir_lower.proofs.Within.{some-out-same}
use Rattle.mir_lower.proofs.Writing.{first-bytes, writing, written-values, written-within}

-- the value is a part, and so is what the field that the target is evaluates
pub combined-part : (source : Source) (e : ℕ) (op : Operator) (to : Assigned) (value : ℕ) → node source e ≡ Some (expr.Compound op to value) → Contains (parts_of (node source e)) value
combined-part source e op to value form = combined_is_part source e op to value form

pub combined-field-part : (source : Source) (e : ℕ) (op : Operator) (base : ℕ) (elem : PlaceElem) (value : ℕ) → node source e ≡ Some (expr.Compound op (ByField base elem) value) → (child : ℕ) → Contains (field_parts base elem) child → Contains (parts_of (node source e)) child
combined-field-part source e op base elem value form child within = combined_target_is_part source e op (ByField base elem) value child form within

-- a target that is a path to a binding names it
pub names-combined : (source : Source) (e : ℕ) (name : _) (named : ValueNs) (binding : BindingId) → Some name ≡ compound_path source e → Some named ≡ named_by source e → named ≡ LocalBinding binding → compound_target source e ≡ Some binding
names-combined source e name named binding path found is =
    ap (option_and_then (λ given. option_and_then local_named (named_by source e))) (sym path)
    ∙ ap (option_and_then local_named) (sym found ∙ ap Some is)

-- the place of a path is that of the binding that it names
pub lowers-own-path : (source : Source) (s : Shape) (e : ℕ) (local : LocalId) → IsSound source s → IsOpen s → IsCombinedIn source s e local.0 → LowersAssigned source s s (ByPath e) (whole_place local)
lowers-own-path source s e local sound opened named =
    let at = place_of_cell (Binding named.binding.0) in
    record {
      keeps = keeps-none source s (marked_by_assigned source (ByPath e)) sound opened (path_target_marks source e);
      does = record {
        at = at;
        is = whole-at s local (Binding named.binding.0) named.found;
        does = record {
          reaches = λ whole frame grows whole-sound is lands around stands fuel serves store memory holds.
              subst (λ (b : Option BindingId). Reaches source whole lands frame (here s) (here s) memory (LeadsTo at whole frame) (bound_place b store)) (sym named.names)
              (inr (memory, comes-refl frame (here s) memory, holds, refl));
        };
      };
      laid = λ child within. absurd (nothing_is_contained child within);
    }

-- that of a field is found by its base
pub lowers-own-field : (source : Source) (s0 s1 : Shape) (base : ℕ) (elem : PlaceElem) (place : GraphPlace) → LowersField source s0 s1 base elem place → LowersAssigned source s0 s1 (ByField base elem) place
lowers-own-field source s0 s1 base elem place lowered =
    record {
      keeps = subst (λ (m : List Cell). Keeps source s0 s1 m) (sym (field_target_marks source base elem)) lowered.keeps;
      does = lowered.does;
      laid = lowered.laid;
    }

-- the types of what a compound assignment evaluates
sized-either : (source : Source) (to : Assigned) (value child : ℕ) → Contains (flat_map (sized_part source) (assigned_steps to ++ step.Operand value ∷ [])) child → Contains (assigned_parts to) child ⊎ Contains (flat_map (sized_part source) (step.Operand value ∷ [])) child
sized-either source (ByPath e) value child within = inr within
sized-either source (ByField base (Part index)) value child within = Contains-append_cases (base ∷ []) (flat_map (sized_part source) (step.Operand value ∷ [])) child within
sized-either source (ByField base (FieldOf field)) value child within = Contains-append_cases (base ∷ []) (flat_map (sized_part source) (step.Operand value ∷ [])) child within
sized-either source (ByField base (ElementAt n index)) value child within = Contains-append_cases (base ∷ index ∷ []) (flat_map (sized_part source) (step.Operand value ∷ [])) child within

lays-compound : (source : Source) (s0 s1 s2 new : Shape) (e : ℕ) (op : Operator) (to : Assigned) (value : ℕ) (place : GraphPlace) → node source e ≡ Some (expr.Compound op to value) → LowersAssigned source s0 s1 to place → (is_truth (unadjusted source value) ≡ false → LaysOut source s2 value) → Grows s1 new → Grows s2 new → IsLaidOutNode source e → LaysOut source new e
lays-compound source s0 s1 s2 new e op to value place form assigned below grows1 grows2 laid plain layouts f own = laid
lays-compound source s0 s1 s2 new e op to value place form assigned below grows1 grows2 laid plain layouts f (inside {child = child} within rest) =
    let part = plain-part source e child (sized_part_is_part source (node source e) child within) laid plain in
    ⊎_elim
    (λ target. assigned.laid child target part (layouts-before source s1 new grows1 layouts) f rest)
    (λ other.
    let operand = sized_operand source (value ∷ []) child other in
    (subst (λ c. is_truth (unadjusted source c) ≡ false → LaysOut source s2 c) (one-of value child operand.0) below) operand.1 part (layouts-before source s2 new grows2 layouts) f rest)
    (sized-either source to value child (subst (λ n. Contains (sized_parts source n) child) form within))

-- testing the first of operands once more changes nothing
either-twice : (one other : Bool) → (one || (one || other)) ≡ (one || other)
either-twice true other = refl
either-twice false other = refl

first-twice : (source : Source) (store : Store) (at : Place) (v : Operand) → (is_out_of_bounds source store at || some_out source store (At at ∷ v ∷ [])) ≡ some_out source store (At at ∷ v ∷ [])
unfolding some_out
first-twice source store at v = either-twice (is_out_of_bounds source store at) _

-- the assignment uses its place, which it reads as well, and its other operand
combined-out : (source : Source) (whole : Shape) (frame : Frame) (op : Operator) (place : GraphPlace) (left right : MirOperand) (at : Place) (v : Operand) (store : Store) (memory : Memory) → Holds whole frame store memory → Fits source (Copy place) whole frame (At at) → Fits source left.kind whole frame (At at) → Fits source right.kind whole frame v →
    assigns_out frame.program.world frame.body (number_held memory frame.cells) place (CheckedBinaryOp op left right) ≡ some_out source store (At at ∷ v ∷ [])
unfolding reads_out mir_out
combined-out source whole frame op place left right at v store memory holds to-fits left-fits right-fits =
    let numbers = number_held memory frame.cells in
    let both : reads_out frame.program.world frame.body numbers (CheckedBinaryOp op left right) ≡ some_out source store (At at ∷ v ∷ []) =
    two-out frame.program.world frame.body numbers left right ∙ some-out-same source whole frame store memory holds (left ∷ right ∷ []) (At at ∷ v ∷ []) (left-fits, (right-fits, tt)) in
    ap (λ one. one || reads_out frame.program.world frame.body numbers (CheckedBinaryOp op left right)) (to-fits.out store memory holds)
    ∙ ap (λ other. is_out_of_bounds source store at || other) both
    ∙ first-twice source store at v

-- a compound assignment was lowered: the place of its target, its value, and then one assignment
pub lowers-compound : (source : Source) (s0 s1 s2 new : Shape) (e : ℕ) (op : Operator) (to : Assigned) (value : ℕ) (left right : MirOperand) (place : GraphPlace) (span : MirSpan) (c : Cell) → IsReady source s0 e → node source e ≡ Some (expr.Compound op to value) → LowersAssigned source s0 s1 to place → LowersOperand source s1 s2 value right.kind → left.kind ≡ Copy place →
    new ≡ with_statement (writing place (CheckedBinaryOp op left right) span) s2 → LowersOwn source s0 new e c
lowers-compound source s0 s1 s2 new e op to value left right place span c ready form assigned given copies same =
    let st = writing place (CheckedBinaryOp op left right) span in
    let opened = given.keeps.«open» in
    let last : Grows s2 (with_statement st s2) = with_statement-grows st s2 opened in
    let last1 : Grows s1 (with_statement st s2) = grows-trans s1 s2 (with_statement st s2) given.keeps.grows last in
    subst (λ (n : Shape). LowersOwn source s0 n e c) (sym same)
    (record {
      keeps = record {
        grows = grows-trans s0 s1 (with_statement st s2) assigned.keeps.grows last1;
        spares = spares-trans s0 s1 (with_statement st s2) assigned.keeps.spares (spares-trans s1 s2 (with_statement st s2) given.keeps.spares (with_statement-spares st s2 opened));
        sound = with_statement-sound source st s2 opened given.keeps.sound;
        «open» = with_statement-open st s2 opened;
        scope =
            with_statement-scope st s2 opened ∙ given.keeps.scope
            ∙ ap (λ scope. scope ++ marked_as_operand source value) assigned.keeps.scope
            ∙ append_assoc s0.scope (marked_by_assigned source to) (marked_as_operand source value)
            ∙ ap (λ m. s0.scope ++ m) (sym (compound_marks source ready.checked e ready.within op to value form));
      };
      does = does-form source s0 (with_statement st s2) e c (Some (expr.Compound op to value)) form (record { reaches = reaches });
      laid = lays-compound source s0 s1 s2 (with_statement st s2) e op to value place form assigned given.laid last1 last;
    }) where
      reaches : (whole : Shape) (frame : Frame) → Grows (with_statement (writing place (CheckedBinaryOp op left right) span) s2) whole → IsSound source whole → IsFrameOf whole frame → (lands : Landings) (around : Around) → Stands whole s0 lands around → (fuel : ℕ) → Serves fuel source frame.program → (store : Store) (memory : Memory) → Holds whole frame store memory →
          Reaches source whole lands frame (here s0) (here (with_statement (writing place (CheckedBinaryOp op left right) span) s2)) memory (Nothing whole frame) (into_of source (level_at source fuel) (callees_at fuel) around e (Some (expr.Compound op to value)) (record { cell = c }) store)
      reaches whole frame grows sound frame-is lands around stands fuel serves store memory holds =
          let st = writing place (CheckedBinaryOp op left right) span in
          let opened = given.keeps.«open» in
          let below = level_at source fuel in
          let at = assigned.does.at in
          let around1 = marking (marked_by_assigned source to) around in
          let grown2 : Grows s2 whole = grows-trans s2 (with_statement st s2) whole (with_statement-grows st s2 opened) grows in
          let grown1 : Grows s1 whole = grows-trans s1 s2 whole given.keeps.grows grown2 in
          let is-at : IsAt whole place at = at-later s1 whole grown1 place at assigned.does.is in
          reaches-then source whole lands frame (here s0) (here s1) (here (with_statement st s2)) memory (LeadsTo at whole frame) (Nothing whole frame) (assigned_place source below around to store) _
          (assigned.does.does.reaches whole frame grown1 sound frame-is lands around stands fuel serves store memory holds)
          (λ path store1 memory1 claims1.
          subst (λ (p : Place). Reaches source whole lands frame (here s1) (here (with_statement st s2)) memory1 (Nothing whole frame) (then_do ((below around1).operand value store1) (λ v later. combined_at source op p v later))) (sym claims1.1)
          (reaches-then source whole lands frame (here s1) (here s2) (here (with_statement st s2)) memory1 (Fits source right.kind whole frame) (Nothing whole frame) ((below around1).operand value store1) _
          (given.does.reaches whole frame grown2 sound frame-is lands around1 (marking-fits assigned.keeps around stands) fuel serves store1 memory1 claims1.0)
          (λ v store2 memory2 claims2.
          let place-is = place-fits source whole frame place at sound frame-is serves.world is-at in
          let own-fits = subst (λ kind. Fits source kind whole frame (At at)) (sym copies) place-is in
          written-within source s2 whole frame place (CheckedBinaryOp op left right) span opened sound frame-is serves.world lands grows at is-at store2 memory2 claims2.0 (some_out source store2 (At at ∷ v ∷ []))
          (combined-out source whole frame op place left right at v store2 memory2 claims2.0 place-is own-fits claims2.1)
          (answer_at source store2 at (answered_for source.world None (Combine op) (values_of source store2 (At at ∷ v ∷ []))))
          (written-values source s2 whole frame place (CheckedBinaryOp op left right) span opened sound frame-is serves.world lands grows at is-at store2 memory2 claims2.0 None (Combine op) (values_of source store2 (At at ∷ v ∷ []))
          (λ both have.
          binary-agrees source.world None op left right frame both memory2
          (read-all source whole frame store2 memory2 claims2.0 (left ∷ right ∷ []) (At at ∷ v ∷ []) (own-fits, (claims2.1, tt)) both have))
          (λ both have. first-bytes source store2 at (v ∷ []) both have)))))

-- the refusal of the target of a compound assignment that is a path
pub refuses-combined : (source : Source) (e : ℕ) (error : MirLowerError) (op : Operator) (path value : ℕ) → node source e ≡ Some (expr.Compound op (ByPath path) value) → RefusesCombined source path error → RefusesAt source e error
refuses-combined source e (refusal.NotSupported text) op path value form refuses =
    refuses-here source e (refusal.NotSupported text) (refuses.0, subst (IsUnbuilt source e) (sym form) refuses.1)
refuses-combined source e (refusal.UnresolvedName name) op path value form refuses =
    refuses-here source e (refusal.UnresolvedName name) (subst (λ n. IsUnresolved source e n name) (sym form) refuses)
refuses-combined source e refusal.InaccessibleLocal op path value form refuses =
    refuses-here source e refusal.InaccessibleLocal (subst (LacksLocal source e) (sym form) refuses)
refuses-combined source e refusal.NoMemory op path value form refuses = refuses-no-memory source e refusal.NoMemory refl
refuses-combined source e (refusal.LayoutError l) op path value form refuses = absurd refuses
refuses-combined source e refusal.IncompleteExpr op path value form refuses = absurd refuses
refuses-combined source e refusal.HasErrors op path value form refuses = absurd refuses
refuses-combined source e refusal.ContinueWithoutLoop op path value form refuses = absurd refuses
refuses-combined source e refusal.BreakWithoutLoop op path value form refuses = absurd refuses
refuses-combined source e refusal.UnresolvedLabel op path value form refuses = absurd refuses
refuses-combined source e (refusal.TypeError text) op path value form refuses = absurd refuses
