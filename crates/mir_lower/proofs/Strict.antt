-- Strict forms: operands from left to right, and then one assignment of what the operation makes of them.
use Rattle.std.proofs.Common.{arith, ◌≡◌, ℕ, false, List, [], ◌∷◌, ◌++◌, flat_map, Contains, Some, refl, sym, ap, ◌∙◌, subst, append_assoc, append-nil, ⊎_elim, inr}
use Rattle.std.proofs.lemmas.List.Elements.{Contains-append_cases}
use Rattle.mir.specs.declared.operand.Operand.{Operand as MirOperand}
use Rattle.mir.specs.declared.operand.OperandKind.{OperandKind}
use Rattle.mir.specs.declared.ids.LocalId.{LocalId}
use Rattle.mir.specs.declared.operand.Rvalue.{Rvalue}
use Rattle.mir.specs.declared.span.MirSpan.{MirSpan}
use Rattle.mir.specs.Memory.{Memory, number_held}
use Rattle.mir.specs.Run.{Frame}
use Rattle.source_meaning.specs.Around.{Around, marking}
use Rattle.source_meaning.specs.Core.{Operation, Negate, Invert, Keep, Convert, Combine, MakeTuple, MakeArray, Repeat, MakeStruct, Strict, is_truth}
use Rattle.source_meaning.specs.Ends.{Go, then_do, no_cost}
use Rattle.source_meaning.specs.Events.{marked_as_operand}
use Rattle.source_meaning.specs.Meaning.{Levels, answered_for, level_at, callees_at, made_into, operands_of, operated_into, into_of, put_answer, values_of, within_bounds}
use Rattle.source_meaning.specs.Places.{some_out}
use Rattle.source_meaning.specs.Source.{Source, node, own_type, unadjusted, Cell, Operand, Store}
use Rattle.source_meaning.specs.Structs.{picked}
use Rattle.source_meaning.specs.Steps.{parts_of}
use Rattle.source_meaning.specs.Valid.{own, inside, sized_parts, IsLaidOutNode}
use Rattle.source_meaning.proofs.Depth.{operand_is_part}
use Rattle.source_meaning.proofs.Marks.{strict_marks}
use Rattle.source_meaning.proofs.Parts.{sized_operand}
use Rattle.mir_lower.specs.Callees.{Serves}
use Rattle.mir_lower.specs.Does.{Stands, here, IsFrameOf, Holds, Landings, Reaches, Nothing, Fits, FitAll}
use Rattle.mir_graph.specs.Graph.{Shape, with_statement, local_of}
use Rattle.mir_lower.specs.Growth.{Grows, IsSound, IsOpen, IsReady}
use Rattle.mir_lower.specs.Lowered.{LaysOut, LowersOwn, LowersOperand, LowersOperands}
use Rattle.body_forms.specs.Operations.{IsRvalueOf}
use Rattle.mir_lower.proofs.Growing.{grows-refl, grows-trans, with_statement-grows}
use Rattle.mir_lower.proofs.Laid.{layouts-before, plain-part, one-of}
use Rattle.mir_lower.proofs.Made.{fit-picked, made-reaches}
use Rattle.mir_lower.proofs.Operations.{assignment}
use Rattle.mir_lower.proofs.Reaching.{comes-refl, reaches-then}
use Rattle.mir_lower.proofs.Rvalues.{IsNoStruct, kinds, read-all, rvalue-computes, rvalue-reads}
use Rattle.mir_lower.proofs.Sound.{with_statement-sound, with_statement-open, with_statement-scope}
use Rattle.mir_lower.proofs.Sparing.{spares-refl, spares-trans, with_statement-spares}
use Rattle.mir_lower.proofs.Standing.{marking-fits}
use Rattle.mir_lower.proofs.Steps.{local_of-grows, assigned-values, assigned-within, does-form}
use Rattle.mir_lower.proofs.Within.{some-out-same}

no-operands : (source : Source) (below : Levels) (around : Around) (store : Store) → operands_of source below around [] store ≡ Go [] store no_cost
unfolding operands_of
no-operands source below around store = refl

first-operand : (source : Source) (below : Levels) (around : Around) (e : ℕ) (rest : List ℕ) (store : Store) → operands_of source below around (e ∷ rest) store ≡ then_do ((below around).operand e store) (λ first later. then_do (operands_of source below (marking (marked_as_operand source e) around) rest later) (λ others last. Go (first ∷ others) last no_cost))
unfolding operands_of
first-operand source below around e rest store = refl

pub lowers-no-operand : (source : Source) (s : Shape) → IsSound source s → IsOpen s → LowersOperands source s s [] []
lowers-no-operand source s sound opened =
    record {
      keeps = record { grows = grows-refl s; spares = spares-refl s; sound = sound; «open» = opened; scope = sym (append-nil s.scope) };
      does = record {
        reaches = λ whole frame grows whole-sound is lands around stands fuel serves store memory holds.
            subst (Reaches source whole lands frame (here s) (here s) memory (FitAll source [] whole frame)) (sym (no-operands source (level_at source fuel) around store))
            (inr (memory, comes-refl frame (here s) memory, holds, tt));
      };
      laid = λ e within. absurd (let below = within.1 in omega arith);
    }

-- an operand, and then others
pub lowers-more-operands : (source : Source) (s0 s1 s2 : Shape) (e : ℕ) (rest : List ℕ) (operand : OperandKind) (operands : List OperandKind) → LowersOperand source s0 s1 e operand → LowersOperands source s1 s2 rest operands → LowersOperands source s0 s2 (e ∷ rest) (operand ∷ operands)
lowers-more-operands source s0 s1 s2 e rest operand operands first others =
    record {
      keeps = record {
        grows = grows-trans s0 s1 s2 first.keeps.grows others.keeps.grows;
        spares = spares-trans s0 s1 s2 first.keeps.spares others.keeps.spares;
        sound = others.keeps.sound;
        «open» = others.keeps.«open»;
        scope =
            others.keeps.scope ∙ ap (λ scope. scope ++ flat_map (marked_as_operand source) rest) first.keeps.scope
            ∙ append_assoc s0.scope (marked_as_operand source e) (flat_map (marked_as_operand source) rest);
      };
      does = record {
        reaches = λ whole frame grows sound is lands around stands fuel serves store memory holds.
            let below = level_at source fuel in
            let behind : Around = marking (marked_as_operand source e) around in
            subst (Reaches source whole lands frame (here s0) (here s2) memory (FitAll source (operand ∷ operands) whole frame)) (sym (first-operand source below around e rest store))
            (reaches-then source whole lands frame (here s0) (here s1) (here s2) memory (Fits source operand whole frame) (FitAll source (operand ∷ operands) whole frame) ((below around).operand e store) _
            (first.does.reaches whole frame (grows-trans s1 s2 whole others.keeps.grows grows) sound is lands around stands fuel serves store memory holds)
            (λ v store1 memory1 claims1.
            reaches-then source whole lands frame (here s1) (here s2) (here s2) memory1 (FitAll source operands whole frame) (FitAll source (operand ∷ operands) whole frame) (operands_of source below behind rest store1) _
            (others.does.reaches whole frame grows sound is lands behind (marking-fits first.keeps around stands) fuel serves store1 memory1 claims1.0)
            (λ values store2 memory2 claims2. inr (memory2, comes-refl frame (here s2) memory2, claims2.0, (claims1.1, claims2.1)))));
      };
      laid = λ child within truth plain layouts. ⊎_elim
          (λ here'. let same = one-of e child here' in
          subst (LaysOut source s2) same (λ plain' layouts'. first.laid (subst (λ x. is_truth (unadjusted source x) ≡ false) (sym same) truth) plain' (layouts-before source s1 s2 others.keeps.grows layouts')) plain layouts)
          (λ later. others.laid child later truth plain layouts)
          (Contains-append_cases (e ∷ []) rest child within);
    }

lays-strict : (source : Source) (s1 new : Shape) (e : ℕ) (operation : Operation) (es : List ℕ) → node source e ≡ Some (Strict operation es) → ((child : ℕ) → Contains es child → is_truth (unadjusted source child) ≡ false → LaysOut source s1 child) → Grows s1 new → IsLaidOutNode source e → LaysOut source new e
lays-strict source s1 new e operation es form below grows laid plain layouts f own = laid
lays-strict source s1 new e operation es form below grows laid plain layouts f (inside {child = child} within rest) =
    let operand = sized_operand source es child (subst (λ n. Contains (sized_parts source n) child) form within) in
    below child operand.0 operand.1 (plain-part source e child (operand_is_part source e operation es child form operand.0) laid plain) (layouts-before source s1 new grows layouts) f rest

-- The assignment of what an operation makes of its operands, which fit those of the source: an operation that makes no struct, and any.
operates-on-values : (source : Source) (s whole : Shape) (frame : Frame) (e : ℕ) (operation : Operation) (operands : List MirOperand) (rvalue : Rvalue) (to : LocalId) (span : MirSpan) → IsNoStruct operation → IsRvalueOf source e operation operands rvalue → IsOpen s → IsSound source whole → IsFrameOf whole frame → frame.program.world ≡ source.world → (lands : Landings) → Grows (with_statement (assignment to rvalue span) s) whole → (c : Cell) → local_of whole c ≡ Some to.0 → (store : Store) (memory : Memory) → Holds whole frame store memory → (values : List Operand) → FitAll source (kinds operands) whole frame values →
    Reaches source whole lands frame (here s) (here (with_statement (assignment to rvalue span) s)) memory (Nothing whole frame) (within_bounds (some_out source store values) (put_answer store (record { cell = c }) (answered_for source.world (own_type source e) operation (values_of source store values))))
operates-on-values source s whole frame e operation operands rvalue to span none made opened sound is world lands grows c local store memory holds values fit =
    assigned-within source s whole frame to rvalue span opened sound is lands grows c local store memory holds (some_out source store values)
    (rvalue-reads frame.program.world frame.body (number_held memory frame.cells) source e operation operands rvalue none made ∙ some-out-same source whole frame store memory holds operands values fit)
    (put_answer store (record { cell = c }) (answered_for source.world (own_type source e) operation (values_of source store values)))
    (λ within. assigned-values source s whole frame to rvalue span opened sound is lands grows c local store memory holds (own_type source e) operation (values_of source store values)
    (λ given have. rvalue-computes source e operation operands rvalue none made frame given memory world (read-all source whole frame store memory holds operands values fit given have)))

operates : (source : Source) (s whole : Shape) (frame : Frame) (e : ℕ) (operation : Operation) (operands : List MirOperand) (rvalue : Rvalue) (to : LocalId) (span : MirSpan) → IsRvalueOf source e operation operands rvalue → IsOpen s → IsSound source whole → IsFrameOf whole frame → frame.program.world ≡ source.world → (lands : Landings) → Grows (with_statement (assignment to rvalue span) s) whole → (c : Cell) → local_of whole c ≡ Some to.0 → (store : Store) (memory : Memory) → Holds whole frame store memory → (values : List Operand) → FitAll source (kinds operands) whole frame values →
    Reaches source whole lands frame (here s) (here (with_statement (assignment to rvalue span) s)) memory (Nothing whole frame) (operated_into source e operation values (record { cell = c }) store)
operates source s whole frame e Negate operands rvalue to span made opened sound is world lands grows c local store memory holds values fit = operates-on-values source s whole frame e Negate operands rvalue to span tt made opened sound is world lands grows c local store memory holds values fit
operates source s whole frame e Invert operands rvalue to span made opened sound is world lands grows c local store memory holds values fit = operates-on-values source s whole frame e Invert operands rvalue to span tt made opened sound is world lands grows c local store memory holds values fit
operates source s whole frame e Keep operands rvalue to span made opened sound is world lands grows c local store memory holds values fit = operates-on-values source s whole frame e Keep operands rvalue to span tt made opened sound is world lands grows c local store memory holds values fit
operates source s whole frame e Convert operands rvalue to span made opened sound is world lands grows c local store memory holds values fit = operates-on-values source s whole frame e Convert operands rvalue to span tt made opened sound is world lands grows c local store memory holds values fit
operates source s whole frame e (Combine op) operands rvalue to span made opened sound is world lands grows c local store memory holds values fit = operates-on-values source s whole frame e (Combine op) operands rvalue to span tt made opened sound is world lands grows c local store memory holds values fit
operates source s whole frame e MakeTuple operands rvalue to span made opened sound is world lands grows c local store memory holds values fit = operates-on-values source s whole frame e MakeTuple operands rvalue to span tt made opened sound is world lands grows c local store memory holds values fit
operates source s whole frame e MakeArray operands rvalue to span made opened sound is world lands grows c local store memory holds values fit = operates-on-values source s whole frame e MakeArray operands rvalue to span tt made opened sound is world lands grows c local store memory holds values fit
operates source s whole frame e Repeat operands rvalue to span made opened sound is world lands grows c local store memory holds values fit = operates-on-values source s whole frame e Repeat operands rvalue to span tt made opened sound is world lands grows c local store memory holds values fit
operates source s whole frame e (MakeStruct id args places) operands rvalue to span made opened sound is world lands grows c local store memory holds values fit =
    subst (λ r. Grows (with_statement (assignment to r span) s) whole → Reaches source whole lands frame (here s) (here (with_statement (assignment to r span) s)) memory (Nothing whole frame) (made_into source id args (picked places values) (record { cell = c }) store)) (sym made.is)
    (λ more. made-reaches source s whole frame to id args made.fields span opened sound is world lands more c local store memory holds (picked places values) (fit-picked source whole frame operands values fit places made.fields made.picks))
    grows

-- a strict form was lowered: its operands, and then one assignment
pub lowers-strict : (source : Source) (s0 s1 new : Shape) (e : ℕ) (operation : Operation) (es : List ℕ) (operands : List MirOperand) (rvalue : Rvalue) (to : LocalId) (span : MirSpan) → IsReady source s0 e → node source e ≡ Some (Strict operation es) → LowersOperands source s0 s1 es (kinds operands) → IsRvalueOf source e operation operands rvalue → new ≡ with_statement (assignment to rvalue span) s1 → (c : Cell) → local_of s0 c ≡ Some to.0 → LowersOwn source s0 new e c
lowers-strict source s0 s1 new e operation es operands rvalue to span ready form given is same c local =
    let st = assignment to rvalue span in
    let opened = given.keeps.«open» in
    let last : Grows s1 (with_statement st s1) = with_statement-grows st s1 opened in
    subst (λ (n : Shape). LowersOwn source s0 n e c) (sym same)
    (record {
      keeps = record {
        grows = grows-trans s0 s1 (with_statement st s1) given.keeps.grows last;
        spares = spares-trans s0 s1 (with_statement st s1) given.keeps.spares (with_statement-spares st s1 opened);
        sound = with_statement-sound source st s1 opened given.keeps.sound;
        «open» = with_statement-open st s1 opened;
        scope = with_statement-scope st s1 opened ∙ given.keeps.scope ∙ ap (λ m. s0.scope ++ m) (sym (strict_marks source ready.checked e ready.within operation es form));
      };
      does = does-form source s0 (with_statement st s1) e c (Some (Strict operation es)) form (record { reaches = reaches });
      laid = lays-strict source s1 (with_statement st s1) e operation es form given.laid last;
    }) where
      reaches : (whole : Shape) (frame : Frame) → Grows (with_statement (assignment to rvalue span) s1) whole → IsSound source whole → IsFrameOf whole frame → (lands : Landings) (around : Around) → Stands whole s0 lands around → (fuel : ℕ) → Serves fuel source frame.program → (store : Store) (memory : Memory) → Holds whole frame store memory → Reaches source whole lands frame (here s0) (here (with_statement (assignment to rvalue span) s1)) memory (Nothing whole frame) (into_of source (level_at source fuel) (callees_at fuel) around e (Some (Strict operation es)) (record { cell = c }) store)
      reaches whole frame grows sound frame-is lands around stands fuel serves store memory holds =
          let st = assignment to rvalue span in
          let opened = given.keeps.«open» in
          let grown : Grows s1 whole = grows-trans s1 (with_statement st s1) whole (with_statement-grows st s1 opened) grows in
          let found = local_of-grows s0 whole (grows-trans s0 s1 whole given.keeps.grows grown) c to.0 local in
          reaches-then source whole lands frame (here s0) (here s1) (here (with_statement st s1)) memory (FitAll source (kinds operands) whole frame) (Nothing whole frame) (operands_of source (level_at source fuel) around es store) _
          (given.does.reaches whole frame grown sound frame-is lands around stands fuel serves store memory holds)
          (λ values store1 memory1 claims. operates source s1 whole frame e operation operands rvalue to span is opened sound frame-is serves.world lands grows c found store1 memory1 claims.0 values claims.1)

-- the operands of an operator on one operand, and on two
pub lowers-one : (source : Source) (s0 s1 : Shape) (e : ℕ) (operand : OperandKind) → LowersOperand source s0 s1 e operand → LowersOperands source s0 s1 (e ∷ []) (operand ∷ [])
lowers-one source s0 s1 e operand lowered = lowers-more-operands source s0 s1 s1 e [] operand [] lowered (lowers-no-operand source s1 lowered.keeps.sound lowered.keeps.«open»)

pub lowers-two : (source : Source) (s0 s1 s2 : Shape) (lhs rhs : ℕ) (left right : OperandKind) → LowersOperand source s0 s1 lhs left → LowersOperand source s1 s2 rhs right → LowersOperands source s0 s2 (lhs ∷ rhs ∷ []) (left ∷ right ∷ [])
lowers-two source s0 s1 s2 lhs rhs left right first second = lowers-more-operands source s0 s1 s2 lhs (rhs ∷ []) left (right ∷ []) first (lowers-one source s1 s2 rhs right second)

-- an operand of a strict form is a part of it
pub first-part : (source : Source) (e lhs : ℕ) (rest : List ℕ) (operation : Operation) → node source e ≡ Some (Strict operation (lhs ∷ rest)) → Contains (parts_of (node source e)) lhs
first-part source e lhs rest operation form = operand_is_part source e operation (lhs ∷ rest) lhs form (0, omega arith, refl)

pub second-part : (source : Source) (e lhs rhs : ℕ) (operation : Operation) → node source e ≡ Some (Strict operation (lhs ∷ rhs ∷ [])) → Contains (parts_of (node source e)) rhs
second-part source e lhs rhs operation form = operand_is_part source e operation (lhs ∷ rhs ∷ []) rhs form (1, omega arith, refl)
