-- Assignments: the value as a place, then that of the target, and then the bytes of the one are copied to the other.
use Rattle.std.proofs.Common.{◌≡◌, ◌||◌, ℕ, Bool, true, List, [], ◌∷◌, ◌++◌, Contains, Option, Some, option_and_then, if◌then◌else◌, inr, ⊎_elim, refl, sym, ap, ◌∙◌, subst, append_assoc, append-nil, arith}
use Rattle.std.specs.Prelude.{flat_map}
use Rattle.std.proofs.lemmas.List.Elements.{Contains-append_cases}
use Rattle.source_meaning.specs.Around.{marking}
use Rattle.source_meaning.specs.Core as expr
use Rattle.source_meaning.specs.Core.{Assignee, ByPattern, ByPlace, is_place, local_named}
use Rattle.world.specs.declared.infer.ValueNs.{ValueNs}
use Rattle.world.specs.declared.infer.ValueNs.TheVariants.{LocalBinding}
use Rattle.types.specs.declared.ids.BindingId.{BindingId}
use Rattle.mir.specs.declared.operand.Operand.{Operand as MirOperand}
use Rattle.mir.specs.declared.operand.OperandKind.TheVariants.{Copy}
use Rattle.mir.specs.declared.ids.LocalId.{LocalId}
use Rattle.mir.specs.declared.operand.Place.{Place as GraphPlace}
use Rattle.mir.specs.declared.operand.Rvalue.TheVariants.{Use}
use Rattle.mir.specs.declared.span.MirSpan.{MirSpan}
use Rattle.mir.specs.WholePlaces.{whole_place}
use Rattle.source_meaning.specs.Ends.{Stuck, then_do}
use Rattle.source_meaning.specs.Events.{marked_as_place, marked_by_assignee}
use Rattle.mir.specs.Memory.{Memory, number_held}
use Rattle.mir.specs.Run.{Frame, assigns_out, operand_out as mir_out, reads_out}
use Rattle.source_meaning.specs.Meaning.{level_at, assign_at, assignee_place, bound_place, copy_at}
use Rattle.source_meaning.specs.Places.{is_out_of_bounds, operand_out, place_bytes}
use Rattle.source_meaning.specs.Source.{Source, node, unadjusted, target, target_path, pattern_named_by, At, Cell, Binding, Operand, Place, Store, whole as place_of_cell}
use Rattle.source_meaning.specs.Steps.{assignee_parts, assignee_steps, parts_of}
use Rattle.source_meaning.specs.Valid.{NeedsLayout, own, inside, sized_part, sized_parts, IsLaidOutNode}
use Rattle.source_meaning.proofs.Depth.{assigned_is_part, assignee_is_part}
use Rattle.source_meaning.proofs.Marks.{assign_marks, pattern_target_marks, place_target_marks}
use Rattle.source_meaning.proofs.Parts.{nothing_is_contained, sized_part_is_part}
use Rattle.mir_lower.specs.Does.{here, Fits, Holds, IsAt, Reaches, Nothing, LeadsTo}
use Rattle.mir_graph.specs.Graph.{Shape, with_statement}
use Rattle.mir_lower.specs.Growth.{Grows, IsSound, IsOpen, IsReady}
use Rattle.mir_lower.specs.Leaving.{Idles}
use Rattle.mir_lower.specs.Lowered.{IsPlainWithin, Keeps, LaysOut, IsTargeted, Assigns, LowersAssignee, LowersPlace, LowersOwn}
use Rattle.mir_lower.proofs.Growing.{grows-refl, grows-trans, with_statement-grows}
use Rattle.mir_lower.proofs.Laid.{layouts-before, plain-part, one-of}
use Rattle.mir_lower.proofs.Operations.{keeps-assigned, copy-computes, copy-fits}
use Rattle.mir_lower.proofs.Projecting.{at-later, whole-at}
use Rattle.mir_lower.proofs.Reading.{place-fits}
use Rattle.mir_lower.proofs.Reaching.{comes-refl, reaches-then}
use Rattle.mir_lower.proofs.Sparing.{spares-refl, spares-trans}
use Rattle.mir_lower.proofs.Standing.{marking-fits, stands-in, stands-with}
use Rattle.mir_lower.proofs.Steps.{reaches-from, does-form}
use Rattle.mir_lower.proofs.Writing.{writing, written-copy, written-within}

-- the value is a part, and so is the expression that the target is
pub value-part : (source : Source) (e : ℕ) (to : Assignee) (value : ℕ) → node source e ≡ Some (expr.Assign to value) → Contains (parts_of (node source e)) value
value-part source e to value form = assigned_is_part source e to value form

pub target-part : (source : Source) (e held value : ℕ) → node source e ≡ Some (expr.Assign (ByPlace held) value) → Contains (parts_of (node source e)) held
target-part source e held value form = assignee_is_part source e (ByPlace held) value held form (0, omega arith, refl)

-- a target that is a path to a binding names it
pub names-target : (source : Source) (p : ℕ) (name : List ℕ) (named : ValueNs) (binding : BindingId) → Some name ≡ target_path source p → Some named ≡ pattern_named_by source p → named ≡ LocalBinding binding → target source p ≡ Some binding
names-target source p name named binding path found is =
    ap (option_and_then (λ given. option_and_then local_named (pattern_named_by source p))) (sym path)
    ∙ ap (option_and_then local_named) (sym found ∙ ap Some is)

-- a graph to which nothing is added is kept
pub keeps-none : (source : Source) (s : Shape) (marked : List Cell) → IsSound source s → IsOpen s → marked ≡ [] → Keeps source s s marked
keeps-none source s marked sound opened none =
    record {
      grows = grows-refl s;
      spares = spares-refl s;
      sound = sound;
      «open» = opened;
      scope = sym (ap (λ m. s.scope ++ m) none ∙ append-nil s.scope);
    }

-- the place of a path is that of the binding that it names
pub lowers-target-path : (source : Source) (s : Shape) (pat : ℕ) (local : LocalId) → IsSound source s → IsOpen s → IsTargeted source s pat local.0 → LowersAssignee source s s (ByPattern pat) (whole_place local)
lowers-target-path source s pat local sound opened targeted =
    let at = place_of_cell (Binding targeted.binding.0) in
    record {
      keeps = keeps-none source s (marked_by_assignee source (ByPattern pat)) sound opened (pattern_target_marks source pat);
      does = record {
        at = at;
        is = whole-at s local (Binding targeted.binding.0) targeted.found;
        does = record {
          reaches = λ whole frame grows whole-sound is lands around stands fuel serves store memory holds.
              subst (λ (b : Option BindingId). Reaches source whole lands frame (here s) (here s) memory (LeadsTo at whole frame) (bound_place b store)) (sym targeted.names)
              (inr (memory, comes-refl frame (here s) memory, holds, refl));
        };
      };
      laid = λ child within. absurd (nothing_is_contained child within);
    }

-- that of an expression which names a place is its own
pub lowers-target-place : (source : Source) (s0 s1 : Shape) (e : ℕ) (place : GraphPlace) → is_place (unadjusted source e) ≡ true → LowersPlace source s0 s1 e place → LowersAssignee source s0 s1 (ByPlace e) place
lowers-target-place source s0 s1 e place named lowered =
    record {
      keeps = subst (λ (m : List Cell). Keeps source s0 s1 m) (sym (place_target_marks source e)) lowered.keeps;
      does = record {
        at = lowered.does.at;
        is = lowered.does.is;
        does = record {
          reaches = λ whole frame grows sound is lands around stands fuel serves store memory holds.
              subst (λ (test : Bool). Reaches source whole lands frame (here s0) (here s1) memory (LeadsTo lowered.does.at whole frame) (if test then (level_at source fuel around).place e store else Stuck)) (sym named)
              (lowered.does.does.reaches whole frame grows sound is lands around stands fuel serves store memory holds);
        };
      };
      laid = λ child within. subst (LaysOut source s1) (one-of e child within) lowered.laid;
    }

-- an assignment of a copy uses a place that is out of bounds just where the source's does
assign-out : (source : Source) (whole : Shape) (frame : Frame) (to : GraphPlace) (operand : MirOperand) (place : Place) (value : Operand) (store : Store) (memory : Memory) → Holds whole frame store memory → Fits source (Copy to) whole frame (At place) → Fits source operand.kind whole frame value →
    assigns_out frame.program.world frame.body (number_held memory frame.cells) to (Use operand) ≡ (is_out_of_bounds source store place || operand_out source store value)
unfolding reads_out mir_out
assign-out source whole frame to operand place value store memory holds to-fits fits =
    ap (λ one. one || mir_out frame.program.world frame.body (number_held memory frame.cells) operand.kind) (to-fits.out store memory holds)
    ∙ ap (λ other. is_out_of_bounds source store place || other) (fits.out store memory holds)

-- the bytes of one place are copied to another
pub assigns-place : (source : Source) (s new : Shape) (to from : GraphPlace) (operand : MirOperand) (span : MirSpan) → IsSound source s → IsOpen s → operand.kind ≡ Copy from → new ≡ with_statement (writing to (Use operand) span) s → (place at : Place) → IsAt s to place → IsAt s from at → Assigns source s new place at
assigns-place source s new to from operand span sound opened copies same place at is-to is-from =
    let st = writing to (Use operand) span in
    subst (λ (n : Shape). Assigns source s n place at) (sym same)
    (record {
      keeps = keeps-assigned source s st sound opened;
      does = record {
        reaches = λ whole frame grows whole-sound is lands around stands fuel serves store memory holds.
            let grown : Grows s whole = grows-trans s (with_statement st s) whole (with_statement-grows st s opened) grows in
            let to-is = at-later s whole grown to place is-to in
            let from-is = at-later s whole grown from at is-from in
            written-within source s whole frame to (Use operand) span opened whole-sound is serves.world lands grows place to-is store memory holds (is_out_of_bounds source store place || is_out_of_bounds source store at)
            (assign-out source whole frame to operand place (At at) store memory holds (place-fits source whole frame to place whole-sound is serves.world to-is) (copy-fits source whole frame from at operand copies whole-sound is serves.world from-is))
            (copy_at source store place (place_bytes source store at))
            (written-copy source s whole frame to (Use operand) span opened whole-sound is serves.world lands grows place to-is store memory holds (place_bytes source store at)
            (copy-computes source whole frame from at operand copies whole-sound is serves.world from-is store memory holds));
      };
    })

-- the types of what an assignment evaluates
sized-target : (source : Source) (to : Assignee) (child : ℕ) → Contains (flat_map (sized_part source) (assignee_steps to)) child → Contains (assignee_parts to) child
sized-target source (ByPattern pat) child within = within
sized-target source (ByPlace e) child within = within

lays-assign : (source : Source) (s0 s1 s2 s3 new : Shape) (e : ℕ) (to : Assignee) (value : ℕ) (from place : GraphPlace) → node source e ≡ Some (expr.Assign to value) → LowersPlace source s0 s1 value from → LowersAssignee source s2 s3 to place → Grows s1 new → Grows s3 new → IsLaidOutNode source e → LaysOut source new e
lays-assign source s0 s1 s2 s3 new e to value from place form given assignee grows1 grows3 laid plain layouts f own = laid
lays-assign source s0 s1 s2 s3 new e to value from place form given assignee grows1 grows3 laid plain layouts f (inside {child = child} within rest) =
    let below = plain-part source e child (sized_part_is_part source (node source e) child within) laid plain in
    ⊎_elim
    (λ one.
    let same : value ≡ child = one-of value child one in
    given.laid (subst (IsPlainWithin source) (sym same) below) (layouts-before source s1 new grows1 layouts) f (subst (λ x. NeedsLayout source x f) (sym same) rest))
    (λ other. assignee.laid child (sized-target source to child other) below (layouts-before source s3 new grows3 layouts) f rest)
    (Contains-append_cases (value ∷ []) (flat_map (sized_part source) (assignee_steps to)) child (subst (λ n. Contains (sized_parts source n) child) form within))

-- an assignment: the value's place, which is noted as read, that of the target, and then the bytes are copied
pub lowers-assign : (source : Source) (s0 s1 s2 s3 new : Shape) (e : ℕ) (to : Assignee) (value : ℕ) (from place : GraphPlace) (c : Cell) → IsReady source s0 e → node source e ≡ Some (expr.Assign to value) → (given : LowersPlace source s0 s1 value from) → Idles source s1 s2 0 → (assignee : LowersAssignee source s2 s3 to place) →
    ((at other : Place) → IsAt s3 place at → IsAt s3 from other → Assigns source s3 new at other) → LowersOwn source s0 new e c
lowers-assign source s0 s1 s2 s3 new e to value from place c ready form given idles assignee assigning =
    let other = given.does.at in
    let at = assignee.does.at in
    let later : Grows s1 s3 = grows-trans s1 s2 s3 idles.grows assignee.keeps.grows in
    let assigns = assigning at other assignee.does.is (at-later s1 s3 later from other given.does.is) in
    let last1 : Grows s1 new = grows-trans s1 s3 new later assigns.keeps.grows in
    record {
      keeps = record {
        grows = grows-trans s0 s1 new given.keeps.grows last1;
        spares = spares-trans s0 s1 new given.keeps.spares (spares-trans s1 s2 new idles.spares (spares-trans s2 s3 new assignee.keeps.spares assigns.keeps.spares));
        sound = assigns.keeps.sound;
        «open» = assigns.keeps.«open»;
        scope =
            assigns.keeps.scope ∙ append-nil s3.scope ∙ assignee.keeps.scope
            ∙ ap (λ scope. scope ++ marked_by_assignee source to) (idles.scope ∙ given.keeps.scope)
            ∙ append_assoc s0.scope (marked_as_place source value) (marked_by_assignee source to)
            ∙ ap (λ m. s0.scope ++ m) (sym (assign_marks source ready.checked e ready.within to value form));
      };
      does = does-form source s0 new e c (Some (expr.Assign to value)) form (record {
        reaches = λ whole frame grows sound is lands around stands fuel serves store memory holds.
            let below = level_at source fuel in
            let grown3 : Grows s3 whole = grows-trans s3 new whole assigns.keeps.grows grows in
            let grown2 : Grows s2 whole = grows-trans s2 s3 whole assignee.keeps.grows grown3 in
            let around1 = marking (marked_as_place source value) around in
            reaches-then source whole lands frame (here s0) (here s1) (here new) memory (LeadsTo other whole frame) (Nothing whole frame) ((below around).place value store) _
            (given.does.does.reaches whole frame (grows-trans s1 s2 whole idles.grows grown2) sound is lands around stands fuel serves store memory holds)
            (λ path1 store1 memory1 claims1.
            subst (λ (p : Place). Reaches source whole lands frame (here s1) (here new) memory1 (Nothing whole frame) (then_do (assignee_place source (below around1) to store1) (λ q last. assign_at source q p last))) (sym claims1.1)
            (reaches-from source whole lands frame (here s1) (here s2) (here new) memory1 (Nothing whole frame) (idles.comes whole frame grown2 is memory1) _
            (reaches-then source whole lands frame (here s2) (here s3) (here new) memory1 (LeadsTo at whole frame) (Nothing whole frame) (assignee_place source (below around1) to store1) _
            (assignee.does.does.reaches whole frame grown3 sound is lands around1 (stands-in idles.scope idles.spares.targets (marking-fits given.keeps around stands)) fuel serves store1 memory1 claims1.0)
            (λ path2 store2 memory2 claims2.
            subst (λ (q : Place). Reaches source whole lands frame (here s3) (here new) memory2 (Nothing whole frame) (assign_at source q other store2)) (sym claims2.1)
            (assigns.does.reaches whole frame grows sound is lands (record around { marks = s3.scope }) (stands-with (assignee.keeps.spares.targets ∙ idles.spares.targets ∙ given.keeps.spares.targets) stands) fuel serves store2 memory2 claims2.0)))));
      });
      laid = lays-assign source s0 s1 s2 s3 new e to value from place form given assignee last1 assigns.keeps.grows;
    }
