-- Fields: the place of a part, by the place of its base, and its bytes.
use Rattle.std.proofs.Common.{◌≡◌, ◌<◌, ℕ, zero, suc, length, List, [], ◌∷◌, ◌++◌, flat_map, Contains, Some, option_and_then, inr, ⊎_elim, refl, sym, ap, ◌∙◌, subst, append_assoc, append-nil}
use Rattle.std.proofs.lemmas.List.Elements.{Contains-append_cases}
use Rattle.std.proofs.lemmas.Option.{option_and_then_some, slice_get_within}
use Rattle.world.specs.Lookups.{expr_of}
use Rattle.types.specs.declared.ty.Ty.{Ty}
use Rattle.world.specs.Lookups.{layout_of}
use Rattle.mir.specs.declared.operand.Operand.{Operand as MirOperand}
use Rattle.mir.specs.declared.operand.OperandKind.TheVariants.{Copy}
use Rattle.mir.specs.declared.operand.Place.{Place as GraphPlace}
use Rattle.mir.specs.declared.operand.Rvalue.TheVariants.{Use}
use Rattle.mir.specs.declared.span.MirSpan.{MirSpan}
use Rattle.mir.specs.declared.ids.LocalId.{LocalId}
use Rattle.mir.specs.declared.projection.ProjectionElem.TheVariants.{Index}
use Rattle.mir.specs.Elements.{PlaceElem as GraphElem}
use Rattle.mir.specs.Memory.{Memory}
use Rattle.mir.specs.Run.{Frame}
use Rattle.source_meaning.specs.Aggregates.{HasAggregates}
use Rattle.source_meaning.specs.Around.{Around, marking}
use Rattle.source_meaning.specs.Core as expr
use Rattle.source_meaning.specs.Core.{ElementAt, FieldOf, Part, PlaceElem}
use Rattle.source_meaning.specs.Ends.{no_cost, Go}
use Rattle.source_meaning.specs.Events.{marked, marked_as_place, marked_by_elem}
use Rattle.source_meaning.specs.Meaning.{Levels, level_at, field_place, place_of, read_into, stepped}
use Rattle.source_meaning.specs.Source.{Source, node, unadjusted, node_type, index_in, index_of, At, Cell, IndexOf, Place, projected, Store}
use Rattle.source_meaning.specs.Steps.{field_parts, field_steps, parts_of}
use Rattle.source_meaning.specs.Valid.{EvaluatesIn, opened_in, itself, part, part_in, HasPlainForm, IsPlainField, IsPlainNode, IsLaidOut, IsLaidOutNode, NeedsLayout, own, inside, sized_part, sized_parts}
use Rattle.source_meaning.proofs.Depth.{evaluates_then, field_base_is_part}
use Rattle.source_meaning.proofs.Elements.{elem-laid}
use Rattle.source_meaning.proofs.Indices.{HasOwnIndex, index_cell_type}
use Rattle.source_meaning.proofs.Marks.{element_marks, field_marks, no_elem_marks_field, no_elem_marks_part, part_marks}
use Rattle.source_meaning.proofs.Never.{unadjusted-plain}
use Rattle.source_meaning.proofs.Parts.{first_is_contained, rest_is_contained, sized_part_is_part}
use Rattle.mir_lower.specs.Callees.{Serves}
use Rattle.mir_lower.specs.Does.{here, Holds, IsElement, IsFrameOf, LeadsTo, Landings, Nothing, Reaches, Stands, DoesField}
use Rattle.mir_graph.specs.Graph.{Shape, IsProjected, local_of, with_statement}
use Rattle.mir_lower.specs.Growth.{ArePartsReady, Grows, HasEvaluatedIndex, HasIndex, IsReady, IsSound}
use Rattle.mir_lower.specs.Lowered.{IsGiven, IsPlainWithin, LaysOut, LowersField, LowersIndex, LowersInto, LowersOwn, LowersPlace, Keeps}
use Rattle.mir_lower.specs.Runs.{run_from}
use Rattle.mir_lower.proofs.Growing.{grows-trans, with_statement-grows}
use Rattle.mir_lower.proofs.Laid.{laid-unadjusted, layouts-before, one-of, plain-part}
use Rattle.mir_lower.proofs.Operations.{assigned-read, assignment, copy-fits}
use Rattle.mir_lower.proofs.Projecting.{at-later, projected-at, projected-grows, projected-here, projected-open, projected-scope, projected-sound, projected-spares}
use Rattle.mir_lower.proofs.Reaching.{comes-refl, none-entered, reaches-then}
use Rattle.mir_lower.proofs.Serving.{serves-less}
use Rattle.mir_lower.proofs.Sound.{with_statement-sound, with_statement-open, with_statement-scope}
use Rattle.mir_lower.proofs.Sparing.{spares-trans, with_statement-spares}
use Rattle.mir_lower.proofs.Standing.{marking-fits}
use Rattle.mir_lower.proofs.Steps.{local_of-grows, reaches-from, does-form}

-- what a field evaluates are parts of it
pub base-part : (source : Source) (e base : ℕ) (elem : PlaceElem) → node source e ≡ Some (expr.Field base elem) → Contains (parts_of (node source e)) base
base-part source e base elem form = field_base_is_part source e base elem form

pub field-part : (source : Source) (e base : ℕ) (elem : PlaceElem) → node source e ≡ Some (expr.Field base elem) → (child : ℕ) → Contains (field_parts base elem) child → Contains (parts_of (node source e)) child
field-part source e base elem form child within = subst (λ n. Contains (parts_of n) child) (sym form) within

-- the base is among them, and so is the index of an element
pub base-among : (base : ℕ) (elem : PlaceElem) → Contains (field_parts base elem) base
base-among base elem = first_is_contained base _

pub index-among : (base n index : ℕ) → Contains (field_parts base (ElementAt n index)) index
index-among base n index = rest_is_contained base (index ∷ []) index (first_is_contained index [])

-- an expression that has an index is one of the body
index-within : (source : Source) (n index : ℕ) → index_of source n ≡ Some index → n < length source.body.exprs
index-within source n index has = option_and_then_some index_in (expr_of source.body n) index has (λ given found same. slice_get_within source.body.exprs n given found)

-- a step to an element has the index of its index expression
pub own-index : (source : Source) (elem : PlaceElem) → HasOwnIndex source elem → HasIndex source elem
own-index source (Part index) has = tt
own-index source (FieldOf field) has = tt
own-index source (ElementAt n index) has = has

-- an index that is a part is evaluated
pub index-evaluated : (source : Source) (s : Shape) (e n index : ℕ) → ArePartsReady source s e → Contains (parts_of (node source e)) index → index_of source n ≡ Some index → HasEvaluatedIndex source n index
index-evaluated source s e n index ready within has =
    record { has = has; within = index-within source n index has; evaluated = evaluates_then source ready.reached (part within itself) }

-- what was lowered to a place, and the graph with one more projection
module _ (source : Source) (s0 s1 s2 : Shape) (place made : GraphPlace) (one : GraphElem) (is : IsProjected s1 s2 place one made) where
  pub keeps-projected : (marked : List Cell) → Keeps source s0 s1 marked → Keeps source s0 s2 marked
  keeps-projected marked keeps =
      record {
        grows = grows-trans s0 s1 s2 keeps.grows (projected-grows s1 s2 place one made is);
        spares = spares-trans s0 s1 s2 keeps.spares (projected-spares s1 s2 place one made is);
        sound = projected-sound source s1 s2 place one made is keeps.sound;
        «open» = projected-open s1 s2 place one made is keeps.«open»;
        scope = projected-scope s1 s2 place one made is ∙ keeps.scope;
      }

-- A step that evaluates nothing: to a part or a field.
abbrev pub IsStill : PlaceElem → Type 0
IsStill (ElementAt n index) = ⊥
IsStill _ = Unit {0}

still-stepped : (source : Source) (below : Levels) (around : Around) (base : ℕ) (elem : PlaceElem) → IsStill elem → (place : Place) (store : Store) → stepped source below around base elem place store ≡ Go (projected elem place) store no_cost
still-stepped source below around base (Part index) still place store = refl
still-stepped source below around base (FieldOf field) still place store = refl
still-stepped source below around base (ElementAt n index) still place store = absurd still

still-marks : (source : Source) (elem : PlaceElem) → IsStill elem → marked_by_elem source elem ≡ []
still-marks source (Part index) still = no_elem_marks_part source index
still-marks source (FieldOf field) still = no_elem_marks_field source field
still-marks source (ElementAt n index) still = absurd still

still-parts : (base : ℕ) (elem : PlaceElem) → IsStill elem → field_parts base elem ≡ base ∷ []
still-parts base (Part index) still = refl
still-parts base (FieldOf field) still = refl
still-parts base (ElementAt n index) still = absurd still

-- the place of a part or a field, by its base's place and one more element
pub finds-field : (source : Source) (s0 s1 s2 : Shape) (base : ℕ) (elem : PlaceElem) (one : GraphElem) (place made : GraphPlace) → IsStill elem → IsElement s1 elem one → LowersPlace source s0 s1 base place → IsProjected s1 s2 place one made → LowersField source s0 s2 base elem made
finds-field source s0 s1 s2 base elem one place made still element lowered is =
    let more : Grows s1 s2 = projected-grows s1 s2 place one made is in
    let at = projected elem lowered.does.at in
    let marks : marked_as_place source base ++ marked_by_elem source elem ≡ marked_as_place source base = ap (λ m. marked_as_place source base ++ m) (still-marks source elem still) ∙ append-nil (marked_as_place source base) in
    record {
      keeps = subst (λ (m : List Cell). Keeps source s0 s2 m) (sym marks) (keeps-projected source s0 s1 s2 place made one is (marked_as_place source base) lowered.keeps);
      does = record {
        at = at;
        is = projected-at s1 s2 elem one place made element is lowered.does.at lowered.does.is;
        does = record {
          reaches = λ whole frame grows sound frame-is lands around stands fuel serves store memory holds.
              let from = lowered.does.does.reaches whole frame (grows-trans s1 s2 whole more grows) sound frame-is lands around stands fuel serves store memory holds in
              subst (λ to. Reaches source whole lands frame (here s0) to memory (LeadsTo at whole frame) (field_place source (level_at source fuel) around base elem store)) (sym (projected-here s1 s2 place one made is))
              (reaches-then source whole lands frame (here s0) (here s1) (here s1) memory (LeadsTo lowered.does.at whole frame) (LeadsTo at whole frame) ((level_at source fuel around).place base store) (stepped source (level_at source fuel) around base elem)
              from
              (λ found store1 memory1 claims.
              subst (Reaches source whole lands frame (here s1) (here s1) memory1 (LeadsTo at whole frame)) (sym (still-stepped source (level_at source fuel) around base elem still found store1))
              (inr (memory1, comes-refl frame (here s1) memory1, claims.0, ap (projected elem) claims.1))));
        };
      };
      laid = λ child within. subst (LaysOut source s2) (one-of base child (subst (λ parts. Contains parts child) (still-parts base elem still) within)) (λ plain layouts. lowered.laid plain (layouts-before source s1 s2 more layouts));
    }

-- an index was evaluated into a local of its own
pub lowers-index : (source : Source) (s0 s1 s2 : Shape) (e index local : ℕ) → index_of source e ≡ Some index → IsGiven source s0 s1 (IndexOf e) local → LowersInto source s1 s2 index (IndexOf e) → LowersIndex source s0 s2 e index local
lowers-index source s0 s1 s2 e index local has given into =
    record {
      keeps = record {
        grows = grows-trans s0 s1 s2 given.keeps.grows into.keeps.grows;
        spares = spares-trans s0 s1 s2 given.keeps.spares into.keeps.spares;
        sound = into.keeps.sound;
        «open» = into.keeps.«open»;
        scope = into.keeps.scope ∙ ap (λ scope. scope ++ marked source index) given.keeps.scope ∙ append_assoc s0.scope (IndexOf e ∷ []) (marked source index);
      };
      found = into.keeps.grows.indices e local given.found;
      does = record {
        reaches = λ whole frame grows sound is lands around stands fuel serves store memory holds.
            reaches-from source whole lands frame (here s0) (here s1) (here s2) memory (Nothing whole frame) (given.comes whole frame (grows-trans s1 s2 whole into.keeps.grows grows) is memory) ((level_at source fuel (marking (IndexOf e ∷ []) around)).into index (record { cell = IndexOf e }) store)
            (into.does.reaches whole frame grows sound is lands (marking (IndexOf e ∷ []) around) (marking-fits given.keeps around stands) fuel serves store memory holds);
      };
      laid = λ plain layouts.
          let there = given.keeps.sound.allotted.typed (IndexOf e) local given.found in
          into.laid (subst (IsLaidOut source) (sym (sym (index_cell_type source e index has) ∙ there.2)) (layouts local there.0 (into.keeps.grows.locals local there.0 there.1))) plain layouts;
    }

-- the place of an element, by its base's place, its index, and one more element
pub finds-element : (source : Source) (s0 s1 s2 s3 : Shape) (base n index : ℕ) (local : LocalId) (place made : GraphPlace) → LowersPlace source s0 s1 base place → LowersIndex source s1 s2 n index local.0 → IsProjected s2 s3 place (Index local) made → LowersField source s0 s3 base (ElementAt n index) made
finds-element source s0 s1 s2 s3 base n index local place made lowered indexed is =
    let elem : PlaceElem = ElementAt n index in
    let more : Grows s2 s3 = projected-grows s2 s3 place (Index local) made is in
    let later : Grows s1 s3 = grows-trans s1 s2 s3 indexed.keeps.grows more in
    let at = projected elem lowered.does.at in
    let both : Keeps source s0 s2 (marked_as_place source base ++ IndexOf n ∷ marked source index) =
    record {
      grows = grows-trans s0 s1 s2 lowered.keeps.grows indexed.keeps.grows;
      spares = spares-trans s0 s1 s2 lowered.keeps.spares indexed.keeps.spares;
      sound = indexed.keeps.sound;
      «open» = indexed.keeps.«open»;
      scope = indexed.keeps.scope ∙ ap (λ scope. scope ++ IndexOf n ∷ marked source index) lowered.keeps.scope ∙ append_assoc s0.scope (marked_as_place source base) (IndexOf n ∷ marked source index);
    } in
    record {
      keeps = subst (λ (m : List Cell). Keeps source s0 s3 (marked_as_place source base ++ m)) (sym (element_marks source n index)) (keeps-projected source s0 s2 s3 place made (Index local) is (marked_as_place source base ++ IndexOf n ∷ marked source index) both);
      does = record {
        at = at;
        is = projected-at s2 s3 elem (Index local) place made (local.0, indexed.found, refl) is lowered.does.at (at-later s1 s2 indexed.keeps.grows place lowered.does.at lowered.does.is);
        does = record {
          reaches = λ whole frame grows sound frame-is lands around stands fuel serves store memory holds.
              let grown2 : Grows s2 whole = grows-trans s2 s3 whole more grows in
              let below = level_at source fuel in
              let around1 = marking (marked_as_place source base) around in
              let around2 = marking (IndexOf n ∷ []) around1 in
              subst (λ to. Reaches source whole lands frame (here s0) to memory (LeadsTo at whole frame) (field_place source below around base elem store)) (sym (projected-here s2 s3 place (Index local) made is))
              (reaches-then source whole lands frame (here s0) (here s1) (here s2) memory (LeadsTo lowered.does.at whole frame) (LeadsTo at whole frame) ((below around).place base store) (stepped source below around base elem)
              (lowered.does.does.reaches whole frame (grows-trans s1 s2 whole indexed.keeps.grows grown2) sound frame-is lands around stands fuel serves store memory holds)
              (λ found store1 memory1 claims.
              reaches-then source whole lands frame (here s1) (here s2) (here s2) memory1 (Nothing whole frame) (LeadsTo at whole frame) ((below around2).into index (record { cell = IndexOf n }) store1) (λ _ last. Go (projected elem found) last no_cost)
              (indexed.does.reaches whole frame grown2 sound frame-is lands around1 (marking-fits lowered.keeps around stands) fuel serves store1 memory1 claims.0)
              (λ done store2 memory2 claims2. inr (memory2, comes-refl frame (here s2) memory2, claims2.0, ap (projected elem) claims.1))));
        };
      };
      laid = λ child within. ⊎_elim
          (λ first. subst (LaysOut source s3) (one-of base child first) (λ plain layouts. lowered.laid plain (layouts-before source s1 s3 later layouts)))
          (λ second. subst (LaysOut source s3) (one-of index child second) (λ plain layouts. indexed.laid plain (layouts-before source s2 s3 more layouts)))
          (Contains-append_cases (base ∷ []) (index ∷ []) child within);
    }

-- what an element leads to from a value of a type with a layout has one
part-laid : (source : Source) (base : ℕ) (elem : PlaceElem) (ty : Ty) → HasAggregates source.world → IsPlainField source base elem ty → IsLaidOut source (node_type source base) → IsLaidOut source (Some ty)
part-laid source base elem ty aggregates plain laid =
    let found : layout_of source.world plain.base_ty ≡ Some laid.layout = ap (option_and_then (layout_of source.world)) (sym plain.base_has) ∙ laid.found in
    let there = elem-laid source.world aggregates laid.layout elem plain.base_ty ty found plain.has_elem in
    record { layout = there.0; found = there.1 }

-- the parts of a field that need layouts are all
sized-field : (source : Source) (base : ℕ) (elem : PlaceElem) → flat_map (sized_part source) (field_steps base elem) ≡ field_parts base elem
sized-field source base (Part index) = refl
sized-field source base (FieldOf field) = refl
sized-field source base (ElementAt n index) = refl

sized-child : (source : Source) (e base : ℕ) (elem : PlaceElem) (child : ℕ) → node source e ≡ Some (expr.Field base elem) → Contains (sized_parts source (node source e)) child → Contains (field_parts base elem) child
sized-child source e base elem child form within =
    let there : Contains (flat_map (sized_part source) (field_steps base elem)) child = subst (λ n. Contains (sized_parts source n) child) form within in
    subst (λ parts. Contains parts child) (sized-field source base elem) there

lays-parts : (source : Source) (s : Shape) (e base : ℕ) (elem : PlaceElem) → node source e ≡ Some (expr.Field base elem) → ((child : ℕ) → Contains (field_parts base elem) child → LaysOut source s child) → IsLaidOutNode source e → LaysOut source s e
lays-parts source s e base elem form below laid plain layouts f own = laid
lays-parts source s e base elem form below laid plain layouts f (inside {child = child} within rest) =
    below child (sized-child source e base elem child form within) (plain-part source e child (sized_part_is_part source (node source e) child within) laid plain) layouts f rest

-- the base stands where the field does
base-within : (source : Source) (e base : ℕ) (elem : PlaceElem) → node source e ≡ Some (expr.Field base elem) → IsPlainWithin source e → IsPlainWithin source base
base-within source e base elem form plain =
    let is = base-part source e base elem form in
    let same : opened_in e (node source e) plain.opened ≡ plain.opened = ap (λ n. opened_in e n plain.opened) form in
    record {
      aggregates = plain.aggregates;
      nodes = λ f evaluates. plain.nodes f (part is evaluates);
      opened = plain.opened;
      jumps = λ inner f evaluates. plain.jumps inner f (part_in is (subst (λ outer. EvaluatesIn source outer base inner f) (sym same) evaluates));
      laid = plain.laid;
    }

-- a field that is a place has its part's type, whose layout comes with the base's
lays-field : (source : Source) (s : Shape) (e base : ℕ) (elem : PlaceElem) → unadjusted source e ≡ Some (expr.Field base elem) → ((child : ℕ) → Contains (field_parts base elem) child → LaysOut source s child) → LaysOut source s e
lays-field source s e base elem form below plain layouts = by_node (plain.nodes e itself)
  where
    is : node source e ≡ Some (expr.Field base elem)
    is = (unadjusted-plain source e (expr.Field base elem) form).1

    by_node : IsPlainNode source e → (f : ℕ) → NeedsLayout source e f → IsLaidOutNode source f
    by_node plain-node =
        let typed : IsPlainField source base elem plain-node.ty = subst (λ n. HasPlainForm source e n plain-node.ty) is plain-node.form in
        let base-plain : IsPlainWithin source base = base-within source e base elem is plain in
        let base-laid = below base (base-among base elem) base-plain layouts base own in
        let laid = laid-unadjusted source e (expr.Field base elem) form (subst (IsLaidOut source) (sym plain-node.has_type) (part-laid source base elem plain-node.ty plain.aggregates typed base-laid.of_value)) in
        lays-parts source s e base elem is below laid plain layouts

-- a field is the place of the part
field-place : (source : Source) (s0 s1 whole : Shape) (frame : Frame) (e base : ℕ) (elem : PlaceElem) (place : GraphPlace) → unadjusted source e ≡ Some (expr.Field base elem) → (finds : DoesField source s0 s1 base elem place) → Grows s1 whole → IsSound source whole → IsFrameOf whole frame → (lands : Landings) (around : Around) → Stands whole s0 lands around → (fuel : ℕ) → Serves fuel source frame.program → (store : Store) (memory : Memory) → Holds whole frame store memory → Reaches source whole lands frame (here s0) (here s1) memory (LeadsTo finds.at whole frame) ((level_at source fuel around).place e store)
unfolding level_at
field-place source s0 s1 whole frame e base elem place form finds grows sound is lands around stands zero serves store memory holds = inr (none-entered (run_from frame memory (here s0)))
field-place source s0 s1 whole frame e base elem place form finds grows sound is lands around stands (suc fuel) serves store memory holds =
    subst (Reaches source whole lands frame (here s0) (here s1) memory (LeadsTo finds.at whole frame)) (sym (ap (λ f. place_of source (level_at source fuel) around e f store) form))
    (finds.does.reaches whole frame grows sound is lands around stands fuel (serves-less fuel source frame.program serves) store memory holds)

pub lowers-field : (source : Source) (s0 s1 : Shape) (e base : ℕ) (elem : PlaceElem) (place : GraphPlace) → IsReady source s0 e → unadjusted source e ≡ Some (expr.Field base elem) → LowersField source s0 s1 base elem place → LowersPlace source s0 s1 e place
lowers-field source s0 s1 e base elem place ready form lowered =
    record {
      keeps = subst (λ (m : List Cell). Keeps source s0 s1 m) (sym (field_marks source ready.checked e ready.within base elem form)) lowered.keeps;
      does = record {
        at = lowered.does.at;
        is = lowered.does.is;
        does = record { reaches = λ whole frame grows sound frame-is lands around stands fuel serves store memory holds. field-place source s0 s1 whole frame e base elem place form lowered.does grows sound frame-is lands around stands fuel serves store memory holds };
      };
      laid = lays-field source s1 e base elem form lowered.laid;
    }

-- a field's bytes are copied
pub lowers-field-into : (source : Source) (s0 s1 new : Shape) (e base : ℕ) (elem : PlaceElem) (to : LocalId) (from : GraphPlace) (operand : MirOperand) (span : MirSpan) → IsReady source s0 e → node source e ≡ Some (expr.Field base elem) → LowersField source s0 s1 base elem from → operand.kind ≡ Copy from →
    new ≡ with_statement (assignment to (Use operand) span) s1 → (c : Cell) → local_of s0 c ≡ Some to.0 → LowersOwn source s0 new e c
lowers-field-into source s0 s1 new e base elem to from operand span ready form lowered copies same c local =
    let st = assignment to (Use operand) span in
    let opened = lowered.keeps.«open» in
    let last : Grows s1 (with_statement st s1) = with_statement-grows st s1 opened in
    subst (λ (n : Shape). LowersOwn source s0 n e c) (sym same)
    (record {
      keeps = record {
        grows = grows-trans s0 s1 (with_statement st s1) lowered.keeps.grows last;
        spares = spares-trans s0 s1 (with_statement st s1) lowered.keeps.spares (with_statement-spares st s1 opened);
        sound = with_statement-sound source st s1 opened lowered.keeps.sound;
        «open» = with_statement-open st s1 opened;
        scope = with_statement-scope st s1 opened ∙ lowered.keeps.scope ∙ ap (λ m. s0.scope ++ m) (sym (part_marks source ready.checked e ready.within base elem form));
      };
      does = does-form source s0 (with_statement st s1) e c (Some (expr.Field base elem)) form (record {
        reaches = λ whole frame grows sound frame-is lands around stands fuel serves store memory holds.
            let grown : Grows s1 whole = grows-trans s1 (with_statement st s1) whole last grows in
            let found = local_of-grows s0 whole (grows-trans s0 s1 whole lowered.keeps.grows grown) c to.0 local in
            reaches-then source whole lands frame (here s0) (here s1) (here (with_statement st s1)) memory (LeadsTo lowered.does.at whole frame) (Nothing whole frame) (field_place source (level_at source fuel) around base elem store) _
            (lowered.does.does.reaches whole frame grown sound frame-is lands around stands fuel serves store memory holds)
            (λ place store1 memory1 claims.
            subst (λ (p : Place). Reaches source whole lands frame (here s1) (here (with_statement st s1)) memory1 (Nothing whole frame) (read_into source (At p) (record { cell = c }) store1)) (sym claims.1)
            (assigned-read source s1 whole frame to operand span opened sound frame-is lands grows c found store1 memory1 claims.0 (At lowered.does.at)
            (copy-fits source whole frame from lowered.does.at operand copies sound frame-is serves.world (at-later s1 whole grown from lowered.does.at lowered.does.is))));
      });
      laid = λ laid. lays-parts source (with_statement st s1) e base elem form (λ child within plain layouts. lowered.laid child within plain (layouts-before source s1 (with_statement st s1) last layouts)) laid;
    })
