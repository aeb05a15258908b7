-- Struct literals with a base, and values of unit structs. A literal finds the place of its base, then its operands, and makes the struct
-- of these and of copies of the base's fields.
use Rattle.std.proofs.Common.{◌≡◌, ℕ, zero, suc, ◌<◌, ◌==◌, inr, List, [], ◌∷◌, ◌++◌, length, map, Contains, Option, Some, None, slice_get, if◌then◌else◌, refl, sym, ap, ◌∙◌, subst, append_assoc, false, true, cond, Bool, arith, ltb-true, ⊎_elim}
use Rattle.std.specs.Prelude.{All, IsSome, flat_map, nat_lt, option_map}
use Rattle.std.proofs.lemmas.List.Elements.{All-nil, All-cons, All-head, All-tail, All-weaker, Contains-append_cases}
use borrow.Author.Tests.{eqb-true}
use Rattle.types.specs.declared.ids.StructId.{StructId}
use Rattle.types.specs.declared.ids.VariantId.TheVariants as variant
use Rattle.types.specs.declared.ty.GenericArgs.{GenericArgs}
use Rattle.world.specs.Nodes.{field_numbers}
use Rattle.world.specs.declared.expr.RecordLitField.{RecordLitField}
use Rattle.world.specs.declared.items.FieldRow.{FieldRow}
use Rattle.mir.specs.Memory.{Memory}
use Rattle.mir.specs.Projections.{AreInterned, HasId, Projection, projection_of}
use Rattle.mir.specs.Run.{Frame}
use Rattle.mir.specs.declared.ids.LocalId.{LocalId}
use Rattle.mir.specs.declared.operand.AggregateKind.TheVariants as kind
use Rattle.mir.specs.declared.operand.Operand.{Operand as MirOperand}
use Rattle.mir.specs.declared.operand.OperandKind.{OperandKind}
use Rattle.mir.specs.declared.operand.OperandKind.TheVariants.{Copy}
use Rattle.mir.specs.declared.operand.Place.{Place as GraphPlace}
use Rattle.mir.specs.declared.operand.Rvalue.{Rvalue}
use Rattle.mir.specs.declared.operand.Rvalue.TheVariants.{Aggregate}
use Rattle.mir.specs.declared.span.MirSpan.{MirSpan}
use Rattle.source_meaning.specs.Around.{Around, marking}
use Rattle.source_meaning.specs.Core as expr
use Rattle.source_meaning.specs.Core.{CoreExpr, FieldOf, is_truth}
use Rattle.source_meaning.specs.Ends.{then_do}
use Rattle.source_meaning.specs.Events.{marked_as_operand, marked_as_place, marked_itself}
use Rattle.source_meaning.specs.Meaning.{level_at, callees_at, made_into, operands_of, into_of}
use Rattle.source_meaning.specs.Source.{Source, node, unadjusted, Cell, Store, Place, Operand, At, projected}
use Rattle.source_meaning.specs.Steps.{parts_of}
use Rattle.source_meaning.specs.Structs.{FieldSource, Written, OfBase, field_sources, place_named, source_by}
use Rattle.source_meaning.specs.Updates.{field_operand, field_operands}
use Rattle.source_meaning.specs.Valid.{own, inside, sized_parts, IsLaidOutNode}
use Rattle.source_meaning.proofs.Depth.{update_operand_is_part}
use Rattle.source_meaning.proofs.Marks.{unit_marks, update_marks}
use Rattle.source_meaning.proofs.Parts.{first_is_contained, rest_is_contained, sized_operand, sized_part_is_part, update_parts}
use Rattle.source_meaning.proofs.Updates.{field_operands-more, no_field_operands}
use Rattle.body_forms.specs.Form.{core_form, core_source, field_elem, literal_sources}
use Rattle.body_forms.specs.declared.structs.FieldSource.{FieldSource as GivenSource}
use Rattle.body_forms.specs.declared.form.Form.TheVariants as form
use Rattle.body_forms.specs.declared.structs.StructLiteral.{StructLiteral}
use Rattle.mir_lower.specs.Built.{IsBuilt}
use Rattle.mir_lower.specs.Callees.{Serves}
use Rattle.mir_lower.specs.Does.{Stands, here, IsAt, IsFrameOf, Holds, Landings, LeadsTo, Reaches, Nothing, Fits, FitAll}
use Rattle.mir_graph.specs.Graph.{Shape, IsProjected, index_local, never_of, temp_of, with_projections, with_statement, local_of}
use Rattle.mir_lower.specs.Growth.{Grows, Spares, IsSound, IsOpen, IsReady, count_at, statement_at, terminator_at}
use Rattle.mir_lower.specs.Lowered.{LaysOut, LowersOwn, LowersOperands, LowersPlace}
use Rattle.mir_lower.specs.Updates.{IsKnown, HasMore, IsAmong, Gives, GiveAll, AreFound}
use Rattle.mir_lower.proofs.Assignments.{keeps-none}
use Rattle.mir_lower.proofs.Building.{built-node}
use Rattle.mir_lower.proofs.Growing.{grows-trans, with_statement-grows}
use Rattle.mir_lower.proofs.Laid.{alone, layouts-before, one-of, plain-part}
use Rattle.mir_graph.proofs.Lists.{slice_get_below}
use Rattle.mir_lower.proofs.Operations.{assignment}
use Rattle.mir_lower.proofs.Made.{FitFields, FitsOne, made-reaches, value-of}
use Rattle.mir_lower.proofs.Projecting.{are-later, are-more, at-later, elements-later}
use Rattle.mir_lower.proofs.Reaching.{comes-refl, reaches-then}
use Rattle.mir_lower.proofs.Reading.{place-fits}
use Rattle.mir_lower.proofs.Rvalues.{kinds}
use Rattle.mir_lower.proofs.Sound.{sound_by, with_statement-sound, with_statement-open, with_statement-scope}
use Rattle.mir_lower.proofs.Sparing.{spares-same, spares-trans, with_statement-spares}
use Rattle.mir_lower.proofs.Standing.{marking-fits}
use Rattle.mir_lower.proofs.Steps.{local_of-grows, does-form}

-- a value of a unit struct takes no code
pub lowers-unit : (source : Source) (s : Shape) (e : ℕ) (c : Cell) → IsReady source s e → node source e ≡ Some expr.UnitStruct → LowersOwn source s s e c
lowers-unit source s e c ready form =
    record {
      keeps = keeps-none source s (marked_itself source e) ready.sound ready.«open» (unit_marks source ready.checked e ready.within form);
      does = does-form source s s e c (Some expr.UnitStruct) form (record { reaches = λ whole frame grows sound is lands around stands fuel serves store memory holds. inr (memory, comes-refl frame (here s) memory, holds, tt) });
      laid = λ laid plain layouts f needs. subst (IsLaidOutNode source) (alone source e f (ap (sized_parts source) form) needs) laid;
    }

pub built-unit : (source : Source) (e : ℕ) → node source e ≡ Some expr.UnitStruct → IsBuilt source e
built-unit source e is = built-node source e (Some expr.UnitStruct) is tt (All-nil (IsBuilt source))

-- Where a graph has more projections, all else stays.

pub more-grows : (old new : Shape) → HasMore old new → Grows old new
unfolding statement_at temp_of never_of index_local
more-grows old new more =
    subst (λ (s : Shape). Grows old s) (sym more.rest)
    (record {
      statements = λ b i x h. h;
      ended = λ b block t h ended. h;
      locals = λ i l h. h;
      bindings = refl;
      temps = λ e l h. h;
      nevers = λ e l h. h;
      indices = λ e l h. h;
      projections = more.kept;
    })

more-spares : (old new : Shape) → HasMore old new → Spares old new
more-spares old new more = subst (λ (s : Shape). Spares old s) (sym more.rest) (spares-same old (with_projections new.projections old) refl refl refl)

more-sound : (source : Source) (old new : Shape) → HasMore old new → IsSound source old → IsSound source new
more-sound source old new more sound = subst (λ (s : Shape). IsSound source s) (sym more.rest) (sound_by source old (with_projections new.projections old) refl refl refl sound)

pub more-open : (old new : Shape) → HasMore old new → IsOpen old → IsOpen new
unfolding terminator_at
more-open old new more opened = subst (λ (s : Shape). IsOpen s) (sym more.rest) (record { there = opened.there; unended = opened.unended })

more-scope : (old new : Shape) → HasMore old new → new.scope ≡ old.scope
more-scope old new more = ap (λ (s : Shape). s.scope) more.rest

more-here : (old new : Shape) → HasMore old new → here new ≡ here old
unfolding count_at
more-here old new more = ap here more.rest

pub no-more : (s : Shape) → HasMore s s
no-more s = record { rest = refl; kept = λ id elements h. h }

pub more-trans : (a b c : Shape) → HasMore a b → HasMore b c → HasMore a c
more-trans a b c first second =
    record { rest = second.rest ∙ ap (with_projections c.projections) first.rest; kept = λ id elements h. second.kept id elements (first.kept id elements h) }

pub more-projected : (old new : Shape) (base : GraphPlace) (elem : _) (made : GraphPlace) → IsProjected old new base elem made → HasMore old new
more-projected old new base elem made is = record { rest = is.rest; kept = is.kept }

-- The elements that a place has in a graph it has in one with more projections.

pub known-later : (old new : Shape) (place : GraphPlace) → HasMore old new → IsKnown old place → IsKnown new place
known-later old new place more known = record { elements = known.elements; are = elements-later old.projections new.projections more.kept place.projection known.elements known.are }

-- so the graph has an id for them
pub has-id : (s : Shape) → AreInterned s.projections → (place : GraphPlace) → IsKnown s place → HasId s.projections place.projection
has-id s interned place known = by_test (place.projection.0 == 0) refl known.are
  where
    by_test : (test : Bool) → place.projection.0 == 0 ≡ test → if test then Some [] else projection_of s.projections place.projection ≡ Some known.elements → HasId s.projections place.projection
    by_test true none h = subst (λ n. n < length s.projections) (sym (eqb-true place.projection.0 0 none)) (slice_get_below s.projections 0 [] interned.empty)
    by_test false some h = slice_get_below s.projections place.projection.0 known.elements h

pub known-at : (s : Shape) (place : GraphPlace) (at : Place) → IsAt s place at → IsKnown s place
known-at s place at is = record { elements = is.projection; are = is.elements }

-- what gives a field in a graph gives it in one with more projections
gives-later : (old new : Shape) (base : GraphPlace) (elements : Projection) (operands : List MirOperand) (from : FieldSource) (operand : MirOperand) → HasMore old new → Gives old base elements operands from operand → Gives new base elements operands from operand
gives-later old new base elements operands (Written place) operand more gives = gives
gives-later old new base elements operands (OfBase field) operand more gives =
    (gives.0, gives.1, gives.2, elements-later old.projections new.projections more.kept gives.0.projection (elements ++ field_elem field ∷ []) gives.3, gives.4)

-- those so far, and one more
give-more : (old new : Shape) (base : GraphPlace) (elements : Projection) (operands : List MirOperand) (sources : List FieldSource) (fields : List MirOperand) (from : FieldSource) (operand : MirOperand) → HasMore old new →
    GiveAll old base elements operands sources fields → GiveAll new base elements operands (from ∷ []) (operand ∷ []) → GiveAll new base elements operands (sources ++ from ∷ []) (fields ++ operand ∷ [])
give-more old new base elements operands [] [] from operand more give last = last
give-more old new base elements operands [] (field ∷ fields) from operand more give last = absurd give
give-more old new base elements operands (one ∷ sources) [] from operand more give last = absurd give
give-more old new base elements operands (one ∷ sources) (field ∷ fields) from operand more give last =
    (gives-later old new base elements operands one field more give.0, give-more old new base elements operands sources fields from operand more give.1 last)

pub found-none : (s : Shape) (base : GraphPlace) (operands : List MirOperand) → AreFound s s base operands [] []
found-none s base operands = record { more = no-more s; give = λ elements are. tt }

pub found-more : (s0 s1 s2 : Shape) (base : GraphPlace) (operands : List MirOperand) (sources : List FieldSource) (fields : List MirOperand) (from : FieldSource) (operand : MirOperand) →
    AreFound s0 s1 base operands sources fields → AreFound s1 s2 base operands (from ∷ []) (operand ∷ []) → AreFound s0 s2 base operands (sources ++ from ∷ []) (fields ++ operand ∷ [])
found-more s0 s1 s2 base operands sources fields from operand found last =
    record {
      more = more-trans s0 s1 s2 found.more last.more;
      give = λ elements are.
          give-more s1 s2 base elements operands sources fields from operand last.more (found.give elements are)
          (last.give elements (elements-later s0.projections s1.projections found.more.kept base.projection elements are));
    }

-- an operand that is written, and a copy of a field
pub found-written : (s : Shape) (base : GraphPlace) (operands : List MirOperand) (place : ℕ) (operand : MirOperand) → slice_get operands place ≡ Some operand → AreFound s s base operands (Written place ∷ []) (operand ∷ [])
found-written s base operands place operand there = record { more = no-more s; give = λ elements are. (there, tt) }

pub found-projected : (old new : Shape) (base made : GraphPlace) (operands : List MirOperand) (field : _) (operand : MirOperand) → operand.kind ≡ Copy made → operand.span ≡ None → IsProjected old new base (field_elem field) made → AreFound old new base operands (OfBase field ∷ []) (operand ∷ [])
found-projected old new base made operands field operand copies spanless is =
    record { more = more-projected old new base (field_elem field) made is; give = λ elements are. ((made, copies, is.local, is.longer elements are, spanless), tt) }

-- What gives the fields in the graph are the operands that give them in the source.

module _ (source : Source) (s whole : Shape) (frame : Frame) (grows : Grows s whole) (sound : IsSound source whole) (frame-is : IsFrameOf whole frame) (world : frame.program.world ≡ source.world) (base : GraphPlace) (at : Place) (is : IsAt s base at) (operands : List MirOperand) (values : List Operand) (fit : FitAll source (kinds operands) whole frame values) where
  field-fits : (from : FieldSource) (operand : MirOperand) → Gives s base is.projection operands from operand → FitsOne source operand.kind whole frame (field_operand at values from)
  field-fits (Written place) operand gives = value-of source whole frame operands values fit place operand gives
  field-fits (OfBase field) operand gives =
      let there : IsAt s gives.0 (projected (FieldOf field) at) =
      record {
        found = is.found ∙ ap (λ (local : LocalId). Some local.0) (sym gives.2);
        projection = is.projection ++ field_elem field ∷ [];
        elements = gives.3;
        same = are-more s at.projection is.projection (FieldOf field) (field_elem field) is.same refl;
      } in
      record {
        value = At (projected (FieldOf field) at);
        is = refl;
        fits = subst (λ (k : OperandKind). Fits source k whole frame (At (projected (FieldOf field) at))) (sym gives.1)
            (place-fits source whole frame gives.0 (projected (FieldOf field) at) sound frame-is world (at-later s whole grows gives.0 (projected (FieldOf field) at) there));
      }

  pub fields-fit : (sources : List FieldSource) (fields : List MirOperand) → GiveAll s base is.projection operands sources fields → FitFields source fields whole frame (field_operands at values sources)
  fields-fit [] [] give = record { chosen = []; are = no_field_operands at values; fit = tt }
  fields-fit [] (field ∷ fields) give = absurd give
  fields-fit (from ∷ sources) [] give = absurd give
  fields-fit (from ∷ sources) (field ∷ fields) give =
      let first = field-fits from field give.0 in
      let rest = fields-fit sources fields give.1 in
      record { chosen = first.value ∷ rest.chosen; are = field_operands-more at values from sources first.value rest.chosen first.is rest.are; fit = (first.fits, rest.fit) }

-- what a struct literal with a base evaluates needs layouts: the base, and its operands that are no truth values
lays-update : (source : Source) (s1 s2 new : Shape) (e base : ℕ) (id : StructId) (args : GenericArgs) (sources : List FieldSource) (es : List ℕ) → node source e ≡ Some (expr.Update base id args sources es) → LaysOut source s1 base →
    ((child : ℕ) → Contains es child → is_truth (unadjusted source child) ≡ false → LaysOut source s2 child) → Grows s1 new → Grows s2 new → IsLaidOutNode source e → LaysOut source new e
lays-update source s1 s2 new e base id args sources es form of-base of-operands grows1 grows2 laid plain layouts f own = laid
lays-update source s1 s2 new e base id args sources es form of-base of-operands grows1 grows2 laid plain layouts f (inside {child = child} within rest) =
    let part = plain-part source e child (sized_part_is_part source (node source e) child within) laid plain in
    ⊎_elim
    (λ here'. (subst (LaysOut source s1) (one-of base child here') of-base) part (layouts-before source s1 new grows1 layouts) f rest)
    (λ other.
    let operand = sized_operand source es child other in
    of-operands child operand.0 operand.1 part (layouts-before source s2 new grows2 layouts) f rest)
    (Contains-append_cases (base ∷ []) _ child (subst (λ n. Contains (sized_parts source n) child) form within))

-- a struct literal with a base was lowered: the base's place, the operands, those of all fields, and then one assignment
pub lowers-update : (source : Source) (s0 s1 s2 s3 new : Shape) (e base : ℕ) (id : StructId) (args : GenericArgs) (sources : List FieldSource) (es : List ℕ) (place : GraphPlace) (operands fields : List MirOperand) (to : LocalId) (span : MirSpan) → IsReady source s0 e →
    node source e ≡ Some (expr.Update base id args sources es) → LowersPlace source s0 s1 base place → LowersOperands source s1 s2 es (kinds operands) → AreFound s2 s3 place operands sources fields →
    new ≡ with_statement (assignment to (Aggregate (kind.Adt (variant.StructId id) args) fields) span) s3 → (c : Cell) → local_of s0 c ≡ Some to.0 → LowersOwn source s0 new e c
lowers-update source s0 s1 s2 s3 new e base id args sources es place operands fields to span ready form first given found same c local =
    let rvalue = Aggregate (kind.Adt (variant.StructId id) args) fields in
    let st = assignment to rvalue span in
    let opened = more-open s2 s3 found.more given.keeps.«open» in
    let last : Grows s3 (with_statement st s3) = with_statement-grows st s3 opened in
    let last2 : Grows s2 (with_statement st s3) = grows-trans s2 s3 (with_statement st s3) (more-grows s2 s3 found.more) last in
    let last1 : Grows s1 (with_statement st s3) = grows-trans s1 s2 (with_statement st s3) given.keeps.grows last2 in
    subst (λ (n : Shape). LowersOwn source s0 n e c) (sym same)
    (record {
      keeps = record {
        grows = grows-trans s0 s1 (with_statement st s3) first.keeps.grows last1;
        spares = spares-trans s0 s1 (with_statement st s3) first.keeps.spares (spares-trans s1 s2 (with_statement st s3) given.keeps.spares (spares-trans s2 s3 (with_statement st s3) (more-spares s2 s3 found.more) (with_statement-spares st s3 opened)));
        sound = with_statement-sound source st s3 opened (more-sound source s2 s3 found.more given.keeps.sound);
        «open» = with_statement-open st s3 opened;
        scope =
            with_statement-scope st s3 opened ∙ more-scope s2 s3 found.more ∙ given.keeps.scope
            ∙ ap (λ scope. scope ++ flat_map (marked_as_operand source) es) first.keeps.scope
            ∙ append_assoc s0.scope (marked_as_place source base) (flat_map (marked_as_operand source) es)
            ∙ ap (λ m. s0.scope ++ m) (sym (update_marks source ready.checked e ready.within base id args sources es form));
      };
      does = does-form source s0 (with_statement st s3) e c (Some (expr.Update base id args sources es)) form (record { reaches = reaches });
      laid = lays-update source s1 s2 (with_statement st s3) e base id args sources es form first.laid given.laid last1 last2;
    }) where
      rvalue-of : Rvalue
      rvalue-of = Aggregate (kind.Adt (variant.StructId id) args) fields

      reaches : (whole : Shape) (frame : Frame) → Grows (with_statement (assignment to rvalue-of span) s3) whole → IsSound source whole → IsFrameOf whole frame → (lands : Landings) (around : Around) → Stands whole s0 lands around → (fuel : ℕ) → Serves fuel source frame.program → (store : Store) (memory : Memory) → Holds whole frame store memory →
          Reaches source whole lands frame (here s0) (here (with_statement (assignment to rvalue-of span) s3)) memory (Nothing whole frame) (into_of source (level_at source fuel) (callees_at fuel) around e (Some (expr.Update base id args sources es)) (record { cell = c }) store)
      reaches whole frame grows sound frame-is lands around stands fuel serves store memory holds =
          let st = assignment to rvalue-of span in
          let end = with_statement st s3 in
          let opened = more-open s2 s3 found.more given.keeps.«open» in
          let below = level_at source fuel in
          let at = first.does.at in
          let around1 = marking (marked_as_place source base) around in
          let grown3 : Grows s3 whole = grows-trans s3 end whole (with_statement-grows st s3 opened) grows in
          let grown2 : Grows s2 whole = grows-trans s2 s3 whole (more-grows s2 s3 found.more) grown3 in
          let grown1 : Grows s1 whole = grows-trans s1 s2 whole given.keeps.grows grown2 in
          let cell-found = local_of-grows s0 whole (grows-trans s0 s1 whole first.keeps.grows grown1) c to.0 local in
          let is2 : IsAt s2 place at = at-later s1 s2 given.keeps.grows place at first.does.is in
          let is3 : IsAt s3 place at =
          record {
            found = local_of-grows s2 s3 (more-grows s2 s3 found.more) at.cell place.local.0 is2.found;
            projection = is2.projection;
            elements = elements-later s2.projections s3.projections found.more.kept place.projection is2.projection is2.elements;
            same = are-later s2 s3 (more-grows s2 s3 found.more) at.projection is2.projection is2.same;
          } in
          reaches-then source whole lands frame (here s0) (here s1) (here end) memory (LeadsTo at whole frame) (Nothing whole frame) ((below around).place base store) _
          (first.does.does.reaches whole frame grown1 sound frame-is lands around stands fuel serves store memory holds)
          (λ found-at store1 memory1 claims1.
          subst (λ (p : Place). Reaches source whole lands frame (here s1) (here end) memory1 (Nothing whole frame) (then_do (operands_of source below around1 es store1) (λ vs later. made_into source id args (field_operands p vs sources) (record { cell = c }) later))) (sym claims1.1)
          (reaches-then source whole lands frame (here s1) (here s2) (here end) memory1 (FitAll source (kinds operands) whole frame) (Nothing whole frame) (operands_of source below around1 es store1) _
          (given.does.reaches whole frame grown2 sound frame-is lands around1 (marking-fits first.keeps around stands) fuel serves store1 memory1 claims1.0)
          (λ vs store2 memory2 claims2.
          let fit = fields-fit source s3 whole frame grown3 sound frame-is serves.world place at is3 operands vs claims2.1 sources fields (found.give is2.projection is2.elements) in
          subst (λ from. Reaches source whole lands frame from (here end) memory2 (Nothing whole frame) (made_into source id args (field_operands at vs sources) (record { cell = c }) store2)) (more-here s2 s3 found.more)
          (made-reaches source s3 whole frame to id args fields span opened sound frame-is serves.world lands grows c cell-found store2 memory2 claims2.0 (field_operands at vs sources) fit))))

-- The form of a struct literal with a base.

abbrev pub update_with : StructLiteral → ℕ → List FieldSource → CoreExpr
update_with literal base sources = expr.Update base literal.made.id literal.made.args.now sources (field_numbers literal.written.now)

pub record HasUpdateForm (source : Source) (e : ℕ) (literal : StructLiteral) (base : ℕ) : Type 0 where
  pub sources : List FieldSource
  pub are : literal_sources literal ≡ Some sources
  pub form : node source e ≡ Some (update_with literal base sources)

pub update-form : (source : Source) (e : ℕ) (literal : StructLiteral) (base : _) → node source e ≡ core_form (form.Update literal base) → IsSome (literal_sources literal) → HasUpdateForm source e literal base.0
update-form source e literal base is given = by (literal_sources literal) refl is given
  where
    by : (found : Option (List FieldSource)) → literal_sources literal ≡ found → node source e ≡ option_map (update_with literal base.0) found → IsSome found → HasUpdateForm source e literal base.0
    by (Some sources) are is given = record { sources = sources; are = are; form = is }
    by None are is given = absurd cc

-- they are those of the fields
pub sources-are : (literal : StructLiteral) (sources : List FieldSource) → literal_sources literal ≡ Some sources → field_sources literal.made.id 0 literal.made.fields.now literal.written.now ≡ sources
sources-are literal sources are = by (length (_) == length literal.written.now) are
  where
    by : (test : Bool) → if test then Some (field_sources literal.made.id 0 literal.made.fields.now literal.written.now) else None ≡ Some sources → field_sources literal.made.id 0 literal.made.fields.now literal.written.now ≡ sources
    by true same = cc
    by false same = absurd cc

-- the base is a part, and so are the operands
pub updated-base-part : (source : Source) (e base : ℕ) (id : StructId) (args : GenericArgs) (sources : List FieldSource) (es : List ℕ) → node source e ≡ Some (expr.Update base id args sources es) → Contains (parts_of (node source e)) base
updated-base-part source e base id args sources es form =
    subst (λ n. Contains (parts_of n) base) (sym form) (subst (λ parts. Contains parts base) (sym (update_parts base id args sources es)) (first_is_contained base es))

contained-in-self : (xs : List ℕ) → All (Contains xs) xs
contained-in-self [] = All-nil (Contains [])
contained-in-self (x ∷ xs) = All-cons (Contains (x ∷ xs)) x xs (first_is_contained x xs) (All-weaker (Contains xs) (Contains (x ∷ xs)) (λ y within. rest_is_contained x xs y within) xs (contained-in-self xs))

-- all of some parts are parts
pub all-are-parts : (parts es : List ℕ) → parts ≡ es → All (Contains parts) es
all-are-parts parts es same = subst (λ ps. All (Contains ps) es) (sym same) (contained-in-self es)

pub updated-parts : (source : Source) (e base : ℕ) (id : StructId) (args : GenericArgs) (sources : List FieldSource) (es : List ℕ) → node source e ≡ Some (expr.Update base id args sources es) → All (Contains (parts_of (node source e))) es
updated-parts source e base id args sources es form =
    All-weaker (Contains es) (Contains (parts_of (node source e))) (λ child within. update_operand_is_part source e base id args sources es child form within) es (contained-in-self es)

pub built-update : (source : Source) (e base : ℕ) (id : StructId) (args : GenericArgs) (sources : List FieldSource) (es : List ℕ) → node source e ≡ Some (expr.Update base id args sources es) → IsBuilt source base → All (IsBuilt source) es → IsBuilt source e
built-update source e base id args sources es is base-built built =
    built-node source e (Some (expr.Update base id args sources es)) is tt
    (subst (All (IsBuilt source)) (sym (update_parts base id args sources es)) (All-cons (IsBuilt source) base es base-built built))

-- the place of a name among the written fields is one of theirs
below-by : (k n place : ℕ) → cond (nat_lt k n) (Some k) None ≡ Some place → place < n
below-by k n place is = by_test (nat_lt k n) refl is
  where
    by_test : (test : Bool) → nat_lt k n ≡ test → cond test (Some k) None ≡ Some place → place < n
    by_test true less same = let at : k ≡ place = cc in subst (λ m. m < n) at (ltb-true k n less)
    by_test false less same = absurd cc

place-within : (name : List ℕ) (written : List RecordLitField) (place : ℕ) → place_named name written ≡ Some place → place < length written
place-within name written place is = below-by _ (length written) place is

-- each written field that gives one is among the operands
pub sources-among : (id : StructId) (index : ℕ) (rows : List FieldRow) (written : List RecordLitField) (operands : List MirOperand) → length operands ≡ length written → All (IsAmong operands) (field_sources id index rows written)
unfolding field_sources
sources-among id index [] written operands many = All-nil (IsAmong operands)
sources-among id index (row ∷ rows) written operands many =
    All-cons (IsAmong operands) (source_by id index (place_named row.name written)) (field_sources id (suc index) rows written) (one (place_named row.name written) refl) (sources-among id (suc index) rows written operands many)
  where
    one : (place : Option ℕ) → place_named row.name written ≡ place → IsAmong operands (source_by id index place)
    one (Some place) named = subst (λ n. place < n) (sym many) (place-within row.name written place named)
    one None named = tt

pub all-among : (operands : List MirOperand) (sources : List GivenSource) → All (IsAmong operands) (map core_source sources) → All (λ source. IsAmong operands (core_source source)) sources
all-among operands [] all = All-nil (λ source. IsAmong operands (core_source source))
all-among operands (source ∷ sources) all =
    All-cons (λ one. IsAmong operands (core_source one)) source sources (All-head (IsAmong operands) (core_source source) (map core_source sources) all)
    (all-among operands sources (All-tail (IsAmong operands) (core_source source) (map core_source sources) all))

-- what is among the operands is there
pub lacks-none : {A : Type 0} (xs : List A) (k : ℕ) → slice_get xs k ≡ None → k < length xs → ⊥
lacks-none [] k none within = absurd (omega arith)
lacks-none (x ∷ xs) zero none within = absurd cc
lacks-none (x ∷ xs) (suc k) none within = lacks-none xs k none (omega arith)
