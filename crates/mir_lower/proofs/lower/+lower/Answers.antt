-- Each form does what it means, by what its parts do; each refusal has its cause.
use Rattle.std.proofs.Common.{List, [], ◌∷◌, ◌≡◌, ◌+◌, drop, length, get_or, map, take, Option, Some, refl, sym, ap, ◌∙◌, subst, arith}
use Rattle.std.proofs.lemmas.List.{drop_all, map-append, take_all, take_more}
use Rattle.std.proofs.lemmas.Result.{IfOk-weaker, on_ok_weaker, IfErr-weaker}
use Rattle.mir.specs.declared.errors.MirLowerError.TheVariants as refusal
use Rattle.mir.specs.declared.span.MirSpan.TheVariants.{ExprId}
use Rattle.source_meaning.specs.Events.{marked_as_place, marked_in_block}
use Rattle.source_meaning.specs.Source.{IndexOf, Result, Node, Never, node, unadjusted}
use Rattle.source_meaning.proofs.Never.{unadjusted-plain}
use Rattle.body_forms.specs.Callees.{callee_number}
use Rattle.body_forms.specs.Contexts.{source_of}
use Rattle.mir_graph.specs.Graph.{IsProjected, shape, target_of_blocks, with_statement}
use Rattle.mir_lower.specs.Growth.{Grows, HasIndex, IsPlaced, IsInside}
use Rattle.source_meaning.specs.Valid.{opened_in}
use Rattle.mir_lower.specs.Lowered.{HasStatements, LowersAssigned, LowersAssignee, LowersField, LowersPlace, LowersOperand, LowersOperands, LowersStatements, LowersTail}
use Rattle.mir.specs.declared.operand.Operand.{Operand}
use Rattle.mir.specs.declared.operand.OperandKind.{OperandKind}
use Rattle.mir.specs.declared.operand.Place.{Place}
use Rattle.mir.specs.declared.operand.Rvalue.TheVariants.{Aggregate, CheckedBinaryOp}
use Rattle.source_meaning.specs.Core as expr
use Rattle.source_meaning.specs.Core.{ByPath, ByPattern, Combine, FieldOf, MakeStruct, Part}
use Rattle.body_forms.specs.Form.{IsPlaceForm, core_assigned, core_assignee, core_elem, core_source, core_value, exprs_given, field_elem, part_elem}
use Rattle.body_forms.specs.declared.form.FieldStep.{FieldStep}
use Rattle.body_forms.specs.Refusals.{IsUnbuilt}
use Rattle.body_forms.specs.declared.form.Assigned.{Assigned}
use Rattle.body_forms.specs.declared.form.Assignee.{Assignee}
use Rattle.world.specs.declared.body.Statement.{Statement}
use Rattle.mir_lower.specs.Refusals.{RefusesAt}
use Rattle.std.specs.Prelude.{All, Contains, IfSome, ℕ}
use Rattle.std.proofs.lemmas.List.Elements.{All-contains, All-nil, All-more, Contains-get_or}
use Rattle.world.specs.Nodes.{optional}
use Rattle.mir_lower.specs.Built.{IsBuilt, IsBuiltThrough}
use Rattle.mir_lower.proofs.Building.{built-field, built-return, has-target, built-labelled, built-loop, built-break, built-literal, built-path, built-strict, built-call, built-logic, built-if, built-assign, built-compound, built-block, one-built, two-built}
use Rattle.mir_lower.proofs.Adjusting.{lowers-undiverted, lowers-diverted}
use Rattle.mir_lower.proofs.Assignments.{assigns-place, value-part, target-part, lowers-target-path, lowers-target-place, lowers-assign}
use Rattle.mir_lower.proofs.Calls.{Collects, argument-in, arguments-from, built-arguments, collects-none, collects-more, collects-all, has-called, lowers-call}
use Rattle.source_meaning.proofs.Parts.{call_parts, strict_parts}
use Rattle.world.specs.Nodes.{expr_numbers, field_numbers}
use Rattle.mir_lower.proofs.Compounds.{combined-part, combined-field-part, lowers-own-path, lowers-own-field, lowers-compound, refuses-combined}
use Rattle.mir_lower.proofs.Blocks.{idles-read, lowers-none, lowers-more, lowers-let, lowers-expr-statement, lowers-tail, lowers-no-tail, block-inner, lowers-block}
use Rattle.mir_lower.proofs.Drops.{opened-within, scope-left}
use Rattle.mir_lower.proofs.Fields.{base-among, field-part, finds-element, finds-field, index-among, index-evaluated, lowers-field, lowers-field-into, lowers-index, own-index}
use Rattle.source_meaning.proofs.Indices.{node_has_index, target_has_index}
use Rattle.mir_lower.proofs.Projecting.{at-later, place-known}
use Rattle.mir_lower.proofs.Operands.{lowers-literal-operand, lowers-place-operand, lowers-temp, lowers-name}
use Rattle.mir_lower.proofs.Rvalues.{is-aggregate}
use Rattle.mir_lower.proofs.Structs.{all-operands, as-many-numbers, as-many-written, one-more-operand, struct-form}
use Rattle.mir_lower.proofs.Strict.{lowers-strict, lowers-one, lowers-two, first-part, second-part}
use Rattle.body_forms.specs.Operations.{several_operation, single_operation}
use Rattle.mir_lower.proofs.Refused.{refuses-here, refuses-no-memory, refuses-part, refuses-unbuilt, refuses-unbuilt-form, refuses-statement, without-initializer, with-else, item-is-unbuilt, refuses-pattern, refuses-target, refused-exit, part-below, part-of-statement, refuses-break}
use Rattle.mir_lower.proofs.Growing.{grows-trans}
use Rattle.mir_lower.proofs.Updates.{all-among, all-are-parts, built-unit, built-update, known-at, lowers-unit, lowers-update, more-open, sources-among, sources-are, update-form, updated-base-part, updated-parts}
use Rattle.mir_lower.specs.Updates.{AreFound, IsAmong}
use Rattle.mir_lower.proofs.Operations.{assignment}
use Rattle.mir.specs.declared.operand.AggregateKind.TheVariants as kind
use Rattle.types.specs.declared.ids.VariantId.TheVariants as variant
use Rattle.types.specs.declared.ty.GenericArgs.{GenericArgs}
use Rattle.body_forms.specs.declared.structs.FieldSource.{FieldSource}
use Rattle.source_meaning.specs.Structs.{FieldSource as CoreSource}
use Rattle.mir_lower.proofs.Steps.{local_of-grows, placed-later}
use Rattle.mir_lower.proofs.Branches.{reserved-spared, other-reserved, join-reserved}
use Rattle.mir.specs.declared.ids.LocalId.{LocalId}
use Rattle.mir_lower.proofs.Jumping.{meant-has, break-part, lowers-break}
use Rattle.mir_lower.proofs.Loops.{body-part, labelled-tail-part, lowers-loop, lowers-labelled}
use Rattle.mir_lower.proofs.Ready.{ready-in, parts-ready, parts-ready-in, part-ready, ready-part, parts-entered, opened-is}
use Rattle.mir_lower.proofs.Returning.{return-part, lowers-return}
use Rattle.mir_lower.proofs.Sparing.{spares-trans, scoped-spares}
use Rattle.mir_lower.proofs.Conditions.{left-part, right-part, condition-part, then-part, else-part, tail-part, lowers-if, keeps-decided, lowers-logic}
use Rattle.mir_lower.specs.Branches.{IsForked}
use Rattle.source_meaning.specs.Meaning.{deciding_byte}
use Rattle.source_meaning.specs.Built.{IsBuiltAssigned, IsBuiltAssignee}
use Rattle.source_meaning.specs.Steps.{assigned_parts, assignee_parts, field_parts, parts_of}
use Rattle.mir_lower.proofs.lower.+lower.Goals as goal

-- an operand, and a place

pub lower_operand-returns-in-Some-clause-lowered : goal.lower_operand-returns-in-Some-clause-lowered
lower_operand-returns-in-Some-clause-lowered g t c =
    let source = source_of c.args.context.now in
    IfOk-weaker c.lower_literal.result _ _
    (λ operand is. lowers-literal-operand source (shape g.I.Interner.projections c.args.graph.now) c.args.e.0 (core_value c.in-Some.literal) operand.kind c.requires.ready.sound c.requires.ready.«open» c.in-Some.ensures.some is)
    c.lower_literal.ensures.lowered

pub lower_operand-returns-in-Some-clause-built : goal.lower_operand-returns-in-Some-clause-built
lower_operand-returns-in-Some-clause-built g t c =
    on_ok_weaker c.lower_literal.result (λ built. built-literal (source_of c.args.context.now) c.args.e.0 (core_value c.in-Some.literal) (unadjusted-plain (source_of c.args.context.now) c.args.e.0 _ c.in-Some.ensures.some).1 built) c.lower_literal.ensures.built

pub lower_operand-returns-in-Some-clause-refused : goal.lower_operand-returns-in-Some-clause-refused
lower_operand-returns-in-Some-clause-refused g t c =
    IfErr-weaker c.lower_literal.result _ _ (λ error refused. refuses-here (source_of c.args.context.now) c.args.e.0 error refused) c.lower_literal.ensures.refused

pub lower_operand-returns-in_ok-place-in-None : goal.lower_operand-returns-in_ok-place-in-None
lower_operand-returns-in_ok-place-in-None g t c =
    let source = source_of c.args.context.now in
    record {
      lowered = subst (λ (k : OperandKind). LowersOperand source (shape g.I.Interner.projections c.args.graph.now) (shape g.I.Interner.projections c.lower_place.new.graph) c.args.e.0 k) (sym c.copied.ensures.kind)
          (lowers-place-operand source (shape g.I.Interner.projections c.args.graph.now) (shape g.I.Interner.projections c.lower_place.new.graph) c.args.e.0 c.in_ok-place-in-None.place c.in_ok-place-in-None.ensures.lowered
          c.in-None.ensures.none);
      built = c.in_ok-place-in-None.ensures.built;
      refused = tt;
    }

pub lower_place-returns-in_err-named_local-in-Path-clause-refused : goal.lower_place-returns-in_err-named_local-in-Path-clause-refused
lower_place-returns-in_err-named_local-in-Path-clause-refused g t c =
    let source = source_of c.args.context.now in
    refused-exit (RefusesAt source c.args.e.0) _ c.from_residual.result c.from_residual.ensures.1
    (λ error same. subst (RefusesAt source c.args.e.0) (sym same) (refuses-here source c.args.e.0 _ c.in_err-named_local-in-Path.ensures.refused))

pub lower_place-returns-in_ok-named_local-in-Path-clause-lowered : goal.lower_place-returns-in_ok-named_local-in-Path-clause-lowered
lower_place-returns-in_ok-named_local-in-Path-clause-lowered g t c =
    let source = source_of c.args.context.now in
    let form : unadjusted source c.args.e.0 ≡ Some (expr.Path c.in-Path.name.now) = subst (IsPlaceForm source c.args.e.0) c.in-Path.is c.place_form_at.ensures in
    subst (λ (place : Place). LowersPlace source (shape g.I.Interner.projections c.args.graph.now) (shape g.I.Interner.projections c.args.graph.now) c.args.e.0 place) (sym c.from.ensures)
    (lowers-name source (shape g.I.Interner.projections c.args.graph.now) c.args.e.0 c.in_ok-named_local-in-Path.field-0 c.in-Path.name.now c.requires.ready.sound c.requires.ready.«open» form c.in_ok-named_local-in-Path.ensures.lowered)

pub lower_place-returns-in_ok-named_local-in-Path-clause-built : goal.lower_place-returns-in_ok-named_local-in-Path-clause-built
lower_place-returns-in_ok-named_local-in-Path-clause-built g t c =
    let source = source_of c.args.context.now in
    let form : unadjusted source c.args.e.0 ≡ Some (expr.Path c.in-Path.name.now) = subst (IsPlaceForm source c.args.e.0) c.in-Path.is c.place_form_at.ensures in
    built-path source c.args.e.0 c.in-Path.name.now (unadjusted-plain source c.args.e.0 _ form).1 c.in_ok-named_local-in-Path.ensures.built

pub lower_place-lower_field-requires : goal.lower_place-lower_field-requires
lower_place-lower_field-requires g t c =
    let source = source_of c.args.context.now in
    let form : unadjusted source c.args.e.0 ≡ Some (expr.Field c.in-Field.base.0 (core_elem c.in-Field.step)) = subst (IsPlaceForm source c.args.e.0) c.in-Field.is c.place_form_at.ensures in
    let node-is = (unadjusted-plain source c.args.e.0 _ form).1 in
    let elem = core_elem c.in-Field.step in
    λ κs alive. (omega arith, (alive, (parts-ready source (shape g.I.Interner.projections c.args.graph.now) c.args.e.0 (λ outer. ap (λ n. opened_in c.args.e.0 n outer) node-is) c.requires.ready, (field-part source c.args.e.0 c.in-Field.base.0 elem node-is, own-index source elem (node_has_index source c.args.e.0 c.in-Field.base.0 elem node-is)))))

pub lower_place-returns-in-Field-clause-lowered : goal.lower_place-returns-in-Field-clause-lowered
lower_place-returns-in-Field-clause-lowered g t c =
    let source = source_of c.args.context.now in
    let form : unadjusted source c.args.e.0 ≡ Some (expr.Field c.in-Field.base.0 (core_elem c.in-Field.step)) = subst (IsPlaceForm source c.args.e.0) c.in-Field.is c.place_form_at.ensures in
    IfOk-weaker c.lower_field.result _ _
    (λ place lowered. lowers-field source (shape g.I.Interner.projections c.args.graph.now) (shape g.I.Interner.projections c.lower_field.new.graph) c.args.e.0 c.in-Field.base.0 (core_elem c.in-Field.step) place c.requires.ready form lowered)
    c.lower_field.ensures.lowered

pub lower_place-returns-in-Field-clause-built : goal.lower_place-returns-in-Field-clause-built
lower_place-returns-in-Field-clause-built g t c =
    let source = source_of c.args.context.now in
    let form : unadjusted source c.args.e.0 ≡ Some (expr.Field c.in-Field.base.0 (core_elem c.in-Field.step)) = subst (IsPlaceForm source c.args.e.0) c.in-Field.is c.place_form_at.ensures in
    on_ok_weaker c.lower_field.result (λ built. built-field source c.args.e.0 c.in-Field.base.0 (core_elem c.in-Field.step) (unadjusted-plain source c.args.e.0 _ form).1 built) c.lower_field.ensures.built

-- the place of a field

pub lower_field-lower_place-requires : goal.lower_field-lower_place-requires
lower_field-lower_place-requires g t c =
    let source = source_of c.args.context.now in
    let part = c.requires.parts c.args.base.0 (base-among c.args.base.0 (core_elem c.args.step)) in
    let below = part-below source c.args.e.0 c.args.base.0 c.requires.ready.checked part in
    λ κs alive. (omega (arith, below), (alive, part-ready source (shape g.I.Interner.projections c.args.graph.now) c.args.e.0 c.args.base.0 c.requires.ready part))

pub lower_field-returns-in_err-place-clause-refused : goal.lower_field-returns-in_err-place-clause-refused
lower_field-returns-in_err-place-clause-refused g t c =
    let source = source_of c.args.context.now in
    refused-exit (RefusesAt source c.args.e.0) _ c.from_residual.result c.from_residual.ensures.1
    (λ error same. subst (RefusesAt source c.args.e.0) (sym same) (refuses-part source c.args.e.0 c.args.base.0 _ (c.requires.parts c.args.base.0 (base-among c.args.base.0 (core_elem c.args.step))) c.in_err-place.ensures.refused))

pub lower_field-project-requires : goal.lower_field-project-requires
lower_field-project-requires g t c = place-known (shape g.I.Interner.projections c.lower_place.new.graph) (g.met.I.Interner.interned c.lower_place.new.graph.projections) c.in_ok-place.place c.in_ok-place.ensures.lowered.does.at c.in_ok-place.ensures.lowered.does.is

pub lower_field-returns-in_err-project-in-Part-clause-refused : goal.lower_field-returns-in_err-project-in-Part-clause-refused
lower_field-returns-in_err-project-in-Part-clause-refused g t c =
    refused-exit (RefusesAt (source_of c.args.context.now) c.args.e.0) _ c.from_residual-in_err-project-in-Part.result c.from_residual-in_err-project-in-Part.ensures.1
    (λ error none. refuses-no-memory (source_of c.args.context.now) c.args.e.0 error none)

pub lower_field-returns-in_ok-project-in-Part-clause-lowered : goal.lower_field-returns-in_ok-project-in-Part-clause-lowered
lower_field-returns-in_ok-project-in-Part-clause-lowered g t c =
    let source = source_of c.args.context.now in
    let s0 = shape g.I.Interner.projections c.args.graph.now in
    let s1 = shape g.I.Interner.projections c.lower_place.new.graph in
    let s2 = shape g.I.Interner.projections c.project.new.self in
    let made = c.in_ok-project-in-Part.field-0 in
    subst (λ (step : FieldStep). LowersField source s0 s2 c.args.base.0 (core_elem step) made) (sym c.in-Part.is)
    (finds-field source s0 s1 s2 c.args.base.0 (Part c.in-Part.index) (part_elem c.in-Part.index) c.in_ok-place.place made tt refl c.in_ok-place.ensures.lowered
    (subst (λ elem. IsProjected s1 s2 c.in_ok-place.place elem made) c.part_elem.ensures c.in_ok-project-in-Part.ensures))

pub lower_field-project-requires-in-Field : goal.lower_field-project-requires-in-Field
lower_field-project-requires-in-Field g t c = place-known (shape g.I.Interner.projections c.lower_place.new.graph) (g.met.I.Interner.interned c.lower_place.new.graph.projections) c.in_ok-place.place c.in_ok-place.ensures.lowered.does.at c.in_ok-place.ensures.lowered.does.is

pub lower_field-returns-in_err-project-in-Field-clause-refused : goal.lower_field-returns-in_err-project-in-Field-clause-refused
lower_field-returns-in_err-project-in-Field-clause-refused g t c =
    refused-exit (RefusesAt (source_of c.args.context.now) c.args.e.0) _ c.from_residual-in_err-project-in-Field.result c.from_residual-in_err-project-in-Field.ensures.1
    (λ error none. refuses-no-memory (source_of c.args.context.now) c.args.e.0 error none)

pub lower_field-returns-in_ok-project-in-Field-clause-lowered : goal.lower_field-returns-in_ok-project-in-Field-clause-lowered
lower_field-returns-in_ok-project-in-Field-clause-lowered g t c =
    let source = source_of c.args.context.now in
    let s0 = shape g.I.Interner.projections c.args.graph.now in
    let s1 = shape g.I.Interner.projections c.lower_place.new.graph in
    let s2 = shape g.I.Interner.projections c.project-in-Field.new.self in
    let made = c.in_ok-project-in-Field.field-0 in
    subst (λ (step : FieldStep). LowersField source s0 s2 c.args.base.0 (core_elem step) made) (sym c.in-Field.is)
    (finds-field source s0 s1 s2 c.args.base.0 (FieldOf c.in-Field.field) (field_elem c.in-Field.field) c.in_ok-place.place made tt refl c.in_ok-place.ensures.lowered c.in_ok-project-in-Field.ensures)

pub lower_field-lower_index-requires : goal.lower_field-lower_index-requires
lower_field-lower_index-requires g t c =
    let source = source_of c.args.context.now in
    let s0 = shape g.I.Interner.projections c.args.graph.now in
    let s1 = shape g.I.Interner.projections c.lower_place.new.graph in
    let keeps = c.in_ok-place.ensures.lowered.keeps in
    let n = c.in-Element.at.0 in
    let index = c.in-Element.index.0 in
    let parts = subst (λ (step : FieldStep). (child : ℕ) → Contains (field_parts c.args.base.0 (core_elem step)) child → Contains (parts_of (node source c.args.e.0)) child) c.in-Element.is c.requires.parts in
    let has = subst (λ (step : FieldStep). HasIndex source (core_elem step)) c.in-Element.is c.requires.index in
    λ κs alive. (omega arith, (alive, (parts-ready-in source s0 s1 c.args.e.0 c.requires.ready keeps.spares.targets keeps.grows keeps.sound keeps.«open», (parts index (index-among c.args.base.0 n index), has))))

pub lower_field-project-requires-in-Element : goal.lower_field-project-requires-in-Element
lower_field-project-requires-in-Element g t c =
    let s1 = shape g.I.Interner.projections c.lower_place.new.graph in
    let s2 = shape g.I.Interner.projections c.lower_index.new.graph in
    let at = c.in_ok-place.ensures.lowered.does.at in
    place-known s2 (g.met.I.Interner.interned c.lower_index.new.graph.projections) c.in_ok-place.place at (at-later s1 s2 c.in_ok-local-in-Element.ensures.lowered.keeps.grows c.in_ok-place.place at c.in_ok-place.ensures.lowered.does.is)

pub lower_field-returns-in_err-project-in-Element-clause-refused : goal.lower_field-returns-in_err-project-in-Element-clause-refused
lower_field-returns-in_err-project-in-Element-clause-refused g t c =
    refused-exit (RefusesAt (source_of c.args.context.now) c.args.e.0) _ c.from_residual-in_err-project-in-Element.result c.from_residual-in_err-project-in-Element.ensures.1
    (λ error none. refuses-no-memory (source_of c.args.context.now) c.args.e.0 error none)

pub lower_field-returns-in_ok-project-in-Element-clause-lowered : goal.lower_field-returns-in_ok-project-in-Element-clause-lowered
lower_field-returns-in_ok-project-in-Element-clause-lowered g t c =
    let source = source_of c.args.context.now in
    let s0 = shape g.I.Interner.projections c.args.graph.now in
    let s1 = shape g.I.Interner.projections c.lower_place.new.graph in
    let s2 = shape g.I.Interner.projections c.lower_index.new.graph in
    let s3 = shape g.I.Interner.projections c.project-in-Element.new.self in
    let made = c.in_ok-project-in-Element.field-0 in
    subst (λ (step : FieldStep). LowersField source s0 s3 c.args.base.0 (core_elem step) made) (sym c.in-Element.is)
    (finds-element source s0 s1 s2 s3 c.args.base.0 c.in-Element.at.0 c.in-Element.index.0 c.in_ok-local-in-Element.local c.in_ok-place.place made c.in_ok-place.ensures.lowered c.in_ok-local-in-Element.ensures.lowered c.in_ok-project-in-Element.ensures)

-- the index of an element, in an own local

pub lower_index-new_index-requires : goal.lower_index-new_index-requires
lower_index-new_index-requires g t c =
    let source = source_of c.args.context.now in
    record {
      checked = c.requires.ready.checked;
      sound = c.requires.ready.sound;
      opened = c.requires.ready.«open»;
      index = index-evaluated source (shape g.I.Interner.projections c.args.graph.now) c.args.e.0 c.args.at.0 c.args.index.0 c.requires.ready c.requires.part c.requires.index;
    }

pub lower_index-returns-in_err-local-clause-refused : goal.lower_index-returns-in_err-local-clause-refused
lower_index-returns-in_err-local-clause-refused g t c =
    refused-exit (RefusesAt (source_of c.args.context.now) c.args.e.0) _ c.from_residual.result c.from_residual.ensures.1
    (λ error same. subst (RefusesAt (source_of c.args.context.now) c.args.e.0) (sym same) (refuses-no-memory (source_of c.args.context.now) c.args.e.0 _ c.in_err-local.ensures.refused))

pub lower_index-lower_into-requires : goal.lower_index-lower_into-requires
lower_index-lower_into-requires g t c =
    let source = source_of c.args.context.now in
    let given = c.in_ok-local.ensures.given in
    let below = part-below source c.args.e.0 c.args.index.0 c.requires.ready.checked c.requires.part in λ κs alive. (
      omega (arith, below),
      (
        alive,
        (
          (ready-part source (shape g.I.Interner.projections c.args.graph.now) (shape g.I.Interner.projections c.new_index.new.graph) c.args.e.0 c.args.index.0 c.requires.ready c.requires.part given.keeps.spares.targets given.keeps.grows given.keeps.sound given.keeps.«open»).ready,
          record { cell = IndexOf c.args.at.0; found = given.found },
        ),
      ),
    )

pub lower_index-returns-in_err-lower_into-clause-refused : goal.lower_index-returns-in_err-lower_into-clause-refused
lower_index-returns-in_err-lower_into-clause-refused g t c =
    let source = source_of c.args.context.now in
    refused-exit (RefusesAt source c.args.e.0) _ c.from_residual-in_err-lower_into.result c.from_residual-in_err-lower_into.ensures.1
    (λ error same. subst (RefusesAt source c.args.e.0) (sym same) (refuses-part source c.args.e.0 c.args.index.0 _ c.requires.part c.in_err-lower_into.ensures.refused))

pub lower_index-returns-clause-lowered : goal.lower_index-returns-clause-lowered
lower_index-returns-clause-lowered g t c =
    let source = source_of c.args.context.now in
    let given = c.in_ok-local.ensures.given in
    lowers-index source (shape g.I.Interner.projections c.args.graph.now) (shape g.I.Interner.projections c.new_index.new.graph) (shape g.I.Interner.projections c.lower_into.new.graph) c.args.at.0 c.args.index.0 c.in_ok-local.local.0 c.requires.index given (c.in_ok-lower_into.ensures.lowered (IndexOf c.args.at.0) given.found)

-- a field's bytes

pub field_into-lower_field-requires : goal.field_into-lower_field-requires
field_into-lower_field-requires g t c =
    let source = source_of c.args.context.now in
    let elem = core_elem c.args.step in
    λ κs alive. (omega arith, (alive, (parts-ready source (shape g.I.Interner.projections c.args.graph.now) c.args.e.0 (λ outer. ap (λ n. opened_in c.args.e.0 n outer) c.requires.form) c.requires.ready, (field-part source c.args.e.0 c.args.base.0 elem c.requires.form, own-index source elem (node_has_index source c.args.e.0 c.args.base.0 elem c.requires.form)))))

pub field_into-returns-clause-lowered : goal.field_into-returns-clause-lowered
field_into-returns-clause-lowered g t c =
    let source = source_of c.args.context.now in
    on_ok_weaker c.assign.result
    (λ added cell local. lowers-field-into source (shape g.I.Interner.projections c.args.graph.now) (shape g.I.Interner.projections c.lower_field.new.graph) (shape g.I.Interner.projections c.assign.new.graph) c.args.e.0 c.args.base.0 (core_elem c.args.step) c.args.to c.in_ok-from.from c.copied.result (ExprId c.args.e) c.requires.ready c.requires.form c.in_ok-from.ensures.lowered c.copied.ensures.kind added cell local)
    c.assign.ensures.added

pub field_into-returns-clause-built : goal.field_into-returns-clause-built
field_into-returns-clause-built g t c =
    on_ok_weaker c.assign.result (λ added. built-field (source_of c.args.context.now) c.args.e.0 c.args.base.0 (core_elem c.args.step) c.requires.form c.in_ok-from.ensures.built) c.assign.ensures.added

pub field_into-returns-clause-refused : goal.field_into-returns-clause-refused
field_into-returns-clause-refused g t c =
    IfErr-weaker c.assign.result _ _ (λ error none. refuses-no-memory (source_of c.args.context.now) c.args.e.0 error none) c.assign.ensures.refused

pub lower_temp-returns-in_err-local-clause-refused : goal.lower_temp-returns-in_err-local-clause-refused
lower_temp-returns-in_err-local-clause-refused g t c =
    refused-exit (RefusesAt (source_of c.args.context.now) c.args.e.0) _ c.from_residual.result c.from_residual.ensures.1
    (λ error same. subst (RefusesAt (source_of c.args.context.now) c.args.e.0) (sym same) (refuses-no-memory (source_of c.args.context.now) c.args.e.0 _ c.in_err-local.ensures.refused))

pub lower_temp-lower_into-requires : goal.lower_temp-lower_into-requires
lower_temp-lower_into-requires g t c =
    let given = c.in_ok-local.ensures.given in λ κs alive. (
      omega arith,
      (
        alive,
        (
          ready-in (source_of c.args.context.now) (shape g.I.Interner.projections c.args.graph.now) (shape g.I.Interner.projections c.new_temp.new.graph) c.args.e.0 c.requires.ready.ready given.keeps.spares.targets given.keeps.grows given.keeps.sound given.keeps.«open»,
          record { cell = Node c.args.e.0; found = given.found },
        ),
      ),
    )

pub lower_temp-returns-clause-lowered : goal.lower_temp-returns-clause-lowered
lower_temp-returns-clause-lowered g t c =
    let source = source_of c.args.context.now in
    subst (λ (place : Place). LowersPlace source (shape g.I.Interner.projections c.args.graph.now) (shape g.I.Interner.projections c.lower_into.new.graph) c.args.e.0 place) (sym c.from.ensures)
    (lowers-temp source (shape g.I.Interner.projections c.args.graph.now) (shape g.I.Interner.projections c.new_temp.new.graph) (shape g.I.Interner.projections c.lower_into.new.graph) c.args.e.0 c.in_ok-local.local c.requires.form c.in_ok-local.ensures.given
    (c.in_ok-lower_into.ensures.lowered (Node c.args.e.0) c.in_ok-local.ensures.given.found))

-- an expression into a local

pub lower_into-returns-in_err-never-clause-refused : goal.lower_into-returns-in_err-never-clause-refused
lower_into-returns-in_err-never-clause-refused g t c =
    let source = source_of c.args.context.now in
    refused-exit (RefusesAt source c.args.e.0) _ c.from_residual.result c.from_residual.ensures.1
    (λ error same. subst (RefusesAt source c.args.e.0) (sym same) (refuses-no-memory source c.args.e.0 _ c.in_err-never.ensures.refused))

pub lower_into-lower_own-requires : goal.lower_into-lower_own-requires
lower_into-lower_own-requires g t c =
    let given = c.in_ok-never.ensures.given in λ κs alive. (
      omega arith,
      (
        alive,
        (
          ready-in (source_of c.args.context.now) (shape g.I.Interner.projections c.args.graph.now) (shape g.I.Interner.projections c.new_never.new.graph) c.args.e.0 c.requires.ready given.keeps.spares.targets given.keeps.grows given.keeps.sound given.keeps.«open»,
          record { cell = Never c.args.e.0; found = given.found },
        ),
      ),
    )

pub lower_into-returns-in_ok-never-clause-lowered : goal.lower_into-returns-in_ok-never-clause-lowered
lower_into-returns-in_ok-never-clause-lowered g t c =
    let source = source_of c.args.context.now in
    let given = c.in_ok-never.ensures.given in
    on_ok_weaker c.lower_own.result
    (λ own cell found. lowers-diverted source (shape g.I.Interner.projections c.args.graph.now) (shape g.I.Interner.projections c.new_never.new.graph) (shape g.I.Interner.projections c.lower_own.new.graph) c.args.e.0 c.in_ok-never.never.0 cell c.requires.ready (sym c.diverges.ensures ∙ c.if-diverges.true) given (own (Never c.args.e.0) given.found))
    c.lower_own.ensures.lowered

pub lower_into-returns-else-diverges-clause-lowered : goal.lower_into-returns-else-diverges-clause-lowered
lower_into-returns-else-diverges-clause-lowered g t c =
    let source = source_of c.args.context.now in
    on_ok_weaker c.lower_own-else-diverges.result
    (λ own cell found. lowers-undiverted source (shape g.I.Interner.projections c.args.graph.now) (shape g.I.Interner.projections c.lower_own-else-diverges.new.graph) c.args.e.0 cell c.requires.ready (sym c.diverges.ensures ∙ c.if-diverges.false) (own cell found))
    c.lower_own-else-diverges.ensures.lowered

-- an expression itself into a place

pub lower_own-returns-in-Incomplete-clause-refused : goal.lower_own-returns-in-Incomplete-clause-refused
lower_own-returns-in-Incomplete-clause-refused g t c = refuses-here (source_of c.args.context.now) c.args.e.0 refusal.IncompleteExpr c.in-Incomplete.ensures.cause

pub lower_own-returns-in-Unbuilt-clause-refused : goal.lower_own-returns-in-Unbuilt-clause-refused
lower_own-returns-in-Unbuilt-clause-refused g t c = refuses-unbuilt-form (source_of c.args.context.now) c.args.e.0 c.form_not_built.result c.in-Unbuilt.ensures c.form_not_built.ensures

-- a value of a unit struct is nothing to write
pub lower_own-returns-in-UnitStruct : goal.lower_own-returns-in-UnitStruct
lower_own-returns-in-UnitStruct g t c =
    let source = source_of c.args.context.now in
    let form : node source c.args.e.0 ≡ Some expr.UnitStruct = c.in-UnitStruct.ensures.core in
    record {
      lowered = λ cell found. lowers-unit source (shape g.I.Interner.projections c.args.graph.now) c.args.e.0 cell c.requires.ready form;
      built = built-unit source c.args.e.0 form;
      refused = tt;
    }

-- an assignment and a jump write nothing to the place that they are lowered into
pub lower_own-returns-in-Assign-clause-lowered : goal.lower_own-returns-in-Assign-clause-lowered
lower_own-returns-in-Assign-clause-lowered g t c = on_ok_weaker c.lower_assignment.result (λ lowered cell found. lowered cell) c.lower_assignment.ensures.lowered

pub lower_own-returns-in-Compound-clause-lowered : goal.lower_own-returns-in-Compound-clause-lowered
lower_own-returns-in-Compound-clause-lowered g t c = on_ok_weaker c.lower_compound.result (λ lowered cell found. lowered cell) c.lower_compound.ensures.lowered

pub lower_own-returns-in-Break-clause-lowered : goal.lower_own-returns-in-Break-clause-lowered
lower_own-returns-in-Break-clause-lowered g t c = on_ok_weaker c.lower_break.result (λ lowered cell found. lowered cell) c.lower_break.ensures.lowered

pub lower_own-returns-in-Continue-clause-lowered : goal.lower_own-returns-in-Continue-clause-lowered
lower_own-returns-in-Continue-clause-lowered g t c = on_ok_weaker c.lower_continue.result (λ lowered cell found. lowered cell) c.lower_continue.ensures.lowered

pub lower_own-returns-in-Return-clause-lowered : goal.lower_own-returns-in-Return-clause-lowered
lower_own-returns-in-Return-clause-lowered g t c = on_ok_weaker c.lower_return.result (λ lowered cell found. lowered cell) c.lower_return.ensures.lowered

-- an operation on one operand

pub lower_single-lower_operand-requires : goal.lower_single-lower_operand-requires
lower_single-lower_operand-requires g t c =
    let source = source_of c.args.context.now in
    let is = first-part source c.args.e.0 c.args.operand.0 [] (single_operation c.args.single) c.requires.form in
    let below = part-below source c.args.e.0 c.args.operand.0 c.requires.ready.checked is in
    λ κs alive. (omega (arith, below), (alive, part-ready source (shape g.I.Interner.projections c.args.graph.now) c.args.e.0 c.args.operand.0 (parts-ready source (shape g.I.Interner.projections c.args.graph.now) c.args.e.0 (λ outer. ap (λ n. opened_in c.args.e.0 n outer) c.requires.form) c.requires.ready) is))

pub lower_single-returns-in_err-value-clause-refused : goal.lower_single-returns-in_err-value-clause-refused
lower_single-returns-in_err-value-clause-refused g t c =
    let source = source_of c.args.context.now in
    refused-exit (RefusesAt source c.args.e.0) _ c.from_residual.result c.from_residual.ensures.1
    (λ error same. subst (RefusesAt source c.args.e.0) (sym same) (refuses-part source c.args.e.0 c.args.operand.0 _ (first-part source c.args.e.0 c.args.operand.0 [] (single_operation c.args.single) c.requires.form) c.in_err-value.ensures.refused))

pub lower_single-made_of-requires : goal.lower_single-made_of-requires
lower_single-made_of-requires g t c = record { checked = c.requires.ready.checked; within = c.requires.ready.within; form = (c.args.operand.0 ∷ [], c.requires.form) }

pub lower_single-returns-in_err-rvalue-clause-refused : goal.lower_single-returns-in_err-rvalue-clause-refused
lower_single-returns-in_err-rvalue-clause-refused g t c =
    let source = source_of c.args.context.now in
    refused-exit (RefusesAt source c.args.e.0) _ c.from_residual-in_err-rvalue.result c.from_residual-in_err-rvalue.ensures.1
    (λ error same. subst (RefusesAt source c.args.e.0) (sym same) (refuses-here source c.args.e.0 _ c.in_err-rvalue.ensures.refused))

pub lower_single-returns-clause-lowered : goal.lower_single-returns-clause-lowered
lower_single-returns-clause-lowered g t c =
    let source = source_of c.args.context.now in
    let operand = c.in_ok-value.value in
    let value = lowers-one source (shape g.I.Interner.projections c.args.graph.now) (shape g.I.Interner.projections c.lower_operand.new.graph) c.args.operand.0 operand.kind c.in_ok-value.ensures.lowered in
    on_ok_weaker c.assign.result
    (λ added cell local. lowers-strict source (shape g.I.Interner.projections c.args.graph.now) (shape g.I.Interner.projections c.lower_operand.new.graph) (shape g.I.Interner.projections c.assign.new.graph) c.args.e.0 (single_operation c.args.single) (c.args.operand.0 ∷ []) (operand ∷ []) c.in_ok-rvalue.rvalue c.args.to (ExprId c.args.e) c.requires.ready c.requires.form value c.in_ok-rvalue.ensures.made added cell local)
    c.assign.ensures.added

pub lower_single-returns-clause-built : goal.lower_single-returns-clause-built
lower_single-returns-clause-built g t c =
    let source = source_of c.args.context.now in
    on_ok_weaker c.assign.result (λ added. built-strict source c.args.e.0 (single_operation c.args.single) (c.args.operand.0 ∷ []) c.requires.form c.in_ok-rvalue.ensures.built (one-built source c.args.operand.0 c.in_ok-value.ensures.built)) c.assign.ensures.added

pub lower_single-returns-clause-refused : goal.lower_single-returns-clause-refused
lower_single-returns-clause-refused g t c =
    IfErr-weaker c.assign.result _ _ (λ error none. refuses-no-memory (source_of c.args.context.now) c.args.e.0 error none) c.assign.ensures.refused

-- a tuple or an array

pub lower_aggregate-kind_of-requires : goal.lower_aggregate-kind_of-requires
lower_aggregate-kind_of-requires g t c = record { checked = c.requires.ready.checked; within = c.requires.ready.within; form = (expr_numbers c.args.parts.now, c.requires.form) }

pub lower_aggregate-returns-in_err-kind-clause-refused : goal.lower_aggregate-returns-in_err-kind-clause-refused
lower_aggregate-returns-in_err-kind-clause-refused g t c =
    let source = source_of c.args.context.now in
    refused-exit (RefusesAt source c.args.e.0) _ c.from_residual.result c.from_residual.ensures.1
    (λ error same. subst (RefusesAt source c.args.e.0) (sym same) (refuses-here source c.args.e.0 _ c.in_err-kind.ensures.refused))

pub lower_aggregate-lower_operands-requires : goal.lower_aggregate-lower_operands-requires
lower_aggregate-lower_operands-requires g t c =
    let source = source_of c.args.context.now in λ κs alive. (
      omega arith,
      (
        alive,
        (
          parts-ready source (shape g.I.Interner.projections c.args.graph.now) c.args.e.0 (λ outer. ap (λ n. opened_in c.args.e.0 n outer) c.requires.form) c.requires.ready,
          all-are-parts _ _ (ap parts_of c.requires.form ∙ strict_parts (several_operation c.args.several) (expr_numbers c.args.parts.now)),
        ),
      ),
    )

pub lower_aggregate-returns-in_err-operands-clause-refused : goal.lower_aggregate-returns-in_err-operands-clause-refused
lower_aggregate-returns-in_err-operands-clause-refused g t c =
    let source = source_of c.args.context.now in
    refused-exit (RefusesAt source c.args.e.0) _ c.from_residual-in_err-operands.result c.from_residual-in_err-operands.ensures.1
    (λ error same. subst (RefusesAt source c.args.e.0) (sym same) c.in_err-operands.ensures.refused)

pub lower_aggregate-returns-clause-lowered : goal.lower_aggregate-returns-clause-lowered
lower_aggregate-returns-clause-lowered g t c =
    let source = source_of c.args.context.now in
    let s0 = shape g.I.Interner.projections c.args.graph.now in
    let s1 = shape g.I.Interner.projections c.lower_operands.new.graph in
    let es = expr_numbers c.args.parts.now in
    let operands = c.in_ok-operands.operands in
    let given : LowersOperands source s0 s1 es (map (λ (operand : Operand). operand.kind) operands) = c.in_ok-operands.ensures.lowered in
    on_ok_weaker c.assign.result
    (λ added cell local. lowers-strict source s0 s1 (shape g.I.Interner.projections c.assign.new.graph) c.args.e.0 (several_operation c.args.several) es operands (Aggregate c.in_ok-kind.kind operands) c.args.to (ExprId c.args.e) c.requires.ready c.requires.form given (is-aggregate source c.args.e.0 c.args.several c.in_ok-kind.kind operands c.in_ok-kind.ensures.made) added cell local)
    c.assign.ensures.added

pub lower_aggregate-returns-clause-built : goal.lower_aggregate-returns-clause-built
lower_aggregate-returns-clause-built g t c =
    let source = source_of c.args.context.now in
    on_ok_weaker c.assign.result (λ added. built-strict source c.args.e.0 (several_operation c.args.several) (expr_numbers c.args.parts.now) c.requires.form c.in_ok-kind.ensures.built c.in_ok-operands.ensures.built) c.assign.ensures.added

pub lower_aggregate-returns-clause-refused : goal.lower_aggregate-returns-clause-refused
lower_aggregate-returns-clause-refused g t c =
    IfErr-weaker c.assign.result _ _ (λ error none. refuses-no-memory (source_of c.args.context.now) c.args.e.0 error none) c.assign.ensures.refused

-- a struct

pub lower_struct-returns-in_err-parts-clause-refused : goal.lower_struct-returns-in_err-parts-clause-refused
lower_struct-returns-in_err-parts-clause-refused g t c =
    refused-exit (RefusesAt (source_of c.args.context.now) c.args.e.0) _ c.from_residual.result c.from_residual.ensures.1
    (λ error none. refuses-no-memory (source_of c.args.context.now) c.args.e.0 error none)

pub lower_struct-lower_operands-requires : goal.lower_struct-lower_operands-requires
lower_struct-lower_operands-requires g t c =
    let source = source_of c.args.context.now in
    let value = c.args.value in
    let has = struct-form source c.args.e.0 value c.requires.form c.requires.given in
    let es-are = ap expr_numbers c.as_slice.ensures ∙ c.in_ok-parts.ensures in λ κs alive. (
      omega arith,
      (
        alive,
        (
          parts-ready source (shape g.I.Interner.projections c.args.graph.now) c.args.e.0 (λ outer. ap (λ n. opened_in c.args.e.0 n outer) has.form) c.requires.ready,
          all-are-parts _ _ (ap parts_of has.form ∙ strict_parts (MakeStruct value.made.id value.made.args.now has.places) (exprs_given value.given) ∙ sym es-are),
        ),
      ),
    )

pub lower_struct-returns-in_err-operands-clause-refused : goal.lower_struct-returns-in_err-operands-clause-refused
lower_struct-returns-in_err-operands-clause-refused g t c =
    let source = source_of c.args.context.now in
    refused-exit (RefusesAt source c.args.e.0) _ c.from_residual-in_err-operands.result c.from_residual-in_err-operands.ensures.1
    (λ error same. subst (RefusesAt source c.args.e.0) (sym same) c.in_err-operands.ensures.refused)

pub lower_struct-struct_value-requires : goal.lower_struct-struct_value-requires
lower_struct-struct_value-requires g t c =
    record {
      given = c.requires.given;
      many = c.in_ok-operands.ensures.many ∙ ap length c.as_slice.ensures ∙ as-many-numbers c.in_ok-parts.parts (exprs_given c.args.value.given) c.in_ok-parts.ensures;
    }

pub lower_struct-returns-in_err-made-clause-refused : goal.lower_struct-returns-in_err-made-clause-refused
lower_struct-returns-in_err-made-clause-refused g t c =
    refused-exit (RefusesAt (source_of c.args.context.now) c.args.e.0) _ c.from_residual-in_err-made.result c.from_residual-in_err-made.ensures.1
    (λ error none. refuses-no-memory (source_of c.args.context.now) c.args.e.0 error none)

pub lower_struct-returns-clause-lowered : goal.lower_struct-returns-clause-lowered
lower_struct-returns-clause-lowered g t c =
    let source = source_of c.args.context.now in
    let value = c.args.value in
    let has = struct-form source c.args.e.0 value c.requires.form c.requires.given in
    let s0 = shape g.I.Interner.projections c.args.graph.now in
    let s1 = shape g.I.Interner.projections c.lower_operands.new.graph in
    let es = exprs_given value.given in
    let operands = c.in_ok-operands.operands in
    let es-are = ap expr_numbers c.as_slice.ensures ∙ c.in_ok-parts.ensures in
    let given : LowersOperands source s0 s1 es (map (λ (operand : Operand). operand.kind) operands) =
    subst (λ (list : List ℕ). LowersOperands source s0 s1 list (map (λ (operand : Operand). operand.kind) operands)) es-are c.in_ok-operands.ensures.lowered in
    on_ok_weaker c.assign.result
    (λ added cell local. lowers-strict source s0 s1 (shape g.I.Interner.projections c.assign.new.graph) c.args.e.0 (MakeStruct value.made.id value.made.args.now has.places) es operands c.in_ok-made.made c.args.to (ExprId c.args.e) c.requires.ready has.form given
    (c.in_ok-made.ensures source c.args.e.0 has.places has.are) added cell local)
    c.assign.ensures.added

pub lower_struct-returns-clause-built : goal.lower_struct-returns-clause-built
lower_struct-returns-clause-built g t c =
    let source = source_of c.args.context.now in
    let value = c.args.value in
    let has = struct-form source c.args.e.0 value c.requires.form c.requires.given in
    let es-are = ap expr_numbers c.as_slice.ensures ∙ c.in_ok-parts.ensures in
    on_ok_weaker c.assign.result
    (λ added. built-strict source c.args.e.0 (MakeStruct value.made.id value.made.args.now has.places) (exprs_given value.given) has.form tt (subst (All (IsBuilt source)) es-are c.in_ok-operands.ensures.built)) c.assign.ensures.added

pub lower_struct-returns-clause-refused : goal.lower_struct-returns-clause-refused
lower_struct-returns-clause-refused g t c =
    IfErr-weaker c.assign.result _ _ (λ error none. refuses-no-memory (source_of c.args.context.now) c.args.e.0 error none) c.assign.ensures.refused

-- a struct with a base

pub lower_update-lower_place-requires : goal.lower_update-lower_place-requires
lower_update-lower_place-requires g t c =
    let source = source_of c.args.context.now in
    let literal = c.args.literal in
    let s0 = shape g.I.Interner.projections c.args.graph.now in
    let has = update-form source c.args.e.0 literal c.args.base c.requires.form c.requires.given in
    let is = updated-base-part source c.args.e.0 c.args.base.0 literal.made.id literal.made.args.now has.sources (field_numbers literal.written.now) has.form in
    let below = part-below source c.args.e.0 c.args.base.0 c.requires.ready.checked is in
    λ κs alive. (omega (arith, below), (alive, part-ready source s0 c.args.e.0 c.args.base.0 (parts-ready source s0 c.args.e.0 (λ outer. ap (λ n. opened_in c.args.e.0 n outer) has.form) c.requires.ready) is))

pub lower_update-returns-in_err-from-clause-refused : goal.lower_update-returns-in_err-from-clause-refused
lower_update-returns-in_err-from-clause-refused g t c =
    let source = source_of c.args.context.now in
    let literal = c.args.literal in
    let has = update-form source c.args.e.0 literal c.args.base c.requires.form c.requires.given in
    let is = updated-base-part source c.args.e.0 c.args.base.0 literal.made.id literal.made.args.now has.sources (field_numbers literal.written.now) has.form in
    refused-exit (RefusesAt source c.args.e.0) _ c.from_residual.result c.from_residual.ensures.1
    (λ error same. subst (RefusesAt source c.args.e.0) (sym same) (refuses-part source c.args.e.0 c.args.base.0 _ is c.in_err-from.ensures.refused))

pub lower_update-returns-in_err-parts-clause-refused : goal.lower_update-returns-in_err-parts-clause-refused
lower_update-returns-in_err-parts-clause-refused g t c =
    refused-exit (RefusesAt (source_of c.args.context.now) c.args.e.0) _ c.from_residual-in_err-parts.result c.from_residual-in_err-parts.ensures.1
    (λ error none. refuses-no-memory (source_of c.args.context.now) c.args.e.0 error none)

pub lower_update-lower_operands-requires : goal.lower_update-lower_operands-requires
lower_update-lower_operands-requires g t c =
    let source = source_of c.args.context.now in
    let literal = c.args.literal in
    let s0 = shape g.I.Interner.projections c.args.graph.now in
    let s1 = shape g.I.Interner.projections c.lower_place.new.graph in
    let has = update-form source c.args.e.0 literal c.args.base c.requires.form c.requires.given in
    let es-are = ap expr_numbers c.as_slice-2.ensures ∙ c.in_ok-parts.ensures ∙ ap field_numbers c.as_slice.ensures in
    let keeps = c.in_ok-from.ensures.lowered.keeps in λ κs alive. (
      omega arith,
      (
        alive,
        (
          parts-ready-in source s0 s1 c.args.e.0 (parts-ready source s0 c.args.e.0 (λ outer. ap (λ n. opened_in c.args.e.0 n outer) has.form) c.requires.ready) keeps.spares.targets keeps.grows keeps.sound keeps.«open»,
          subst (All (Contains (parts_of (node source c.args.e.0)))) (sym es-are) (updated-parts source c.args.e.0 c.args.base.0 literal.made.id literal.made.args.now has.sources (field_numbers literal.written.now) has.form),
        ),
      ),
    )

pub lower_update-returns-in_err-operands-clause-refused : goal.lower_update-returns-in_err-operands-clause-refused
lower_update-returns-in_err-operands-clause-refused g t c =
    let source = source_of c.args.context.now in
    refused-exit (RefusesAt source c.args.e.0) _ c.from_residual-in_err-operands.result c.from_residual-in_err-operands.ensures.1
    (λ error same. subst (RefusesAt source c.args.e.0) (sym same) c.in_err-operands.ensures.refused)

pub lower_update-returns-in_err-sources-clause-refused : goal.lower_update-returns-in_err-sources-clause-refused
lower_update-returns-in_err-sources-clause-refused g t c =
    refused-exit (RefusesAt (source_of c.args.context.now) c.args.e.0) _ c.from_residual-in_err-sources.result c.from_residual-in_err-sources.ensures.1
    (λ error none. refuses-no-memory (source_of c.args.context.now) c.args.e.0 error none)

pub lower_update-field_operands-requires : goal.lower_update-field_operands-requires
lower_update-field_operands-requires g t c =
    let literal = c.args.literal in
    let s1 = shape g.I.Interner.projections c.lower_place.new.graph in
    let s2 = shape g.I.Interner.projections c.lower_operands.new.graph in
    let place = c.in_ok-from.from in
    let does = c.in_ok-from.ensures.lowered.does in
    let many = c.in_ok-operands.ensures.many ∙ ap length c.as_slice-2.ensures ∙ as-many-written c.in_ok-parts.parts literal.written.now (c.in_ok-parts.ensures ∙ ap field_numbers c.as_slice.ensures) in
    record {
      known = known-at s2 place does.at (at-later s1 s2 c.in_ok-operands.ensures.lowered.keeps.grows place does.at does.is);
      given = subst (λ (list : List FieldSource). All (λ source. IsAmong c.in_ok-operands.operands (core_source source)) list) (sym c.as_slice-3.ensures)
          (all-among c.in_ok-operands.operands c.in_ok-sources.sources (subst (All (IsAmong c.in_ok-operands.operands)) (sym c.in_ok-sources.ensures) (sources-among literal.made.id 0 literal.made.fields.now literal.written.now c.in_ok-operands.operands many)));
    }

pub lower_update-returns-in_err-fields-clause-refused : goal.lower_update-returns-in_err-fields-clause-refused
lower_update-returns-in_err-fields-clause-refused g t c =
    refused-exit (RefusesAt (source_of c.args.context.now) c.args.e.0) _ c.from_residual-in_err-fields.result c.from_residual-in_err-fields.ensures.1
    (λ error none. refuses-no-memory (source_of c.args.context.now) c.args.e.0 error none)

pub lower_update-returns-in_err-args-clause-refused : goal.lower_update-returns-in_err-args-clause-refused
lower_update-returns-in_err-args-clause-refused g t c =
    refused-exit (RefusesAt (source_of c.args.context.now) c.args.e.0) _ c.from_residual-in_err-args.result c.from_residual-in_err-args.ensures.1
    (λ error none. refuses-no-memory (source_of c.args.context.now) c.args.e.0 error none)

pub lower_update-assign-requires : goal.lower_update-assign-requires
lower_update-assign-requires g t c =
    more-open (shape g.I.Interner.projections c.lower_operands.new.graph) (shape g.I.Interner.projections c.field_operands.new.graph) c.in_ok-fields.ensures.more c.in_ok-operands.ensures.lowered.keeps.«open»

pub lower_update-returns-clause-lowered : goal.lower_update-returns-clause-lowered
lower_update-returns-clause-lowered g t c =
    let source = source_of c.args.context.now in
    let literal = c.args.literal in
    let has = update-form source c.args.e.0 literal c.args.base c.requires.form c.requires.given in
    let s0 = shape g.I.Interner.projections c.args.graph.now in
    let s1 = shape g.I.Interner.projections c.lower_place.new.graph in
    let s2 = shape g.I.Interner.projections c.lower_operands.new.graph in
    let s3 = shape g.I.Interner.projections c.field_operands.new.graph in
    let es = field_numbers literal.written.now in
    let operands = c.in_ok-operands.operands in
    let fields = c.in_ok-fields.fields in
    let es-are = ap expr_numbers c.as_slice-2.ensures ∙ c.in_ok-parts.ensures ∙ ap field_numbers c.as_slice.ensures in
    let given : LowersOperands source s1 s2 es (map (λ (operand : Operand). operand.kind) operands) =
    subst (λ (list : List ℕ). LowersOperands source s1 s2 list (map (λ (operand : Operand). operand.kind) operands)) es-are c.in_ok-operands.ensures.lowered in
    let sources-is : map core_source c.as_slice-3.result.now ≡ has.sources = ap (map core_source) c.as_slice-3.ensures ∙ c.in_ok-sources.ensures ∙ sources-are literal has.sources has.are in
    let found : AreFound s2 s3 c.in_ok-from.from operands has.sources fields = subst (λ (list : List CoreSource). AreFound s2 s3 c.in_ok-from.from operands list fields) sources-is c.in_ok-fields.ensures in
    on_ok_weaker c.assign.result
    (λ added cell local. lowers-update source s0 s1 s2 s3 (shape g.I.Interner.projections c.assign.new.graph) c.args.e.0 c.args.base.0 literal.made.id literal.made.args.now has.sources es c.in_ok-from.from operands fields c.args.to (ExprId c.args.e) c.requires.ready has.form c.in_ok-from.ensures.lowered given found
    (subst (λ (args : GenericArgs). shape g.I.Interner.projections c.assign.new.graph ≡ with_statement (assignment c.args.to (Aggregate (kind.Adt (variant.StructId literal.made.id) args) fields) (ExprId c.args.e)) s3) c.in_ok-args.ensures added) cell local)
    c.assign.ensures.added

pub lower_update-returns-clause-built : goal.lower_update-returns-clause-built
lower_update-returns-clause-built g t c =
    let source = source_of c.args.context.now in
    let literal = c.args.literal in
    let has = update-form source c.args.e.0 literal c.args.base c.requires.form c.requires.given in
    let es-are = ap expr_numbers c.as_slice-2.ensures ∙ c.in_ok-parts.ensures ∙ ap field_numbers c.as_slice.ensures in
    on_ok_weaker c.assign.result
    (λ added. built-update source c.args.e.0 c.args.base.0 literal.made.id literal.made.args.now has.sources (field_numbers literal.written.now) has.form c.in_ok-from.ensures.built (subst (All (IsBuilt source)) es-are c.in_ok-operands.ensures.built)) c.assign.ensures.added

pub lower_update-returns-clause-refused : goal.lower_update-returns-clause-refused
lower_update-returns-clause-refused g t c =
    IfErr-weaker c.assign.result _ _ (λ error none. refuses-no-memory (source_of c.args.context.now) c.args.e.0 error none) c.assign.ensures.refused

-- an operator on two operands

pub lower_binary-lower_operand-requires : goal.lower_binary-lower_operand-requires
lower_binary-lower_operand-requires g t c =
    let source = source_of c.args.context.now in
    let is = first-part source c.args.e.0 c.args.lhs.0 (c.args.rhs.0 ∷ []) (Combine c.args.op) c.requires.form in
    let below = part-below source c.args.e.0 c.args.lhs.0 c.requires.ready.checked is in
    λ κs alive. (omega (arith, below), (alive, part-ready source (shape g.I.Interner.projections c.args.graph.now) c.args.e.0 c.args.lhs.0 (parts-ready source (shape g.I.Interner.projections c.args.graph.now) c.args.e.0 (λ outer. ap (λ n. opened_in c.args.e.0 n outer) c.requires.form) c.requires.ready) is))

pub lower_binary-returns-in_err-left-clause-refused : goal.lower_binary-returns-in_err-left-clause-refused
lower_binary-returns-in_err-left-clause-refused g t c =
    let source = source_of c.args.context.now in
    refused-exit (RefusesAt source c.args.e.0) _ c.from_residual.result c.from_residual.ensures.1
    (λ error same. subst (RefusesAt source c.args.e.0) (sym same) (refuses-part source c.args.e.0 c.args.lhs.0 _ (first-part source c.args.e.0 c.args.lhs.0 (c.args.rhs.0 ∷ []) (Combine c.args.op) c.requires.form) c.in_err-left.ensures.refused))

pub lower_binary-lower_operand-requires-2 : goal.lower_binary-lower_operand-requires-2
lower_binary-lower_operand-requires-2 g t c =
    let source = source_of c.args.context.now in
    let is = second-part source c.args.e.0 c.args.lhs.0 c.args.rhs.0 (Combine c.args.op) c.requires.form in
    let below = part-below source c.args.e.0 c.args.rhs.0 c.requires.ready.checked is in
    λ κs alive. (omega (arith, below), (alive, ready-part source (shape g.I.Interner.projections c.args.graph.now) (shape g.I.Interner.projections c.lower_operand.new.graph) c.args.e.0 c.args.rhs.0 (parts-ready source (shape g.I.Interner.projections c.args.graph.now) c.args.e.0 (λ outer. ap (λ n. opened_in c.args.e.0 n outer) c.requires.form) c.requires.ready) is c.in_ok-left.ensures.lowered.keeps.spares.targets c.in_ok-left.ensures.lowered.keeps.grows c.in_ok-left.ensures.lowered.keeps.sound c.in_ok-left.ensures.lowered.keeps.«open»))

pub lower_binary-returns-in_err-right-clause-refused : goal.lower_binary-returns-in_err-right-clause-refused
lower_binary-returns-in_err-right-clause-refused g t c =
    let source = source_of c.args.context.now in
    refused-exit (RefusesAt source c.args.e.0) _ c.from_residual-in_err-right.result c.from_residual-in_err-right.ensures.1
    (λ error same. subst (RefusesAt source c.args.e.0) (sym same) (refuses-part source c.args.e.0 c.args.rhs.0 _ (second-part source c.args.e.0 c.args.lhs.0 c.args.rhs.0 (Combine c.args.op) c.requires.form) c.in_err-right.ensures.refused))

pub lower_binary-returns-clause-lowered : goal.lower_binary-returns-clause-lowered
lower_binary-returns-clause-lowered g t c =
    let source = source_of c.args.context.now in
    let x = c.in_ok-left.left in
    let y = c.in_ok-right.right in
    let values = lowers-two source (shape g.I.Interner.projections c.args.graph.now) (shape g.I.Interner.projections c.lower_operand.new.graph) (shape g.I.Interner.projections c.lower_operand-2.new.graph) c.args.lhs.0 c.args.rhs.0 x.kind y.kind c.in_ok-left.ensures.lowered c.in_ok-right.ensures.lowered in
    on_ok_weaker c.assign.result
    (λ added cell local. lowers-strict source (shape g.I.Interner.projections c.args.graph.now) (shape g.I.Interner.projections c.lower_operand-2.new.graph) (shape g.I.Interner.projections c.assign.new.graph) c.args.e.0 (Combine c.args.op) (c.args.lhs.0 ∷ c.args.rhs.0 ∷ []) (x ∷ y ∷ []) (CheckedBinaryOp c.args.op x y) c.args.to (ExprId c.args.e) c.requires.ready c.requires.form values refl added cell local)
    c.assign.ensures.added

pub lower_binary-returns-clause-built : goal.lower_binary-returns-clause-built
lower_binary-returns-clause-built g t c =
    let source = source_of c.args.context.now in
    on_ok_weaker c.assign.result
    (λ added. built-strict source c.args.e.0 (Combine c.args.op) (c.args.lhs.0 ∷ c.args.rhs.0 ∷ []) c.requires.form tt (two-built source c.args.lhs.0 c.args.rhs.0 c.in_ok-left.ensures.built c.in_ok-right.ensures.built))
    c.assign.ensures.added

pub lower_binary-returns-clause-refused : goal.lower_binary-returns-clause-refused
lower_binary-returns-clause-refused g t c =
    IfErr-weaker c.assign.result _ _ (λ error none. refuses-no-memory (source_of c.args.context.now) c.args.e.0 error none) c.assign.ensures.refused

-- an `if`

pub lower_if-lower_operand-requires : goal.lower_if-lower_operand-requires
lower_if-lower_operand-requires g t c =
    let source = source_of c.args.context.now in
    let is = condition-part source c.args.e.0 c.args.condition.0 c.args.then_branch.0 c.args.else_branch c.requires.form in
    let below = part-below source c.args.e.0 c.args.condition.0 c.requires.ready.checked is in
    λ κs alive. (omega (arith, below), (alive, part-ready source (shape g.I.Interner.projections c.args.graph.now) c.args.e.0 c.args.condition.0 (parts-ready source (shape g.I.Interner.projections c.args.graph.now) c.args.e.0 (λ outer. ap (λ n. opened_in c.args.e.0 n outer) c.requires.form) c.requires.ready) is))

pub lower_if-returns-in_err-test-clause-refused : goal.lower_if-returns-in_err-test-clause-refused
lower_if-returns-in_err-test-clause-refused g t c =
    let source = source_of c.args.context.now in
    refused-exit (RefusesAt source c.args.e.0) _ c.from_residual.result c.from_residual.ensures.1
    (λ error same. subst (RefusesAt source c.args.e.0) (sym same) (refuses-part source c.args.e.0 c.args.condition.0 _ (condition-part source c.args.e.0 c.args.condition.0 c.args.then_branch.0 c.args.else_branch c.requires.form) c.in_err-test.ensures.refused))

pub lower_if-returns-in_err-branches-clause-refused : goal.lower_if-returns-in_err-branches-clause-refused
lower_if-returns-in_err-branches-clause-refused g t c =
    let source = source_of c.args.context.now in
    refused-exit (RefusesAt source c.args.e.0) _ c.from_residual-in_err-branches.result c.from_residual-in_err-branches.ensures.1
    (λ error same. subst (RefusesAt source c.args.e.0) (sym same) (refuses-no-memory source c.args.e.0 _ c.in_err-branches.ensures.refused))

pub lower_if-lower_into-requires : goal.lower_if-lower_into-requires
lower_if-lower_into-requires g t c =
    let source = source_of c.args.context.now in
    let s0 = shape g.I.Interner.projections c.args.graph.now in
    let s1 = shape g.I.Interner.projections c.lower_operand.new.graph in
    let s2 = shape g.I.Interner.projections c.fork.new.graph in
    let forked = c.in_ok-branches.ensures.forked in
    let is = then-part source c.args.e.0 c.args.condition.0 c.args.then_branch.0 c.args.else_branch c.requires.form in
    let below = part-below source c.args.e.0 c.args.then_branch.0 c.requires.ready.checked is in λ κs alive. (
      omega (arith, below),
      (
        alive,
        (
          (ready-part source s0 s2 c.args.e.0 c.args.then_branch.0 (parts-ready source s0 c.args.e.0 (λ outer. ap (λ n. opened_in c.args.e.0 n outer) c.requires.form) c.requires.ready) is (forked.spares.targets ∙ c.in_ok-test.ensures.lowered.keeps.spares.targets) (grows-trans s0 s1 s2 c.in_ok-test.ensures.lowered.keeps.grows forked.grows) forked.sound forked.«open»).ready,
          placed-later s0 s2 (grows-trans s0 s1 s2 c.in_ok-test.ensures.lowered.keeps.grows forked.grows) c.args.to.0 c.requires.placed,
        ),
      ),
    )

pub lower_if-returns-in_err-lower_into-clause-refused : goal.lower_if-returns-in_err-lower_into-clause-refused
lower_if-returns-in_err-lower_into-clause-refused g t c =
    let source = source_of c.args.context.now in
    refused-exit (RefusesAt source c.args.e.0) _ c.from_residual-in_err-lower_into.result c.from_residual-in_err-lower_into.ensures.1
    (λ error same. subst (RefusesAt source c.args.e.0) (sym same) (refuses-part source c.args.e.0 c.args.then_branch.0 _ (then-part source c.args.e.0 c.args.condition.0 c.args.then_branch.0 c.args.else_branch c.requires.form) c.in_err-lower_into.ensures.refused))

pub lower_if-go_on-requires : goal.lower_if-go_on-requires
lower_if-go_on-requires g t c =
    let s0 = shape g.I.Interner.projections c.args.graph.now in
    let s1 = shape g.I.Interner.projections c.lower_operand.new.graph in
    let s2 = shape g.I.Interner.projections c.fork.new.graph in
    let forked = c.in_ok-branches.ensures.forked in
    let placed = placed-later s0 s2 (grows-trans s0 s1 s2 c.in_ok-test.ensures.lowered.keeps.grows forked.grows) c.args.to.0 c.requires.placed in
    let one = (c.in_ok-lower_into.ensures.lowered placed.cell placed.found).keeps in
    record { opened = one.«open»; reserved = other-reserved forked one }

pub lower_if-lower_tail-requires : goal.lower_if-lower_tail-requires
lower_if-lower_tail-requires g t c =
    let source = source_of c.args.context.now in
    let s0 = shape g.I.Interner.projections c.args.graph.now in
    let s1 = shape g.I.Interner.projections c.lower_operand.new.graph in
    let s2 = shape g.I.Interner.projections c.fork.new.graph in
    let s3 = shape g.I.Interner.projections c.lower_into.new.graph in
    let s4 = shape g.I.Interner.projections c.go_on.new.graph in
    let forked = c.in_ok-branches.ensures.forked in
    let placed = placed-later s0 s2 (grows-trans s0 s1 s2 c.in_ok-test.ensures.lowered.keeps.grows forked.grows) c.args.to.0 c.requires.placed in
    let one = (c.in_ok-lower_into.ensures.lowered placed.cell placed.found).keeps in
    let gone = c.go_on.ensures source one.sound in λ κs alive. (
      omega arith,
      (
        alive,
        (
          parts-ready-in source s0 s4 c.args.e.0 (parts-ready source s0 c.args.e.0 (λ outer. ap (λ n. opened_in c.args.e.0 n outer) c.requires.form) c.requires.ready) (gone.targets ∙ one.spares.targets ∙ forked.spares.targets ∙ c.in_ok-test.ensures.lowered.keeps.spares.targets) (grows-trans s0 s2 s4 (grows-trans s0 s1 s2 c.in_ok-test.ensures.lowered.keeps.grows forked.grows) (grows-trans s2 s3 s4 one.grows gone.grows)) gone.sound gone.«open»,
          (
            else-part source c.args.e.0 c.args.condition.0 c.args.then_branch.0 c.args.else_branch c.requires.form,
            placed-later s2 s4 (grows-trans s2 s3 s4 one.grows gone.grows) c.args.to.0 placed,
          ),
        ),
      ),
    )

pub lower_if-go_on-requires-2 : goal.lower_if-go_on-requires-2
lower_if-go_on-requires-2 g t c =
    let source = source_of c.args.context.now in
    let s0 = shape g.I.Interner.projections c.args.graph.now in
    let s1 = shape g.I.Interner.projections c.lower_operand.new.graph in
    let s2 = shape g.I.Interner.projections c.fork.new.graph in
    let s3 = shape g.I.Interner.projections c.lower_into.new.graph in
    let s4 = shape g.I.Interner.projections c.go_on.new.graph in
    let forked = c.in_ok-branches.ensures.forked in
    let placed = placed-later s0 s2 (grows-trans s0 s1 s2 c.in_ok-test.ensures.lowered.keeps.grows forked.grows) c.args.to.0 c.requires.placed in
    let one = (c.in_ok-lower_into.ensures.lowered placed.cell placed.found).keeps in
    let gone = c.go_on.ensures source one.sound in
    let placed' = placed-later s2 s4 (grows-trans s2 s3 s4 one.grows gone.grows) c.args.to.0 placed in
    let two = (c.in_ok-lower_tail.ensures.lowered placed'.cell placed'.found).keeps in
    record { opened = two.«open»; reserved = join-reserved forked one gone two }

pub lower_if-returns-clause-built : goal.lower_if-returns-clause-built
lower_if-returns-clause-built g t c =
    built-if (source_of c.args.context.now) c.args.e.0 c.args.condition.0 c.args.then_branch.0 c.args.else_branch c.requires.form c.in_ok-test.ensures.built c.in_ok-lower_into.ensures.built c.in_ok-lower_tail.ensures.built

pub lower_if-returns-clause-lowered : goal.lower_if-returns-clause-lowered
lower_if-returns-clause-lowered g t c =
    λ cell found.
    let source = source_of c.args.context.now in
    let s0 = shape g.I.Interner.projections c.args.graph.now in
    let s1 = shape g.I.Interner.projections c.lower_operand.new.graph in
    let s2 = shape g.I.Interner.projections c.fork.new.graph in
    let s3 = shape g.I.Interner.projections c.lower_into.new.graph in
    let s4 = shape g.I.Interner.projections c.go_on.new.graph in
    let s5 = shape g.I.Interner.projections c.lower_tail.new.graph in
    let s6 = shape g.I.Interner.projections c.go_on-2.new.graph in
    let test = c.in_ok-test.ensures.lowered in
    let forked = c.in_ok-branches.ensures.forked in
    let found2 = local_of-grows s0 s2 (grows-trans s0 s1 s2 test.keeps.grows forked.grows) cell c.args.to.0 found in
    let one = c.in_ok-lower_into.ensures.lowered cell found2 in
    let gone = c.go_on.ensures source one.keeps.sound in
    let found4 = local_of-grows s2 s4 (grows-trans s2 s3 s4 one.keeps.grows gone.grows) cell c.args.to.0 found2 in
    let two = c.in_ok-lower_tail.ensures.lowered cell found4 in
    lowers-if source s0 s1 s2 s3 s4 s5 s6 c.args.e.0 c.args.condition.0 c.args.then_branch.0 c.args.else_branch c.in_ok-test.test.kind c.in_ok-branches.branches.other.0 c.in_ok-branches.branches.join.0 cell c.requires.form test one two
    (record { test = test.keeps; forked = forked; one = one.keeps; one_ended = gone; two = two.keeps; two_ended = c.go_on-2.ensures source two.keeps.sound }) c.requires.ready

-- `&&` and `||`

pub lower_logic-lower_operand-requires : goal.lower_logic-lower_operand-requires
lower_logic-lower_operand-requires g t c =
    let source = source_of c.args.context.now in
    let is = left-part source c.args.e.0 c.args.op c.args.lhs.0 c.args.rhs.0 c.requires.form in
    let below = part-below source c.args.e.0 c.args.lhs.0 c.requires.ready.checked is in
    λ κs alive. (omega (arith, below), (alive, part-ready source (shape g.I.Interner.projections c.args.graph.now) c.args.e.0 c.args.lhs.0 (parts-ready source (shape g.I.Interner.projections c.args.graph.now) c.args.e.0 (λ outer. ap (λ n. opened_in c.args.e.0 n outer) c.requires.form) c.requires.ready) is))

pub lower_logic-returns-in_err-left-clause-refused : goal.lower_logic-returns-in_err-left-clause-refused
lower_logic-returns-in_err-left-clause-refused g t c =
    let source = source_of c.args.context.now in
    refused-exit (RefusesAt source c.args.e.0) _ c.from_residual.result c.from_residual.ensures.1
    (λ error same. subst (RefusesAt source c.args.e.0) (sym same) (refuses-part source c.args.e.0 c.args.lhs.0 _ (left-part source c.args.e.0 c.args.op c.args.lhs.0 c.args.rhs.0 c.requires.form) c.in_err-left.ensures.refused))

pub lower_logic-returns-in_err-test-clause-refused : goal.lower_logic-returns-in_err-test-clause-refused
lower_logic-returns-in_err-test-clause-refused g t c =
    refused-exit (RefusesAt (source_of c.args.context.now) c.args.e.0) _ c.from_residual-in_err-test.result c.from_residual-in_err-test.ensures.1 (refuses-no-memory (source_of c.args.context.now) c.args.e.0)

pub lower_logic-returns-in_err-branches-clause-refused : goal.lower_logic-returns-in_err-branches-clause-refused
lower_logic-returns-in_err-branches-clause-refused g t c =
    let source = source_of c.args.context.now in
    refused-exit (RefusesAt source c.args.e.0) _ c.from_residual-in_err-branches.result c.from_residual-in_err-branches.ensures.1
    (λ error same. subst (RefusesAt source c.args.e.0) (sym same) (refuses-no-memory source c.args.e.0 _ c.in_err-branches.ensures.refused))

pub lower_logic-returns-in_err-assign-clause-refused : goal.lower_logic-returns-in_err-assign-clause-refused
lower_logic-returns-in_err-assign-clause-refused g t c =
    let source = source_of c.args.context.now in
    refused-exit (RefusesAt source c.args.e.0) _ c.from_residual-in_err-assign.result c.from_residual-in_err-assign.ensures.1
    (λ error same. subst (RefusesAt source c.args.e.0) (sym same) (refuses-no-memory source c.args.e.0 _ c.in_err-assign.ensures.refused))

pub lower_logic-go_on-requires : goal.lower_logic-go_on-requires
lower_logic-go_on-requires g t c =
    let source = source_of c.args.context.now in
    let s2 = shape g.I.Interner.projections c.fork.new.graph in
    let s3 = shape g.I.Interner.projections c.assign.new.graph in
    let forked = c.in_ok-branches.ensures.forked in
    let one = keeps-decided source s2 s3 c.in_ok-left.left c.args.to (ExprId c.args.e) forked.«open» c.in_ok-assign.ensures.added forked.sound in
    record { opened = one.«open»; reserved = other-reserved forked one }

pub lower_logic-lower_into-requires : goal.lower_logic-lower_into-requires
lower_logic-lower_into-requires g t c =
    let source = source_of c.args.context.now in
    let s0 = shape g.I.Interner.projections c.args.graph.now in
    let s1 = shape g.I.Interner.projections c.lower_operand.new.graph in
    let s2 = shape g.I.Interner.projections c.fork.new.graph in
    let s3 = shape g.I.Interner.projections c.assign.new.graph in
    let s4 = shape g.I.Interner.projections c.go_on.new.graph in
    let forked = c.in_ok-branches.ensures.forked in
    let one = keeps-decided source s2 s3 c.in_ok-left.left c.args.to (ExprId c.args.e) forked.«open» c.in_ok-assign.ensures.added forked.sound in
    let gone = c.go_on.ensures source one.sound in
    let is = right-part source c.args.e.0 c.args.op c.args.lhs.0 c.args.rhs.0 c.requires.form in
    let below = part-below source c.args.e.0 c.args.rhs.0 c.requires.ready.checked is in
    let grown : Grows s0 s2 = grows-trans s0 s1 s2 c.in_ok-left.ensures.lowered.keeps.grows forked.grows in λ κs alive. (
      omega (arith, below),
      (
        alive,
        (
          (ready-part source s0 s4 c.args.e.0 c.args.rhs.0 (parts-ready source s0 c.args.e.0 (λ outer. ap (λ n. opened_in c.args.e.0 n outer) c.requires.form) c.requires.ready) is (gone.targets ∙ one.spares.targets ∙ forked.spares.targets ∙ c.in_ok-left.ensures.lowered.keeps.spares.targets) (grows-trans s0 s2 s4 grown (grows-trans s2 s3 s4 one.grows gone.grows)) gone.sound gone.«open»).ready,
          placed-later s0 s4 (grows-trans s0 s2 s4 grown (grows-trans s2 s3 s4 one.grows gone.grows)) c.args.to.0 c.requires.placed,
        ),
      ),
    )

pub lower_logic-returns-in_err-lower_into-clause-refused : goal.lower_logic-returns-in_err-lower_into-clause-refused
lower_logic-returns-in_err-lower_into-clause-refused g t c =
    let source = source_of c.args.context.now in
    refused-exit (RefusesAt source c.args.e.0) _ c.from_residual-in_err-lower_into.result c.from_residual-in_err-lower_into.ensures.1
    (λ error same. subst (RefusesAt source c.args.e.0) (sym same) (refuses-part source c.args.e.0 c.args.rhs.0 _ (right-part source c.args.e.0 c.args.op c.args.lhs.0 c.args.rhs.0 c.requires.form) c.in_err-lower_into.ensures.refused))

pub lower_logic-go_on-requires-2 : goal.lower_logic-go_on-requires-2
lower_logic-go_on-requires-2 g t c =
    let source = source_of c.args.context.now in
    let s0 = shape g.I.Interner.projections c.args.graph.now in
    let s1 = shape g.I.Interner.projections c.lower_operand.new.graph in
    let s2 = shape g.I.Interner.projections c.fork.new.graph in
    let s3 = shape g.I.Interner.projections c.assign.new.graph in
    let s4 = shape g.I.Interner.projections c.go_on.new.graph in
    let forked = c.in_ok-branches.ensures.forked in
    let one = keeps-decided source s2 s3 c.in_ok-left.left c.args.to (ExprId c.args.e) forked.«open» c.in_ok-assign.ensures.added forked.sound in
    let gone = c.go_on.ensures source one.sound in
    let grown : Grows s0 s2 = grows-trans s0 s1 s2 c.in_ok-left.ensures.lowered.keeps.grows forked.grows in
    let placed = placed-later s0 s4 (grows-trans s0 s2 s4 grown (grows-trans s2 s3 s4 one.grows gone.grows)) c.args.to.0 c.requires.placed in
    let two = (c.in_ok-lower_into.ensures.lowered placed.cell placed.found).keeps in
    record { opened = two.«open»; reserved = join-reserved forked one gone two }

pub lower_logic-returns-clause-built : goal.lower_logic-returns-clause-built
lower_logic-returns-clause-built g t c =
    built-logic (source_of c.args.context.now) c.args.e.0 c.args.op c.args.lhs.0 c.args.rhs.0 c.requires.form c.in_ok-left.ensures.built c.in_ok-lower_into.ensures.built

pub lower_logic-returns-clause-lowered : goal.lower_logic-returns-clause-lowered
lower_logic-returns-clause-lowered g t c =
    λ cell found.
    let source = source_of c.args.context.now in
    let left = c.in_ok-left.left in
    let branches = c.in_ok-branches.branches in
    let s0 = shape g.I.Interner.projections c.args.graph.now in
    let s1 = shape g.I.Interner.projections c.lower_operand.new.graph in
    let s2 = shape g.I.Interner.projections c.fork.new.graph in
    let s3 = shape g.I.Interner.projections c.assign.new.graph in
    let s4 = shape g.I.Interner.projections c.go_on.new.graph in
    let s5 = shape g.I.Interner.projections c.lower_into.new.graph in
    let s6 = shape g.I.Interner.projections c.go_on-2.new.graph in
    let test = c.in_ok-left.ensures.lowered in
    let forked : IsForked source s1 s2 left.kind (deciding_byte c.args.op) branches.other.0 branches.join.0 =
    subst (λ (k : OperandKind). IsForked source s1 s2 k (deciding_byte c.args.op) branches.other.0 branches.join.0) (ap (λ (o : Operand). o.kind) c.in_ok-test.ensures)
    (subst (λ (n : ℕ). IsForked source s1 s2 c.in_ok-test.test.kind n branches.other.0 branches.join.0) c.deciding.ensures c.in_ok-branches.ensures.forked) in
    let one = keeps-decided source s2 s3 left c.args.to (ExprId c.args.e) forked.«open» c.in_ok-assign.ensures.added forked.sound in
    let gone = c.go_on.ensures source one.sound in
    let grown : Grows s0 s2 = grows-trans s0 s1 s2 test.keeps.grows forked.grows in
    let two = c.in_ok-lower_into.ensures.lowered cell (local_of-grows s0 s4 (grows-trans s0 s2 s4 grown (grows-trans s2 s3 s4 one.grows gone.grows)) cell c.args.to.0 found) in
    lowers-logic source s0 s1 s2 s3 s4 s5 s6 c.args.e.0 c.args.op c.args.lhs.0 c.args.rhs.0 left c.args.to (ExprId c.args.e) branches.other.0 branches.join.0 cell c.requires.form test c.in_ok-assign.ensures.added two
    (record { test = test.keeps; forked = forked; one = one; one_ended = gone; two = two.keeps; two_ended = c.go_on-2.ensures source two.keeps.sound }) c.requires.ready found

-- the target of an assignment

pub lower_assignee-returns-in_err-target_local-in-Pattern-clause-refused : goal.lower_assignee-returns-in_err-target_local-in-Pattern-clause-refused
lower_assignee-returns-in_err-target_local-in-Pattern-clause-refused g t c =
    let source = source_of c.args.context.now in
    let form = subst (λ (to : Assignee). node source c.args.e.0 ≡ Some (expr.Assign (core_assignee to) c.requires.form.0)) c.in-Pattern.is c.requires.form.1 in
    refused-exit (RefusesAt source c.args.e.0) _ c.from_residual.result c.from_residual.ensures.1
    (λ error same. subst (RefusesAt source c.args.e.0) (sym same) (refuses-target source c.args.e.0 _ c.in-Pattern.pat.0 c.requires.form.0 form c.in_err-target_local-in-Pattern.ensures.refused))

pub lower_assignee-returns-in_ok-target_local-in-Pattern : goal.lower_assignee-returns-in_ok-target_local-in-Pattern
lower_assignee-returns-in_ok-target_local-in-Pattern g t c =
    let source = source_of c.args.context.now in
    let s = shape g.I.Interner.projections c.args.graph.now in
    let local = c.in_ok-target_local-in-Pattern.field-0 in
    record {
      lowered = subst (λ (to : Assignee). LowersAssignee source s s (core_assignee to) c.from.result) (sym c.in-Pattern.is)
          (subst (λ (place : Place). LowersAssignee source s s (ByPattern c.in-Pattern.pat.0) place) (sym c.from.ensures)
          (lowers-target-path source s c.in-Pattern.pat.0 local c.requires.ready.sound c.requires.ready.«open» c.in_ok-target_local-in-Pattern.ensures.lowered));
      built = subst (λ (to : Assignee). IsBuiltAssignee source (core_assignee to)) (sym c.in-Pattern.is) c.in_ok-target_local-in-Pattern.ensures.built;
      parts = subst (λ (to : Assignee). All (IsBuilt source) (assignee_parts (core_assignee to))) (sym c.in-Pattern.is) (All-nil (IsBuilt source));
      refused = tt;
    }

-- which is a part, where it is an expression
pub lower_assignee-names_place-requires : goal.lower_assignee-names_place-requires
lower_assignee-names_place-requires g t c =
    let source = source_of c.args.context.now in
    let form = subst (λ (to : Assignee). node source c.args.e.0 ≡ Some (expr.Assign (core_assignee to) c.requires.form.0)) c.in-Place.is c.requires.form.1 in
    (part-ready source (shape g.I.Interner.projections c.args.graph.now) c.args.e.0 c.in-Place.target.0 c.requires.ready (target-part source c.args.e.0 c.in-Place.target.0 c.requires.form.0 form)).ready.within

pub lower_assignee-lower_place-requires : goal.lower_assignee-lower_place-requires
lower_assignee-lower_place-requires g t c =
    let source = source_of c.args.context.now in
    let form = subst (λ (to : Assignee). node source c.args.e.0 ≡ Some (expr.Assign (core_assignee to) c.requires.form.0)) c.in-Place.is c.requires.form.1 in
    let is = target-part source c.args.e.0 c.in-Place.target.0 c.requires.form.0 form in
    let below = part-below source c.args.e.0 c.in-Place.target.0 c.requires.ready.checked is in
    λ κs alive. (omega (arith, below), (alive, part-ready source (shape g.I.Interner.projections c.args.graph.now) c.args.e.0 c.in-Place.target.0 c.requires.ready is))

pub lower_assignee-returns-then-names_place-clause-lowered : goal.lower_assignee-returns-then-names_place-clause-lowered
lower_assignee-returns-then-names_place-clause-lowered g t c =
    let source = source_of c.args.context.now in
    let s0 = shape g.I.Interner.projections c.args.graph.now in
    let s1 = shape g.I.Interner.projections c.lower_place.new.graph in
    IfOk-weaker c.lower_place.result _ _
    (λ place lowered. subst (λ (to : Assignee). LowersAssignee source s0 s1 (core_assignee to) place) (sym c.in-Place.is)
    (lowers-target-place source s0 s1 c.in-Place.target.0 place (sym c.names_place.ensures ∙ c.if-names_place.true) lowered))
    c.lower_place.ensures.lowered

pub lower_assignee-returns-then-names_place-clause-built : goal.lower_assignee-returns-then-names_place-clause-built
lower_assignee-returns-then-names_place-clause-built g t c =
    let source = source_of c.args.context.now in
    on_ok_weaker c.lower_place.result
    (λ built. subst (λ (to : Assignee). IsBuiltAssignee source (core_assignee to)) (sym c.in-Place.is) (sym c.names_place.ensures ∙ c.if-names_place.true))
    c.lower_place.ensures.built

pub lower_assignee-returns-then-names_place-clause-parts : goal.lower_assignee-returns-then-names_place-clause-parts
lower_assignee-returns-then-names_place-clause-parts g t c =
    let source = source_of c.args.context.now in
    on_ok_weaker c.lower_place.result
    (λ built. subst (λ (to : Assignee). All (IsBuilt source) (assignee_parts (core_assignee to))) (sym c.in-Place.is) (one-built source c.in-Place.target.0 built))
    c.lower_place.ensures.built

pub lower_assignee-returns-then-names_place-clause-refused : goal.lower_assignee-returns-then-names_place-clause-refused
lower_assignee-returns-then-names_place-clause-refused g t c =
    let source = source_of c.args.context.now in
    let form = subst (λ (to : Assignee). node source c.args.e.0 ≡ Some (expr.Assign (core_assignee to) c.requires.form.0)) c.in-Place.is c.requires.form.1 in
    IfErr-weaker c.lower_place.result _ _
    (λ error refused. refuses-part source c.args.e.0 c.in-Place.target.0 error (target-part source c.args.e.0 c.in-Place.target.0 c.requires.form.0 form) refused)
    c.lower_place.ensures.refused

pub lower_assignee-returns-else-names_place-clause-refused : goal.lower_assignee-returns-else-names_place-clause-refused
lower_assignee-returns-else-names_place-clause-refused g t c =
    let source = source_of c.args.context.now in
    let form = subst (λ (to : Assignee). node source c.args.e.0 ≡ Some (expr.Assign (core_assignee to) c.requires.form.0)) c.in-Place.is c.requires.form.1 in
    refuses-unbuilt source c.args.e.0 c.form_not_built.result (subst (IsUnbuilt source c.args.e.0) (sym form) (sym c.names_place.ensures ∙ c.if-names_place.false)) c.form_not_built.ensures

-- an assignment

pub lower_assignment-lower_place-requires : goal.lower_assignment-lower_place-requires
lower_assignment-lower_place-requires g t c =
    let source = source_of c.args.context.now in
    let is = value-part source c.args.e.0 (core_assignee c.args.to) c.args.value.0 c.requires.form in
    let below = part-below source c.args.e.0 c.args.value.0 c.requires.ready.checked is in
    λ κs alive. (omega (arith, below), (alive, part-ready source (shape g.I.Interner.projections c.args.graph.now) c.args.e.0 c.args.value.0 (parts-ready source (shape g.I.Interner.projections c.args.graph.now) c.args.e.0 (λ outer. ap (λ n. opened_in c.args.e.0 n outer) c.requires.form) c.requires.ready) is))

pub lower_assignment-returns-in_err-from-clause-refused : goal.lower_assignment-returns-in_err-from-clause-refused
lower_assignment-returns-in_err-from-clause-refused g t c =
    let source = source_of c.args.context.now in
    refused-exit (RefusesAt source c.args.e.0) _ c.from_residual.result c.from_residual.ensures.1
    (λ error same. subst (RefusesAt source c.args.e.0) (sym same) (refuses-part source c.args.e.0 c.args.value.0 _ (value-part source c.args.e.0 (core_assignee c.args.to) c.args.value.0 c.requires.form) c.in_err-from.ensures.refused))

pub lower_assignment-returns-in_err-fake_read-clause-refused : goal.lower_assignment-returns-in_err-fake_read-clause-refused
lower_assignment-returns-in_err-fake_read-clause-refused g t c =
    let source = source_of c.args.context.now in
    refused-exit (RefusesAt source c.args.e.0) _ c.from_residual-in_err-fake_read.result c.from_residual-in_err-fake_read.ensures.1
    (λ error same. subst (RefusesAt source c.args.e.0) (sym same) (refuses-no-memory source c.args.e.0 _ c.in_err-fake_read.ensures.refused))

pub lower_assignment-lower_assignee-requires : goal.lower_assignment-lower_assignee-requires
lower_assignment-lower_assignee-requires g t c =
    let source = source_of c.args.context.now in
    let s0 = shape g.I.Interner.projections c.args.graph.now in
    let s1 = shape g.I.Interner.projections c.lower_place.new.graph in
    let s2 = shape g.I.Interner.projections c.fake_read.new.graph in
    let place = c.in_ok-from.ensures.lowered in
    let idles = idles-read source s1 s2 c.in_ok-from.from (ExprId c.args.value) place.keeps.sound place.keeps.«open» c.in_ok-fake_read.ensures.added in λ κs alive. (
      omega arith,
      (
        alive,
        (
          parts-ready-in source s0 s2 c.args.e.0 (parts-ready source s0 c.args.e.0 (λ outer. ap (λ n. opened_in c.args.e.0 n outer) c.requires.form) c.requires.ready) (idles.spares.targets ∙ place.keeps.spares.targets) (grows-trans s0 s1 s2 place.keeps.grows idles.grows) idles.sound idles.«open»,
          (c.args.value.0, c.requires.form),
        ),
      ),
    )

pub lower_assignment-returns-in_err-place-clause-refused : goal.lower_assignment-returns-in_err-place-clause-refused
lower_assignment-returns-in_err-place-clause-refused g t c =
    let source = source_of c.args.context.now in
    refused-exit (RefusesAt source c.args.e.0) _ c.from_residual-in_err-place.result c.from_residual-in_err-place.ensures.1
    (λ error same. subst (RefusesAt source c.args.e.0) (sym same) c.in_err-place.ensures.refused)

pub lower_assignment-returns-clause-lowered : goal.lower_assignment-returns-clause-lowered
lower_assignment-returns-clause-lowered g t c =
    let source = source_of c.args.context.now in
    let s0 = shape g.I.Interner.projections c.args.graph.now in
    let s1 = shape g.I.Interner.projections c.lower_place.new.graph in
    let s2 = shape g.I.Interner.projections c.fake_read.new.graph in
    let s3 = shape g.I.Interner.projections c.lower_assignee.new.graph in
    let new = shape g.I.Interner.projections c.write.new.graph in
    let from = c.in_ok-from.ensures.lowered in
    let place = c.in_ok-place.ensures.lowered in
    let idles = idles-read source s1 s2 c.in_ok-from.from (ExprId c.args.value) from.keeps.sound from.keeps.«open» c.in_ok-fake_read.ensures.added in
    on_ok_weaker c.write.result
    (λ added cell. lowers-assign source s0 s1 s2 s3 new c.args.e.0 (core_assignee c.args.to) c.args.value.0 c.in_ok-from.from c.in_ok-place.place cell c.requires.ready c.requires.form from idles place
    (λ at other is-to is-from. assigns-place source s3 new c.in_ok-place.place c.in_ok-from.from _ _ place.keeps.sound place.keeps.«open» refl added at other is-to is-from))
    c.write.ensures.added

pub lower_assignment-returns-clause-built : goal.lower_assignment-returns-clause-built
lower_assignment-returns-clause-built g t c =
    on_ok_weaker c.write.result (λ added. built-assign (source_of c.args.context.now) c.args.e.0 (core_assignee c.args.to) c.args.value.0 c.requires.form c.in_ok-place.ensures.built c.in_ok-place.ensures.parts c.in_ok-from.ensures.built) c.write.ensures.added

pub lower_assignment-returns-clause-refused : goal.lower_assignment-returns-clause-refused
lower_assignment-returns-clause-refused g t c =
    IfErr-weaker c.write.result _ _ (λ error none. refuses-no-memory (source_of c.args.context.now) c.args.e.0 error none) c.write.ensures.refused

-- the target of a compound assignment

pub lower_assigned-returns-in_err-combined_local-in-Path-clause-refused : goal.lower_assigned-returns-in_err-combined_local-in-Path-clause-refused
lower_assigned-returns-in_err-combined_local-in-Path-clause-refused g t c =
    let source = source_of c.args.context.now in
    let form = subst (λ (to : Assigned). node source c.args.e.0 ≡ Some (expr.Compound c.requires.form.0 (core_assigned to) c.requires.form.1)) c.in-Path.is c.requires.form.2 in
    refused-exit (RefusesAt source c.args.e.0) _ c.from_residual.result c.from_residual.ensures.1
    (λ error same. subst (RefusesAt source c.args.e.0) (sym same) (refuses-combined source c.args.e.0 _ c.requires.form.0 c.in-Path.target.0 c.requires.form.1 form c.in_err-combined_local-in-Path.ensures.refused))

pub lower_assigned-returns-in_ok-combined_local-in-Path : goal.lower_assigned-returns-in_ok-combined_local-in-Path
lower_assigned-returns-in_ok-combined_local-in-Path g t c =
    let source = source_of c.args.context.now in
    let s = shape g.I.Interner.projections c.args.graph.now in
    let local = c.in_ok-combined_local-in-Path.field-0 in
    record {
      lowered = subst (λ (to : Assigned). LowersAssigned source s s (core_assigned to) c.from.result) (sym c.in-Path.is)
          (subst (λ (place : Place). LowersAssigned source s s (ByPath c.in-Path.target.0) place) (sym c.from.ensures)
          (lowers-own-path source s c.in-Path.target.0 local c.requires.ready.sound c.requires.ready.«open» c.in_ok-combined_local-in-Path.ensures.lowered));
      built = subst (λ (to : Assigned). IsBuiltAssigned source (core_assigned to)) (sym c.in-Path.is) c.in_ok-combined_local-in-Path.ensures.built;
      parts = subst (λ (to : Assigned). All (IsBuilt source) (assigned_parts (core_assigned to))) (sym c.in-Path.is) (All-nil (IsBuilt source));
      refused = tt;
    }

pub lower_assigned-lower_field-requires : goal.lower_assigned-lower_field-requires
lower_assigned-lower_field-requires g t c =
    let source = source_of c.args.context.now in
    let form = subst (λ (to : Assigned). node source c.args.e.0 ≡ Some (expr.Compound c.requires.form.0 (core_assigned to) c.requires.form.1)) c.in-Field.is c.requires.form.2 in
    let elem = core_elem c.in-Field.step in
    λ κs alive. (omega arith, (alive, (c.requires.ready, (combined-field-part source c.args.e.0 c.requires.form.0 c.in-Field.base.0 elem c.requires.form.1 form, own-index source elem (target_has_index source c.args.e.0 c.requires.form.0 c.in-Field.base.0 elem c.requires.form.1 form)))))

pub lower_assigned-returns-in-Field-clause-lowered : goal.lower_assigned-returns-in-Field-clause-lowered
lower_assigned-returns-in-Field-clause-lowered g t c =
    let source = source_of c.args.context.now in
    let s0 = shape g.I.Interner.projections c.args.graph.now in
    let s1 = shape g.I.Interner.projections c.lower_field.new.graph in
    IfOk-weaker c.lower_field.result _ _
    (λ place lowered. subst (λ (to : Assigned). LowersAssigned source s0 s1 (core_assigned to) place) (sym c.in-Field.is)
    (lowers-own-field source s0 s1 c.in-Field.base.0 (core_elem c.in-Field.step) place lowered))
    c.lower_field.ensures.lowered

pub lower_assigned-returns-in-Field-clause-built : goal.lower_assigned-returns-in-Field-clause-built
lower_assigned-returns-in-Field-clause-built g t c =
    let source = source_of c.args.context.now in
    on_ok_weaker c.lower_field.result (λ built. subst (λ (to : Assigned). IsBuiltAssigned source (core_assigned to)) (sym c.in-Field.is) tt) c.lower_field.ensures.built

pub lower_assigned-returns-in-Field-clause-parts : goal.lower_assigned-returns-in-Field-clause-parts
lower_assigned-returns-in-Field-clause-parts g t c =
    let source = source_of c.args.context.now in
    on_ok_weaker c.lower_field.result
    (λ built. subst (λ (to : Assigned). All (IsBuilt source) (assigned_parts (core_assigned to))) (sym c.in-Field.is) built)
    c.lower_field.ensures.built

-- a compound assignment

pub lower_compound-lower_assigned-requires : goal.lower_compound-lower_assigned-requires
lower_compound-lower_assigned-requires g t c =
    let source = source_of c.args.context.now in
    λ κs alive. (omega arith, (alive, (parts-ready source (shape g.I.Interner.projections c.args.graph.now) c.args.e.0 (λ outer. ap (λ n. opened_in c.args.e.0 n outer) c.requires.form) c.requires.ready, (c.args.op, c.args.value.0, c.requires.form))))

pub lower_compound-returns-in_err-place-clause-refused : goal.lower_compound-returns-in_err-place-clause-refused
lower_compound-returns-in_err-place-clause-refused g t c =
    let source = source_of c.args.context.now in
    refused-exit (RefusesAt source c.args.e.0) _ c.from_residual.result c.from_residual.ensures.1
    (λ error same. subst (RefusesAt source c.args.e.0) (sym same) c.in_err-place.ensures.refused)

pub lower_compound-lower_operand-requires : goal.lower_compound-lower_operand-requires
lower_compound-lower_operand-requires g t c =
    let source = source_of c.args.context.now in
    let s0 = shape g.I.Interner.projections c.args.graph.now in
    let s1 = shape g.I.Interner.projections c.lower_assigned.new.graph in
    let is = combined-part source c.args.e.0 c.args.op (core_assigned c.args.to) c.args.value.0 c.requires.form in
    let below = part-below source c.args.e.0 c.args.value.0 c.requires.ready.checked is in
    let keeps = c.in_ok-place.ensures.lowered.keeps in
    λ κs alive. (omega (arith, below), (alive, ready-part source s0 s1 c.args.e.0 c.args.value.0 (parts-ready source s0 c.args.e.0 (λ outer. ap (λ n. opened_in c.args.e.0 n outer) c.requires.form) c.requires.ready) is keeps.spares.targets keeps.grows keeps.sound keeps.«open»))

pub lower_compound-returns-in_err-given-clause-refused : goal.lower_compound-returns-in_err-given-clause-refused
lower_compound-returns-in_err-given-clause-refused g t c =
    let source = source_of c.args.context.now in
    refused-exit (RefusesAt source c.args.e.0) _ c.from_residual-in_err-given.result c.from_residual-in_err-given.ensures.1
    (λ error same. subst (RefusesAt source c.args.e.0) (sym same) (refuses-part source c.args.e.0 c.args.value.0 _ (combined-part source c.args.e.0 c.args.op (core_assigned c.args.to) c.args.value.0 c.requires.form) c.in_err-given.ensures.refused))

pub lower_compound-returns-clause-lowered : goal.lower_compound-returns-clause-lowered
lower_compound-returns-clause-lowered g t c =
    let source = source_of c.args.context.now in
    on_ok_weaker c.write.result
    (λ added cell. lowers-compound source (shape g.I.Interner.projections c.args.graph.now) (shape g.I.Interner.projections c.lower_assigned.new.graph) (shape g.I.Interner.projections c.lower_operand.new.graph) (shape g.I.Interner.projections c.write.new.graph) c.args.e.0 c.args.op (core_assigned c.args.to) c.args.value.0 _ c.in_ok-given.given c.in_ok-place.place (ExprId c.args.e) cell c.requires.ready c.requires.form c.in_ok-place.ensures.lowered c.in_ok-given.ensures.lowered refl added)
    c.write.ensures.added

pub lower_compound-returns-clause-built : goal.lower_compound-returns-clause-built
lower_compound-returns-clause-built g t c =
    on_ok_weaker c.write.result (λ added. built-compound (source_of c.args.context.now) c.args.e.0 c.args.op (core_assigned c.args.to) c.args.value.0 c.requires.form c.in_ok-place.ensures.built c.in_ok-place.ensures.parts c.in_ok-given.ensures.built) c.write.ensures.added

pub lower_compound-returns-clause-refused : goal.lower_compound-returns-clause-refused
lower_compound-returns-clause-refused g t c =
    IfErr-weaker c.write.result _ _ (λ error none. refuses-no-memory (source_of c.args.context.now) c.args.e.0 error none) c.write.ensures.refused

-- statements in order

pub lower_statements-loop-statement-init : goal.lower_statements-loop-statement-init
lower_statements-loop-statement-init g t c =
    (lowers-none (source_of c.args.context.now) (shape g.I.Interner.projections c.args.graph.now) c.requires.ready.sound c.requires.ready.«open», All-nil (IsBuiltThrough (source_of c.args.context.now)))

pub lower_statements-lower_statement-requires : goal.lower_statements-lower_statement-requires
lower_statements-lower_statement-requires g t c =
    let source = source_of c.args.context.now in
    let kept = c.loop-statement.invariant.0.keeps in λ κs alive. (
      omega arith,
      (
        alive,
        (
          parts-ready-in source (shape g.I.Interner.projections c.args.graph.now) (shape g.I.Interner.projections c.loop-statement.graph) c.args.e.0 c.requires.ready kept.spares.targets kept.grows kept.sound kept.«open»,
          record { statements = c.args.statements.now; form = c.requires.form; within = Contains-get_or c.args.statements.now c.loop-statement.statement-index _ c.loop-statement-test.true },
        ),
      ),
    )

pub lower_statements-loop-statement-preserved : goal.lower_statements-loop-statement-preserved
lower_statements-loop-statement-preserved g t c =
    let source = source_of c.args.context.now in
    let i = c.loop-statement.statement-index in (
      subst (λ (list : List Statement). LowersStatements source (shape g.I.Interner.projections c.args.graph.now) (shape g.I.Interner.projections c.lower_statement.new.graph) list) (sym (take_more c.args.statements.now i _ c.loop-statement-test.true))
          (lowers-more source (shape g.I.Interner.projections c.args.graph.now) (shape g.I.Interner.projections c.loop-statement.graph) (shape g.I.Interner.projections c.lower_statement.new.graph) (take i c.args.statements.now) _ c.loop-statement.invariant.0 c.in_ok-lower_statement.ensures.lowered),
      All-more (IsBuiltThrough source) c.args.statements.now i _ c.loop-statement-test.true c.loop-statement.invariant.1 c.in_ok-lower_statement.ensures.built,
    )

-- the tail of a block

pub lower_tail-lower_into-requires : goal.lower_tail-lower_into-requires
lower_tail-lower_into-requires g t c =
    let source = source_of c.args.context.now in
    let is = subst (λ (o : Option _). IfSome o (λ one. Contains (parts_of (node source c.args.e.0)) one.0)) c.in-Some.is c.requires.part in
    let below = part-below source c.args.e.0 c.in-Some.tail.0 c.requires.ready.checked is in
    λ κs alive. (omega (arith, below), (alive, ((part-ready source (shape g.I.Interner.projections c.args.graph.now) c.args.e.0 c.in-Some.tail.0 c.requires.ready is).ready, c.requires.placed)))

pub lower_tail-returns-in-Some-clause-refused : goal.lower_tail-returns-in-Some-clause-refused
lower_tail-returns-in-Some-clause-refused g t c =
    let source = source_of c.args.context.now in
    let is = subst (λ (o : Option _). IfSome o (λ one. Contains (parts_of (node source c.args.e.0)) one.0)) c.in-Some.is c.requires.part in
    IfErr-weaker c.lower_into.result _ _ (λ error refused. refuses-part source c.args.e.0 c.in-Some.tail.0 error is refused) c.lower_into.ensures.refused

pub lower_tail-returns-in-Some-clause-built : goal.lower_tail-returns-in-Some-clause-built
lower_tail-returns-in-Some-clause-built g t c =
    let source = source_of c.args.context.now in
    on_ok_weaker c.lower_into.result
    (λ built. subst (λ (o : Option _). All (IsBuilt source) (optional o)) (sym c.in-Some.is) (one-built source c.in-Some.tail.0 built))
    c.lower_into.ensures.built

pub lower_tail-returns-in-Some-clause-lowered : goal.lower_tail-returns-in-Some-clause-lowered
lower_tail-returns-in-Some-clause-lowered g t c =
    let source = source_of c.args.context.now in
    let s0 = shape g.I.Interner.projections c.args.graph.now in
    let s1 = shape g.I.Interner.projections c.lower_into.new.graph in
    on_ok_weaker c.lower_into.result
    (λ lowered cell found. subst (λ (o : Option _). LowersTail source s0 s1 o cell) (sym c.in-Some.is) (lowers-tail source s0 s1 c.in-Some.tail cell (lowered cell found)))
    c.lower_into.ensures.lowered

pub lower_tail-returns-in-None-clause-lowered : goal.lower_tail-returns-in-None-clause-lowered
lower_tail-returns-in-None-clause-lowered g t c =
    λ cell found.
    let source = source_of c.args.context.now in
    let s0 = shape g.I.Interner.projections c.args.graph.now in
    subst (λ (o : Option _). LowersTail source s0 s0 o cell) (sym c.in-None.is) (lowers-no-tail source s0 cell c.requires.ready.sound c.requires.ready.«open»)

-- a `let` without an initializer, and one with `else`

pub lower_statement-returns-in-None-initializer-clause-refused : goal.lower_statement-returns-in-None-initializer-clause-refused
lower_statement-returns-in-None-initializer-clause-refused g t c =
    let source = source_of c.args.context.now in
    refuses-statement source c.args.e.0 c.form_not_built.result c.args.statement c.requires.stands (without-initializer source c.args.statement c.in-Let.pat c.in-Let.initializer c.in-Let.else_branch c.in-Let.is c.in-None-initializer.is) c.form_not_built.ensures

pub lower_statement-returns-in-Item-clause-refused : goal.lower_statement-returns-in-Item-clause-refused
lower_statement-returns-in-Item-clause-refused g t c =
    let source = source_of c.args.context.now in
    refuses-statement source c.args.e.0 c.form_not_built-in-Item.result c.args.statement c.requires.stands (item-is-unbuilt source c.args.statement c.in-Item.is) c.form_not_built-in-Item.ensures

pub lower_statement-returns-in-Some-clause-refused : goal.lower_statement-returns-in-Some-clause-refused
lower_statement-returns-in-Some-clause-refused g t c =
    let source = source_of c.args.context.now in
    refuses-statement source c.args.e.0 c.form_not_built-in-Some.result c.args.statement c.requires.stands (with-else source c.args.statement c.in-Let.pat c.in-Let.initializer c.in-Let.else_branch _ c.in-Let.is c.in-Some.is) c.form_not_built-in-Some.ensures

-- a `let`

pub lower_let-lower_place-requires : goal.lower_let-lower_place-requires
lower_let-lower_place-requires g t c =
    let source = source_of c.args.context.now in
    let is = part-of-statement source c.args.e.0 _ c.args.initializer.0 c.requires.stands (0, omega arith, refl) in
    let below = part-below source c.args.e.0 c.args.initializer.0 c.requires.ready.checked is in
    λ κs alive. (omega (arith, below), (alive, part-ready source (shape g.I.Interner.projections c.args.graph.now) c.args.e.0 c.args.initializer.0 c.requires.ready is))

pub lower_let-returns-in_err-place-clause-refused : goal.lower_let-returns-in_err-place-clause-refused
lower_let-returns-in_err-place-clause-refused g t c =
    let source = source_of c.args.context.now in
    refused-exit (RefusesAt source c.args.e.0) _ c.from_residual.result c.from_residual.ensures.1
    (λ error same. subst (RefusesAt source c.args.e.0) (sym same) (refuses-part source c.args.e.0 c.args.initializer.0 _ (part-of-statement source c.args.e.0 _ c.args.initializer.0 c.requires.stands (0, omega arith, refl)) c.in_err-place.ensures.refused))

pub lower_let-returns-in_err-fake_read-clause-refused : goal.lower_let-returns-in_err-fake_read-clause-refused
lower_let-returns-in_err-fake_read-clause-refused g t c =
    let source = source_of c.args.context.now in
    refused-exit (RefusesAt source c.args.e.0) _ c.from_residual-in_err-fake_read.result c.from_residual-in_err-fake_read.ensures.1
    (λ error same. subst (RefusesAt source c.args.e.0) (sym same) (refuses-no-memory source c.args.e.0 _ c.in_err-fake_read.ensures.refused))

pub lower_let-bind-requires-clause-sound : goal.lower_let-bind-requires-clause-sound
lower_let-bind-requires-clause-sound g t c =
    let place = c.in_ok-place.ensures.lowered in
    (idles-read (source_of c.args.context.now) (shape g.I.Interner.projections c.lower_place.new.graph) (shape g.I.Interner.projections c.fake_read.new.graph) c.in_ok-place.place (ExprId c.args.initializer) place.keeps.sound place.keeps.«open» c.in_ok-fake_read.ensures.added).sound

pub lower_let-bind-requires-clause-opened : goal.lower_let-bind-requires-clause-opened
lower_let-bind-requires-clause-opened g t c =
    let place = c.in_ok-place.ensures.lowered in
    (idles-read (source_of c.args.context.now) (shape g.I.Interner.projections c.lower_place.new.graph) (shape g.I.Interner.projections c.fake_read.new.graph) c.in_ok-place.place (ExprId c.args.initializer) place.keeps.sound place.keeps.«open» c.in_ok-fake_read.ensures.added).«open»

pub lower_let-returns-clause-lowered : goal.lower_let-returns-clause-lowered
lower_let-returns-clause-lowered g t c =
    let source = source_of c.args.context.now in
    let place = c.in_ok-place.ensures.lowered in
    on_ok_weaker c.bind.result
    (λ binding. lowers-let source (shape g.I.Interner.projections c.args.graph.now) (shape g.I.Interner.projections c.lower_place.new.graph) (shape g.I.Interner.projections c.fake_read.new.graph) (shape g.I.Interner.projections c.bind.new.graph) c.args.pat c.args.initializer c.in_ok-place.place place
    (idles-read source (shape g.I.Interner.projections c.lower_place.new.graph) (shape g.I.Interner.projections c.fake_read.new.graph) c.in_ok-place.place (ExprId c.args.initializer) place.keeps.sound place.keeps.«open» c.in_ok-fake_read.ensures.added) binding)
    c.bind.ensures.lowered

pub lower_let-returns-clause-built : goal.lower_let-returns-clause-built
lower_let-returns-clause-built g t c =
    on_ok_weaker c.bind.result (λ binds. record { own = binds; parts = one-built (source_of c.args.context.now) c.args.initializer.0 c.in_ok-place.ensures.built }) c.bind.ensures.built

pub lower_let-returns-clause-refused : goal.lower_let-returns-clause-refused
lower_let-returns-clause-refused g t c =
    IfErr-weaker c.bind.result _ _ (λ error refused. refuses-pattern (source_of c.args.context.now) c.args.e.0 error c.args.pat c.args.initializer c.requires.stands refused) c.bind.ensures.refused

-- an expression statement

pub lower_expr_statement-lower_place-requires : goal.lower_expr_statement-lower_place-requires
lower_expr_statement-lower_place-requires g t c =
    let source = source_of c.args.context.now in
    let is = part-of-statement source c.args.e.0 _ c.args.expr.0 c.requires.stands (0, omega arith, refl) in
    let below = part-below source c.args.e.0 c.args.expr.0 c.requires.ready.checked is in
    λ κs alive. (omega (arith, below), (alive, part-ready source (shape g.I.Interner.projections c.args.graph.now) c.args.e.0 c.args.expr.0 c.requires.ready is))

pub lower_expr_statement-returns-in_err-place-clause-refused : goal.lower_expr_statement-returns-in_err-place-clause-refused
lower_expr_statement-returns-in_err-place-clause-refused g t c =
    let source = source_of c.args.context.now in
    refused-exit (RefusesAt source c.args.e.0) _ c.from_residual.result c.from_residual.ensures.1
    (λ error same. subst (RefusesAt source c.args.e.0) (sym same) (refuses-part source c.args.e.0 c.args.expr.0 _ (part-of-statement source c.args.e.0 _ c.args.expr.0 c.requires.stands (0, omega arith, refl)) c.in_err-place.ensures.refused))

pub lower_expr_statement-returns-in_err-fake_read-clause-refused : goal.lower_expr_statement-returns-in_err-fake_read-clause-refused
lower_expr_statement-returns-in_err-fake_read-clause-refused g t c =
    let source = source_of c.args.context.now in
    refused-exit (RefusesAt source c.args.e.0) _ c.from_residual-in_err-fake_read.result c.from_residual-in_err-fake_read.ensures.1
    (λ error same. subst (RefusesAt source c.args.e.0) (sym same) (refuses-no-memory source c.args.e.0 _ c.in_err-fake_read.ensures.refused))

pub lower_expr_statement-leave_scope-requires-clause-sound : goal.lower_expr_statement-leave_scope-requires-clause-sound
lower_expr_statement-leave_scope-requires-clause-sound g t c =
    let place = c.in_ok-place.ensures.lowered in
    (idles-read (source_of c.args.context.now) (shape g.I.Interner.projections c.lower_place.new.graph) (shape g.I.Interner.projections c.fake_read.new.graph) c.in_ok-place.place (ExprId c.args.expr) place.keeps.sound place.keeps.«open» c.in_ok-fake_read.ensures.added).sound

pub lower_expr_statement-leave_scope-requires-clause-opened : goal.lower_expr_statement-leave_scope-requires-clause-opened
lower_expr_statement-leave_scope-requires-clause-opened g t c =
    let place = c.in_ok-place.ensures.lowered in
    (idles-read (source_of c.args.context.now) (shape g.I.Interner.projections c.lower_place.new.graph) (shape g.I.Interner.projections c.fake_read.new.graph) c.in_ok-place.place (ExprId c.args.expr) place.keeps.sound place.keeps.«open» c.in_ok-fake_read.ensures.added).«open»

pub lower_expr_statement-leave_scope-requires-clause-within : goal.lower_expr_statement-leave_scope-requires-clause-within
lower_expr_statement-leave_scope-requires-clause-within g t c =
    let source = source_of c.args.context.now in
    let place = c.in_ok-place.ensures.lowered in
    let read = idles-read source (shape g.I.Interner.projections c.lower_place.new.graph) (shape g.I.Interner.projections c.fake_read.new.graph) c.in_ok-place.place (ExprId c.args.expr) place.keeps.sound place.keeps.«open» c.in_ok-fake_read.ensures.added in
    opened-within (shape g.I.Interner.projections c.args.graph.now) (shape g.I.Interner.projections c.fake_read.new.graph) c.push_drop_scope-scope.result.0 (marked_as_place source c.args.expr.0) c.push_drop_scope-scope.ensures (read.scope ∙ place.keeps.scope)

pub lower_expr_statement-returns-in_err-leave_scope-clause-refused : goal.lower_expr_statement-returns-in_err-leave_scope-clause-refused
lower_expr_statement-returns-in_err-leave_scope-clause-refused g t c =
    refused-exit (RefusesAt (source_of c.args.context.now) c.args.e.0) _ c.from_residual-in_err-leave_scope.result c.from_residual-in_err-leave_scope.ensures.1 (refuses-no-memory (source_of c.args.context.now) c.args.e.0)

pub lower_expr_statement-returns-clause-built : goal.lower_expr_statement-returns-clause-built
lower_expr_statement-returns-clause-built g t c =
    record { own = tt; parts = one-built (source_of c.args.context.now) c.args.expr.0 c.in_ok-place.ensures.built }

pub lower_expr_statement-returns-clause-lowered : goal.lower_expr_statement-returns-clause-lowered
lower_expr_statement-returns-clause-lowered g t c =
    let source = source_of c.args.context.now in
    let s0 = shape g.I.Interner.projections c.args.graph.now in
    let s1 = shape g.I.Interner.projections c.lower_place.new.graph in
    let s2 = shape g.I.Interner.projections c.fake_read.new.graph in
    let s3 = shape g.I.Interner.projections c.leave_scope.new.graph in
    let place = c.in_ok-place.ensures.lowered in
    let read = idles-read source s1 s2 c.in_ok-place.place (ExprId c.args.expr) place.keeps.sound place.keeps.«open» c.in_ok-fake_read.ensures.added in
    let left = scope-left s0 s2 c.push_drop_scope-scope.result.0 (marked_as_place source c.args.expr.0) c.push_drop_scope-scope.ensures (read.scope ∙ place.keeps.scope) source s3 c.in_ok-leave_scope.ensures in
    lowers-expr-statement source s0 s1 s2 s3 c.args.expr c.args.has_semi c.in_ok-place.place place read left

-- a block

pub lower_block-lower_tail-requires : goal.lower_block-lower_tail-requires
lower_block-lower_tail-requires g t c =
    let source = source_of c.args.context.now in
    let s0 = shape g.I.Interner.projections c.args.graph.now in
    let s1 = shape g.I.Interner.projections c.lower_statements.new.graph in
    let kept = c.in_ok-lower_statements.ensures.lowered.keeps in λ κs alive. (
      omega arith,
      (
        alive,
        (
          parts-ready-in source s0 s1 c.args.e.0 (parts-ready source s0 c.args.e.0 (λ outer. ap (λ n. opened_in c.args.e.0 n outer) c.requires.form) c.requires.ready) kept.spares.targets kept.grows kept.sound kept.«open»,
          (tail-part source c.args.e.0 c.args.statements.now c.args.tail c.requires.form, placed-later s0 s1 kept.grows c.args.to.0 c.requires.placed),
        ),
      ),
    )

pub lower_block-lower_statements-requires : goal.lower_block-lower_statements-requires
lower_block-lower_statements-requires g t c =
    λ κs alive. (omega arith, (alive, (parts-ready (source_of c.args.context.now) (shape g.I.Interner.projections c.args.graph.now) c.args.e.0 (λ outer. ap (λ n. opened_in c.args.e.0 n outer) c.requires.form) c.requires.ready, subst (λ n. HasStatements n c.as_slice.result.now) (sym c.requires.form) (sym c.as_slice.ensures))))

pub lower_block-leave_scope-requires-clause-sound : goal.lower_block-leave_scope-requires-clause-sound
lower_block-leave_scope-requires-clause-sound g t c =
    let placed = placed-later (shape g.I.Interner.projections c.args.graph.now) (shape g.I.Interner.projections c.lower_statements.new.graph) c.in_ok-lower_statements.ensures.lowered.keeps.grows c.args.to.0 c.requires.placed in
    (c.in_ok-lower_tail.ensures.lowered placed.cell placed.found).keeps.sound

pub lower_block-leave_scope-requires-clause-opened : goal.lower_block-leave_scope-requires-clause-opened
lower_block-leave_scope-requires-clause-opened g t c =
    let placed = placed-later (shape g.I.Interner.projections c.args.graph.now) (shape g.I.Interner.projections c.lower_statements.new.graph) c.in_ok-lower_statements.ensures.lowered.keeps.grows c.args.to.0 c.requires.placed in
    (c.in_ok-lower_tail.ensures.lowered placed.cell placed.found).keeps.«open»

pub lower_block-leave_scope-requires-clause-within : goal.lower_block-leave_scope-requires-clause-within
lower_block-leave_scope-requires-clause-within g t c =
    let source = source_of c.args.context.now in
    let s0 = shape g.I.Interner.projections c.args.graph.now in
    let s1 = shape g.I.Interner.projections c.lower_statements.new.graph in
    let s2 = shape g.I.Interner.projections c.lower_tail.new.graph in
    let first : LowersStatements source s0 s1 c.args.statements.now = subst (λ (list : List Statement). LowersStatements source s0 s1 list) c.as_slice.ensures c.in_ok-lower_statements.ensures.lowered in
    let placed = placed-later s0 s1 first.keeps.grows c.args.to.0 c.requires.placed in
    opened-within s0 s2 c.push_drop_scope-scope.result.0 (marked_in_block source c.args.statements.now c.args.tail) c.push_drop_scope-scope.ensures
    (block-inner source s0 s1 s2 c.args.statements.now c.args.tail placed.cell first (c.in_ok-lower_tail.ensures.lowered placed.cell placed.found))

pub lower_block-returns-in_err-leave_scope-clause-refused : goal.lower_block-returns-in_err-leave_scope-clause-refused
lower_block-returns-in_err-leave_scope-clause-refused g t c =
    refused-exit (RefusesAt (source_of c.args.context.now) c.args.e.0) _ c.from_residual-in_err-leave_scope.result c.from_residual-in_err-leave_scope.ensures.1 (refuses-no-memory (source_of c.args.context.now) c.args.e.0)

pub lower_block-returns-clause-built : goal.lower_block-returns-clause-built
lower_block-returns-clause-built g t c =
    let source = source_of c.args.context.now in
    built-block source c.args.e.0 c.args.statements.now c.args.tail c.requires.form
    (subst (λ (list : List Statement). All (IsBuiltThrough source) list) c.as_slice.ensures c.in_ok-lower_statements.ensures.built)
    c.in_ok-lower_tail.ensures.built

pub lower_block-returns-clause-lowered : goal.lower_block-returns-clause-lowered
lower_block-returns-clause-lowered g t c =
    λ cell found.
    let source = source_of c.args.context.now in
    let s0 = shape g.I.Interner.projections c.args.graph.now in
    let s1 = shape g.I.Interner.projections c.lower_statements.new.graph in
    let s2 = shape g.I.Interner.projections c.lower_tail.new.graph in
    let s3 = shape g.I.Interner.projections c.leave_scope.new.graph in
    let first : LowersStatements source s0 s1 c.args.statements.now = subst (λ (list : List Statement). LowersStatements source s0 s1 list) c.as_slice.ensures c.in_ok-lower_statements.ensures.lowered in
    let last = c.in_ok-lower_tail.ensures.lowered cell (local_of-grows s0 s1 first.keeps.grows cell c.args.to.0 found) in
    let left = scope-left s0 s2 c.push_drop_scope-scope.result.0 (marked_in_block source c.args.statements.now c.args.tail) c.push_drop_scope-scope.ensures (block-inner source s0 s1 s2 c.args.statements.now c.args.tail cell first last) source s3 c.in_ok-leave_scope.ensures in
    lowers-block source s0 s1 s2 s3 c.args.e.0 c.args.statements.now c.args.tail cell c.requires.ready c.requires.form first last left

-- a labelled block

pub lower_labelled-returns-in_err-blocks-clause-refused : goal.lower_labelled-returns-in_err-blocks-clause-refused
lower_labelled-returns-in_err-blocks-clause-refused g t c =
    refused-exit (RefusesAt (source_of c.args.context.now) c.args.e.0) _ c.from_residual.result c.from_residual.ensures.1 (refuses-no-memory (source_of c.args.context.now) c.args.e.0)

pub lower_labelled-lower_statements-requires : goal.lower_labelled-lower_statements-requires
lower_labelled-lower_statements-requires g t c =
    let source = source_of c.args.context.now in
    let s0 = shape g.I.Interner.projections c.args.graph.now in
    let s1 = shape g.I.Interner.projections c.enter_loop.new.graph in
    let blocks = c.in_ok-blocks.blocks in
    let entered = c.in_ok-blocks.ensures.entered in
    let opened = opened-is blocks c.args.e (Some c.args.label) c.in_ok-blocks.ensures.node c.in_ok-blocks.ensures.label in
    let place-is = c.in_ok-blocks.ensures.value in
    let placed : IsPlaced s0 blocks.to.0 = subst (λ (p : LocalId). IsPlaced s0 p.0) (sym place-is) c.requires.placed in
    let parts = parts-entered source s0 s1 c.args.e.0 (Some c.args.label) (target_of_blocks blocks) c.requires.ready entered opened (λ outer. ap (λ n. opened_in c.args.e.0 n outer) c.requires.form) placed in
    λ κs alive. (omega arith, (alive, (parts, subst (λ n. HasStatements n c.as_slice.result.now) (sym c.requires.form) (sym c.as_slice.ensures))))

pub lower_labelled-lower_tail-requires : goal.lower_labelled-lower_tail-requires
lower_labelled-lower_tail-requires g t c =
    let source = source_of c.args.context.now in
    let s0 = shape g.I.Interner.projections c.args.graph.now in
    let s1 = shape g.I.Interner.projections c.enter_loop.new.graph in
    let blocks = c.in_ok-blocks.blocks in
    let entered = c.in_ok-blocks.ensures.entered in
    let opened = opened-is blocks c.args.e (Some c.args.label) c.in_ok-blocks.ensures.node c.in_ok-blocks.ensures.label in
    let place-is = c.in_ok-blocks.ensures.value in
    let placed : IsPlaced s0 blocks.to.0 = subst (λ (p : LocalId). IsPlaced s0 p.0) (sym place-is) c.requires.placed in
    let parts = parts-entered source s0 s1 c.args.e.0 (Some c.args.label) (target_of_blocks blocks) c.requires.ready entered opened (λ outer. ap (λ n. opened_in c.args.e.0 n outer) c.requires.form) placed in
    let s2 = shape g.I.Interner.projections c.lower_statements.new.graph in
    let kept = c.in_ok-lower_statements.ensures.lowered.keeps in λ κs alive. (
      omega arith,
      (
        alive,
        (
          parts-ready-in source s1 s2 c.args.e.0 parts kept.spares.targets kept.grows kept.sound kept.«open»,
          (labelled-tail-part source c.args.e.0 c.args.label c.args.statements.now c.args.tail c.requires.form, placed-later s0 s2 (grows-trans s0 s1 s2 entered.grows kept.grows) c.args.to.0 c.requires.placed),
        ),
      ),
    )

pub lower_labelled-leave_scope-requires-clause-sound : goal.lower_labelled-leave_scope-requires-clause-sound
lower_labelled-leave_scope-requires-clause-sound g t c =
    let source = source_of c.args.context.now in
    let s0 = shape g.I.Interner.projections c.args.graph.now in
    let s1 = shape g.I.Interner.projections c.enter_loop.new.graph in
    let entered = c.in_ok-blocks.ensures.entered in
    let s2 = shape g.I.Interner.projections c.lower_statements.new.graph in
    let s3 = shape g.I.Interner.projections c.lower_tail.new.graph in
    let first : LowersStatements source s1 s2 c.args.statements.now = subst (λ (list : List Statement). LowersStatements source s1 s2 list) c.as_slice.ensures c.in_ok-lower_statements.ensures.lowered in
    let here-placed = placed-later s0 s2 (grows-trans s0 s1 s2 entered.grows first.keeps.grows) c.args.to.0 c.requires.placed in
    let last = c.in_ok-lower_tail.ensures.lowered here-placed.cell here-placed.found in
    last.keeps.sound

pub lower_labelled-leave_scope-requires-clause-opened : goal.lower_labelled-leave_scope-requires-clause-opened
lower_labelled-leave_scope-requires-clause-opened g t c =
    let source = source_of c.args.context.now in
    let s0 = shape g.I.Interner.projections c.args.graph.now in
    let s1 = shape g.I.Interner.projections c.enter_loop.new.graph in
    let entered = c.in_ok-blocks.ensures.entered in
    let s2 = shape g.I.Interner.projections c.lower_statements.new.graph in
    let s3 = shape g.I.Interner.projections c.lower_tail.new.graph in
    let first : LowersStatements source s1 s2 c.args.statements.now = subst (λ (list : List Statement). LowersStatements source s1 s2 list) c.as_slice.ensures c.in_ok-lower_statements.ensures.lowered in
    let here-placed = placed-later s0 s2 (grows-trans s0 s1 s2 entered.grows first.keeps.grows) c.args.to.0 c.requires.placed in
    let last = c.in_ok-lower_tail.ensures.lowered here-placed.cell here-placed.found in
    last.keeps.«open»

pub lower_labelled-leave_scope-requires-clause-within : goal.lower_labelled-leave_scope-requires-clause-within
lower_labelled-leave_scope-requires-clause-within g t c =
    let source = source_of c.args.context.now in
    let s0 = shape g.I.Interner.projections c.args.graph.now in
    let s1 = shape g.I.Interner.projections c.enter_loop.new.graph in
    let entered = c.in_ok-blocks.ensures.entered in
    let s2 = shape g.I.Interner.projections c.lower_statements.new.graph in
    let s3 = shape g.I.Interner.projections c.lower_tail.new.graph in
    let first : LowersStatements source s1 s2 c.args.statements.now = subst (λ (list : List Statement). LowersStatements source s1 s2 list) c.as_slice.ensures c.in_ok-lower_statements.ensures.lowered in
    let here-placed = placed-later s0 s2 (grows-trans s0 s1 s2 entered.grows first.keeps.grows) c.args.to.0 c.requires.placed in
    let last = c.in_ok-lower_tail.ensures.lowered here-placed.cell here-placed.found in
    opened-within s1 s3 c.push_drop_scope-scope.result.0 (marked_in_block source c.args.statements.now c.args.tail) c.push_drop_scope-scope.ensures
    (block-inner source s1 s2 s3 c.args.statements.now c.args.tail here-placed.cell first last)

pub lower_labelled-returns-in_err-leave_scope-clause-refused : goal.lower_labelled-returns-in_err-leave_scope-clause-refused
lower_labelled-returns-in_err-leave_scope-clause-refused g t c =
    refused-exit (RefusesAt (source_of c.args.context.now) c.args.e.0) _ c.from_residual-in_err-leave_scope.result c.from_residual-in_err-leave_scope.ensures.1 (refuses-no-memory (source_of c.args.context.now) c.args.e.0)

pub lower_labelled-leave_loop-requires : goal.lower_labelled-leave_loop-requires
lower_labelled-leave_loop-requires g t c =
    let source = source_of c.args.context.now in
    let s0 = shape g.I.Interner.projections c.args.graph.now in
    let s1 = shape g.I.Interner.projections c.enter_loop.new.graph in
    let entered = c.in_ok-blocks.ensures.entered in
    let s2 = shape g.I.Interner.projections c.lower_statements.new.graph in
    let s3 = shape g.I.Interner.projections c.lower_tail.new.graph in
    let first : LowersStatements source s1 s2 c.args.statements.now = subst (λ (list : List Statement). LowersStatements source s1 s2 list) c.as_slice.ensures c.in_ok-lower_statements.ensures.lowered in
    let here-placed = placed-later s0 s2 (grows-trans s0 s1 s2 entered.grows first.keeps.grows) c.args.to.0 c.requires.placed in
    let last = c.in_ok-lower_tail.ensures.lowered here-placed.cell here-placed.found in
    let s4 = shape g.I.Interner.projections c.leave_scope.new.graph in
    let left = scope-left s1 s3 c.push_drop_scope-scope.result.0 (marked_in_block source c.args.statements.now c.args.tail) c.push_drop_scope-scope.ensures (block-inner source s1 s2 s3 c.args.statements.now c.args.tail here-placed.cell first last) source s4 c.in_ok-leave_scope.ensures in
    record {
      opened = left.«open»;
      reserved = reserved-spared (scoped-spares s1 s3 s4 (spares-trans s1 s2 s3 first.keeps.spares last.keeps.spares) s1.scope left.spares) entered.end_reserved;
    }

pub lower_labelled-returns-clause-built : goal.lower_labelled-returns-clause-built
lower_labelled-returns-clause-built g t c =
    let source = source_of c.args.context.now in
    built-labelled source c.args.e.0 c.args.label c.args.statements.now c.args.tail c.requires.form
    (subst (λ (list : List Statement). All (IsBuiltThrough source) list) c.as_slice.ensures c.in_ok-lower_statements.ensures.built)
    c.in_ok-lower_tail.ensures.built

pub lower_labelled-returns-clause-lowered : goal.lower_labelled-returns-clause-lowered
lower_labelled-returns-clause-lowered g t c =
    λ cell found.
    let source = source_of c.args.context.now in
    let s0 = shape g.I.Interner.projections c.args.graph.now in
    let s1 = shape g.I.Interner.projections c.enter_loop.new.graph in
    let blocks = c.in_ok-blocks.blocks in
    let entered = c.in_ok-blocks.ensures.entered in
    let opened = opened-is blocks c.args.e (Some c.args.label) c.in_ok-blocks.ensures.node c.in_ok-blocks.ensures.label in
    let place-is = c.in_ok-blocks.ensures.value in
    let placed : IsPlaced s0 blocks.to.0 = subst (λ (p : LocalId). IsPlaced s0 p.0) (sym place-is) c.requires.placed in
    let parts = parts-entered source s0 s1 c.args.e.0 (Some c.args.label) (target_of_blocks blocks) c.requires.ready entered opened (λ outer. ap (λ n. opened_in c.args.e.0 n outer) c.requires.form) placed in
    let s2 = shape g.I.Interner.projections c.lower_statements.new.graph in
    let s3 = shape g.I.Interner.projections c.lower_tail.new.graph in
    let s4 = shape g.I.Interner.projections c.leave_scope.new.graph in
    let s5 = shape g.I.Interner.projections c.leave_loop.new.graph in
    let target = target_of_blocks blocks in
    let first : LowersStatements source s1 s2 c.args.statements.now = subst (λ (list : List Statement). LowersStatements source s1 s2 list) c.as_slice.ensures c.in_ok-lower_statements.ensures.lowered in
    let last = c.in_ok-lower_tail.ensures.lowered cell (local_of-grows s0 s2 (grows-trans s0 s1 s2 entered.grows first.keeps.grows) cell c.args.to.0 found) in
    let left = scope-left s1 s3 c.push_drop_scope-scope.result.0 (marked_in_block source c.args.statements.now c.args.tail) c.push_drop_scope-scope.ensures (block-inner source s1 s2 s3 c.args.statements.now c.args.tail cell first last) source s4 c.in_ok-leave_scope.ensures in
    let targets = left.spares.targets ∙ last.keeps.spares.targets ∙ first.keeps.spares.targets ∙ entered.targets in
    lowers-labelled source s0 s1 s2 s3 s4 s5 c.args.e.0 c.args.label c.args.statements.now c.args.tail target cell c.requires.form c.requires.ready entered opened (found ∙ ap (λ (p : LocalId). Some p.0) (sym place-is)) first last left
    (c.leave_loop.ensures source target s0.targets left.sound targets)

-- a loop

pub lower_loop-returns-in_err-blocks-clause-refused : goal.lower_loop-returns-in_err-blocks-clause-refused
lower_loop-returns-in_err-blocks-clause-refused g t c =
    refused-exit (RefusesAt (source_of c.args.context.now) c.args.e.0) _ c.from_residual.result c.from_residual.ensures.1 (refuses-no-memory (source_of c.args.context.now) c.args.e.0)

pub lower_loop-lower_place-requires : goal.lower_loop-lower_place-requires
lower_loop-lower_place-requires g t c =
    let source = source_of c.args.context.now in
    let s0 = shape g.I.Interner.projections c.args.graph.now in
    let s1 = shape g.I.Interner.projections c.enter_loop.new.graph in
    let blocks = c.in_ok-blocks.blocks in
    let entered = c.in_ok-blocks.ensures.entered in
    let opened = opened-is blocks c.args.e c.args.label c.in_ok-blocks.ensures.node c.in_ok-blocks.ensures.label in
    let place-is = c.in_ok-blocks.ensures.value in
    let placed : IsPlaced s0 blocks.to.0 = subst (λ (p : LocalId). IsPlaced s0 p.0) (sym place-is) c.requires.placed in
    let parts = parts-entered source s0 s1 c.args.e.0 c.args.label (target_of_blocks blocks) c.requires.ready entered opened (λ outer. ap (λ n. opened_in c.args.e.0 n outer) c.requires.form) placed in
    let is = body-part source c.args.e.0 c.args.label c.args.body.0 c.requires.form in
    let below = part-below source c.args.e.0 c.args.body.0 c.requires.ready.checked is in
    λ κs alive. (omega (arith, below), (alive, part-ready source s1 c.args.e.0 c.args.body.0 parts is))

pub lower_loop-returns-in_err-lower_place-clause-refused : goal.lower_loop-returns-in_err-lower_place-clause-refused
lower_loop-returns-in_err-lower_place-clause-refused g t c =
    let source = source_of c.args.context.now in
    refused-exit (RefusesAt source c.args.e.0) _ c.from_residual-in_err-lower_place.result c.from_residual-in_err-lower_place.ensures.1
    (λ error same. subst (RefusesAt source c.args.e.0) (sym same) (refuses-part source c.args.e.0 c.args.body.0 _ (body-part source c.args.e.0 c.args.label c.args.body.0 c.requires.form) c.in_err-lower_place.ensures.refused))

pub lower_loop-leave_scope-requires-clause-within : goal.lower_loop-leave_scope-requires-clause-within
lower_loop-leave_scope-requires-clause-within g t c =
    let source = source_of c.args.context.now in
    opened-within (shape g.I.Interner.projections c.enter_loop.new.graph) (shape g.I.Interner.projections c.lower_place.new.graph) c.push_drop_scope-scope.result.0 (marked_as_place source c.args.body.0) c.push_drop_scope-scope.ensures c.in_ok-lower_place.ensures.lowered.keeps.scope

pub lower_loop-returns-in_err-leave_scope-clause-refused : goal.lower_loop-returns-in_err-leave_scope-clause-refused
lower_loop-returns-in_err-leave_scope-clause-refused g t c =
    refused-exit (RefusesAt (source_of c.args.context.now) c.args.e.0) _ c.from_residual-in_err-leave_scope.result c.from_residual-in_err-leave_scope.ensures.1 (refuses-no-memory (source_of c.args.context.now) c.args.e.0)

pub lower_loop-leave_loop-requires : goal.lower_loop-leave_loop-requires
lower_loop-leave_loop-requires g t c =
    let source = source_of c.args.context.now in
    let s0 = shape g.I.Interner.projections c.args.graph.now in
    let s1 = shape g.I.Interner.projections c.enter_loop.new.graph in
    let entered = c.in_ok-blocks.ensures.entered in
    let s2 = shape g.I.Interner.projections c.lower_place.new.graph in
    let s3 = shape g.I.Interner.projections c.leave_scope.new.graph in
    let place = c.in_ok-lower_place.ensures.lowered in
    let left = scope-left s1 s2 c.push_drop_scope-scope.result.0 (marked_as_place source c.args.body.0) c.push_drop_scope-scope.ensures place.keeps.scope source s3 c.in_ok-leave_scope.ensures in
    record { opened = left.«open»; reserved = reserved-spared (scoped-spares s1 s2 s3 place.keeps.spares s1.scope left.spares) entered.end_reserved }

pub lower_loop-returns-clause-built : goal.lower_loop-returns-clause-built
lower_loop-returns-clause-built g t c =
    built-loop (source_of c.args.context.now) c.args.e.0 c.args.label c.args.body.0 c.requires.form c.in_ok-lower_place.ensures.built

pub lower_loop-returns-clause-lowered : goal.lower_loop-returns-clause-lowered
lower_loop-returns-clause-lowered g t c =
    λ cell found.
    let source = source_of c.args.context.now in
    let s0 = shape g.I.Interner.projections c.args.graph.now in
    let s1 = shape g.I.Interner.projections c.enter_loop.new.graph in
    let blocks = c.in_ok-blocks.blocks in
    let entered = c.in_ok-blocks.ensures.entered in
    let opened = opened-is blocks c.args.e c.args.label c.in_ok-blocks.ensures.node c.in_ok-blocks.ensures.label in
    let place-is = c.in_ok-blocks.ensures.value in
    let placed : IsPlaced s0 blocks.to.0 = subst (λ (p : LocalId). IsPlaced s0 p.0) (sym place-is) c.requires.placed in
    let parts = parts-entered source s0 s1 c.args.e.0 c.args.label (target_of_blocks blocks) c.requires.ready entered opened (λ outer. ap (λ n. opened_in c.args.e.0 n outer) c.requires.form) placed in
    let s2 = shape g.I.Interner.projections c.lower_place.new.graph in
    let s3 = shape g.I.Interner.projections c.leave_scope.new.graph in
    let place = c.in_ok-lower_place.ensures.lowered in
    let left = scope-left s1 s2 c.push_drop_scope-scope.result.0 (marked_as_place source c.args.body.0) c.push_drop_scope-scope.ensures place.keeps.scope source s3 c.in_ok-leave_scope.ensures in
    let s4 = shape g.I.Interner.projections c.leave_loop.new.graph in
    let target = target_of_blocks blocks in
    lowers-loop source s0 s1 s2 s3 s4 c.args.e.0 c.args.label c.args.body.0 c.in_ok-lower_place.field-0 target cell c.requires.form c.requires.ready entered opened (found ∙ ap (λ (p : LocalId). Some p.0) (sym place-is)) place left
    (c.leave_loop.ensures source target s0.targets left.sound (left.spares.targets ∙ place.keeps.spares.targets ∙ entered.targets))

-- a `break`

pub lower_break-returns-in_err-blocks-clause-refused : goal.lower_break-returns-in_err-blocks-clause-refused
lower_break-returns-in_err-blocks-clause-refused g t c =
    let source = source_of c.args.context.now in
    refused-exit (RefusesAt source c.args.e.0) _ c.from_residual.result c.from_residual.ensures.1
    (λ error same. subst (RefusesAt source c.args.e.0) (sym (same ∙ c.in_err-blocks.ensures.refused)) (refuses-break source (shape g.I.Interner.projections c.args.graph.now) c.args.e.0 c.args.label c.args.value c.requires.ready c.requires.form c.in_err-blocks.ensures.missing))

pub lower_break-lower_tail-requires : goal.lower_break-lower_tail-requires
lower_break-lower_tail-requires g t c =
    let source = source_of c.args.context.now in
    let s0 = shape g.I.Interner.projections c.args.graph.now in
    let target = target_of_blocks c.in_ok-blocks.blocks in
    let around = meant-has (IsInside s0 c.args.e.0) c.args.label s0.targets target c.requires.ready.around.inside c.in_ok-blocks.ensures.found in
    let parts = parts-ready source s0 c.args.e.0 (λ outer. ap (λ n. opened_in c.args.e.0 n outer) c.requires.form) c.requires.ready in
    λ κs alive. (omega arith, (alive, (parts, (break-part source c.args.e.0 c.args.label c.args.value c.requires.form, around.placed))))

pub lower_break-jump-requires-clause-sound : goal.lower_break-jump-requires-clause-sound
lower_break-jump-requires-clause-sound g t c =
    let source = source_of c.args.context.now in
    let s0 = shape g.I.Interner.projections c.args.graph.now in
    let target = target_of_blocks c.in_ok-blocks.blocks in
    let around = meant-has (IsInside s0 c.args.e.0) c.args.label s0.targets target c.requires.ready.around.inside c.in_ok-blocks.ensures.found in
    (c.in_ok-lower_tail.ensures.lowered around.placed.cell around.placed.found).keeps.sound

pub lower_break-jump-requires-clause-opened : goal.lower_break-jump-requires-clause-opened
lower_break-jump-requires-clause-opened g t c =
    let source = source_of c.args.context.now in
    let s0 = shape g.I.Interner.projections c.args.graph.now in
    let target = target_of_blocks c.in_ok-blocks.blocks in
    let around = meant-has (IsInside s0 c.args.e.0) c.args.label s0.targets target c.requires.ready.around.inside c.in_ok-blocks.ensures.found in
    (c.in_ok-lower_tail.ensures.lowered around.placed.cell around.placed.found).keeps.«open»

pub lower_break-returns-in_err-jump-clause-refused : goal.lower_break-returns-in_err-jump-clause-refused
lower_break-returns-in_err-jump-clause-refused g t c =
    refused-exit (RefusesAt (source_of c.args.context.now) c.args.e.0) _ c.from_residual-in_err-jump.result c.from_residual-in_err-jump.ensures.1 (refuses-no-memory (source_of c.args.context.now) c.args.e.0)

pub lower_break-returns-clause-built : goal.lower_break-returns-clause-built
lower_break-returns-clause-built g t c =
    let source = source_of c.args.context.now in
    built-break source c.args.e.0 c.args.label c.args.value c.requires.form
    (has-target source (shape g.I.Interner.projections c.args.graph.now) c.args.e.0 c.args.label (target_of_blocks c.in_ok-blocks.blocks) c.requires.ready.around c.in_ok-blocks.ensures.found) c.in_ok-lower_tail.ensures.built

pub lower_break-returns-clause-lowered : goal.lower_break-returns-clause-lowered
lower_break-returns-clause-lowered g t c =
    λ cell.
    let source = source_of c.args.context.now in
    let s0 = shape g.I.Interner.projections c.args.graph.now in
    let target = target_of_blocks c.in_ok-blocks.blocks in
    let around = meant-has (IsInside s0 c.args.e.0) c.args.label s0.targets target c.requires.ready.around.inside c.in_ok-blocks.ensures.found in
    lowers-break source s0 (shape g.I.Interner.projections c.lower_tail.new.graph) (shape g.I.Interner.projections c.jump.new.graph) c.args.e.0 c.args.label c.args.value target c.requires.form c.requires.ready c.in_ok-blocks.ensures.found c.in_ok-lower_tail.ensures.lowered c.in_ok-jump.ensures cell

-- a `return`

pub lower_return-lower_tail-requires : goal.lower_return-lower_tail-requires
lower_return-lower_tail-requires g t c =
    let source = source_of c.args.context.now in
    let s0 = shape g.I.Interner.projections c.args.graph.now in
    let parts = parts-ready source s0 c.args.e.0 (λ outer. ap (λ n. opened_in c.args.e.0 n outer) c.requires.form) c.requires.ready in
    λ κs alive. (omega arith, (alive, (parts, (return-part source c.args.e.0 c.args.value c.requires.form, record { cell = Result; found = refl }))))

pub lower_return-return_from-requires-clause-sound : goal.lower_return-return_from-requires-clause-sound
lower_return-return_from-requires-clause-sound g t c = (c.in_ok-lower_tail.ensures.lowered Result refl).keeps.sound

pub lower_return-return_from-requires-clause-opened : goal.lower_return-return_from-requires-clause-opened
lower_return-return_from-requires-clause-opened g t c = (c.in_ok-lower_tail.ensures.lowered Result refl).keeps.«open»

pub lower_return-returns-in_err-return_from-clause-refused : goal.lower_return-returns-in_err-return_from-clause-refused
lower_return-returns-in_err-return_from-clause-refused g t c =
    refused-exit (RefusesAt (source_of c.args.context.now) c.args.e.0) _ c.from_residual-in_err-return_from.result c.from_residual-in_err-return_from.ensures.1 (refuses-no-memory (source_of c.args.context.now) c.args.e.0)

pub lower_return-returns-clause-built : goal.lower_return-returns-clause-built
lower_return-returns-clause-built g t c =
    built-return (source_of c.args.context.now) c.args.e.0 c.args.value c.requires.form c.in_ok-lower_tail.ensures.built

pub lower_return-returns-clause-lowered : goal.lower_return-returns-clause-lowered
lower_return-returns-clause-lowered g t c =
    λ cell.
    let source = source_of c.args.context.now in
    lowers-return source (shape g.I.Interner.projections c.args.graph.now) (shape g.I.Interner.projections c.lower_tail.new.graph) (shape g.I.Interner.projections c.return_from.new.graph) c.args.e.0 c.args.value c.requires.form c.requires.ready (c.in_ok-lower_tail.ensures.lowered Result refl) c.in_ok-return_from.ensures cell

-- a method call

pub lower_method_call-returns-in_err-all-clause-refused : goal.lower_method_call-returns-in_err-all-clause-refused
lower_method_call-returns-in_err-all-clause-refused g t c =
    refused-exit (RefusesAt (source_of c.args.context.now) c.args.e.0) _ c.from_residual.result c.from_residual.ensures.1 (refuses-no-memory (source_of c.args.context.now) c.args.e.0)

-- a call

pub lower_call-lower_callee-requires : goal.lower_call-lower_callee-requires
lower_call-lower_callee-requires g t c = record { form = (expr_numbers c.args.args.now, c.requires.form) }

pub lower_call-returns-in_err-func-clause-refused : goal.lower_call-returns-in_err-func-clause-refused
lower_call-returns-in_err-func-clause-refused g t c =
    let source = source_of c.args.context.now in
    refused-exit (RefusesAt source c.args.e.0) _ c.from_residual.result c.from_residual.ensures.1
    (λ error same. subst (RefusesAt source c.args.e.0) (sym same) (refuses-here source c.args.e.0 _ c.in_err-func.ensures.refused))

pub lower_call-lower_operands-requires : goal.lower_call-lower_operands-requires
lower_call-lower_operands-requires g t c =
    let source = source_of c.args.context.now in λ κs alive. (
      omega arith,
      (
        alive,
        (
          parts-ready source (shape g.I.Interner.projections c.args.graph.now) c.args.e.0 (λ outer. ap (λ n. opened_in c.args.e.0 n outer) c.requires.form) c.requires.ready,
          all-are-parts _ _ (ap parts_of c.requires.form ∙ call_parts (callee_number c.args.callee) (expr_numbers c.args.args.now)),
        ),
      ),
    )

pub lower_call-returns-in_err-operands-clause-refused : goal.lower_call-returns-in_err-operands-clause-refused
lower_call-returns-in_err-operands-clause-refused g t c =
    let source = source_of c.args.context.now in
    refused-exit (RefusesAt source c.args.e.0) _ c.from_residual-in_err-operands.result c.from_residual-in_err-operands.ensures.1
    (λ error same. subst (RefusesAt source c.args.e.0) (sym same) c.in_err-operands.ensures.refused)

pub lower_call-call-requires : goal.lower_call-call-requires
lower_call-call-requires g t c = c.in_ok-operands.ensures.lowered.keeps.«open»

pub lower_call-returns-in_err-call-clause-refused : goal.lower_call-returns-in_err-call-clause-refused
lower_call-returns-in_err-call-clause-refused g t c =
    refused-exit (RefusesAt (source_of c.args.context.now) c.args.e.0) _ c.from_residual-in_err-call.result c.from_residual-in_err-call.ensures.1 (refuses-no-memory (source_of c.args.context.now) c.args.e.0)

pub lower_call-returns-clause-lowered : goal.lower_call-returns-clause-lowered
lower_call-returns-clause-lowered g t c =
    λ cell found.
    let source = source_of c.args.context.now in
    let s0 = shape g.I.Interner.projections c.args.graph.now in
    let s1 = shape g.I.Interner.projections c.lower_operands.new.graph in
    let es = expr_numbers c.args.args.now in
    let given : LowersOperands source s0 s1 es (map (λ (operand : Operand). operand.kind) c.in_ok-operands.operands) = c.in_ok-operands.ensures.lowered in
    let next = c.in_ok-call.ensures in
    lowers-call source s0 s1 (shape g.I.Interner.projections c.call.new.graph) c.args.e (callee_number c.args.callee) es c.in_ok-func.func c.in_ok-operands.operands c.args.to next.0 c.requires.ready c.requires.form given c.in_ok-func.ensures.callee c.in_ok-func.ensures.built next.1
    (has-called source s1 (shape g.I.Interner.projections c.call.new.graph) c.args.e c.in_ok-func.func c.in_ok-operands.operands c.args.to _ given.keeps.sound given.keeps.«open» next.2) cell found

pub lower_call-returns-clause-built : goal.lower_call-returns-clause-built
lower_call-returns-clause-built g t c =
    let source = source_of c.args.context.now in
    built-call source c.args.e.0 (callee_number c.args.callee) (expr_numbers c.args.args.now) c.requires.form c.in_ok-func.ensures.built c.in_ok-operands.ensures.built

-- the operands of a call

pub lower_operands-loop-arg-init : goal.lower_operands-loop-arg-init
lower_operands-loop-arg-init g t c =
    let source = source_of c.args.context.now in
    let s = shape g.I.Interner.projections c.args.graph.now in
    let es = expr_numbers c.args.args.now in (
      subst (λ (operands : List Operand). Collects source s s es es (map (λ (operand : Operand). operand.kind) operands)) (sym c.new-operands.ensures) (collects-none source s es c.requires.ready.sound c.requires.ready.«open»),
      All-nil (λ arg. IsBuilt source arg.0),
      (let plain : 0 + length c.args.args.now ≡ length c.args.args.now = omega arith in ap (λ (operands : List Operand). length operands + length c.args.args.now) c.new-operands.ensures ∙ plain),
    )

pub lower_operands-lower_operand-requires : goal.lower_operands-lower_operand-requires
lower_operands-lower_operand-requires g t c =
    let source = source_of c.args.context.now in
    let s = shape g.I.Interner.projections c.loop-arg.graph in
    let so-far = c.loop-arg.invariant.0 in
    let child : ℕ = (get_or c.args.args.now c.loop-arg.arg-index (record { 0 = 0 })).0 in
    let is : Contains (parts_of (node source c.args.e.0)) child = All-contains (Contains (parts_of (node source c.args.e.0))) (expr_numbers c.args.args.now) child c.requires.parts (argument-in c.args.args.now c.loop-arg.arg-index (record { 0 = 0 }) c.loop-arg-test.true) in
    let below = part-below source c.args.e.0 child c.requires.ready.checked is in λ κs alive. (omega (arith, below), (alive, part-ready source s c.args.e.0 child (parts-ready-in source (shape g.I.Interner.projections c.args.graph.now) s c.args.e.0 c.requires.ready so-far.spares.targets so-far.grows so-far.sound so-far.«open») is))

pub lower_operands-returns-in_err-operand-clause-refused : goal.lower_operands-returns-in_err-operand-clause-refused
lower_operands-returns-in_err-operand-clause-refused g t c =
    let source = source_of c.args.context.now in
    let child : ℕ = (get_or c.args.args.now c.loop-arg.arg-index (record { 0 = 0 })).0 in
    let is : Contains (parts_of (node source c.args.e.0)) child = All-contains (Contains (parts_of (node source c.args.e.0))) (expr_numbers c.args.args.now) child c.requires.parts (argument-in c.args.args.now c.loop-arg.arg-index (record { 0 = 0 }) c.loop-arg-test.true) in
    refused-exit (RefusesAt source c.args.e.0) _ c.from_residual.result c.from_residual.ensures.1
    (λ error same. subst (RefusesAt source c.args.e.0) (sym same) (refuses-part source c.args.e.0 child _ is c.in_err-operand.ensures.refused))

pub lower_operands-returns-in_err-push-clause-refused : goal.lower_operands-returns-in_err-push-clause-refused
lower_operands-returns-in_err-push-clause-refused g t c =
    refused-exit (RefusesAt (source_of c.args.context.now) c.args.e.0) _ c.from_residual-in_err-push.result c.from_residual-in_err-push.ensures.1 (refuses-no-memory (source_of c.args.context.now) c.args.e.0)

pub lower_operands-loop-arg-preserved : goal.lower_operands-loop-arg-preserved
lower_operands-loop-arg-preserved g t c =
    let source = source_of c.args.context.now in
    let i = c.loop-arg.arg-index in
    let s0 = shape g.I.Interner.projections c.args.graph.now in
    let kinds : List Operand → List OperandKind = map (λ (operand : Operand). operand.kind) in
    let so-far = subst (λ (rest : List ℕ). Collects source s0 (shape g.I.Interner.projections c.loop-arg.graph) (expr_numbers c.args.args.now) rest (kinds c.loop-arg.operands)) (arguments-from c.args.args.now i (record { 0 = 0 }) c.loop-arg-test.true) c.loop-arg.invariant.0 in
    let operand = c.in_ok-operand.operand in
    let pushed = ap kinds c.in_ok-push.ensures.ok ∙ map-append (λ (operand : Operand). operand.kind) c.loop-arg.operands (operand ∷ []) in (
      subst (λ (list : List OperandKind). Collects source s0 (shape g.I.Interner.projections c.lower_operand.new.graph) (expr_numbers c.args.args.now) (expr_numbers (drop (i + 1) c.args.args.now)) list) (sym pushed)
          (collects-more source s0 (shape g.I.Interner.projections c.loop-arg.graph) (shape g.I.Interner.projections c.lower_operand.new.graph) (expr_numbers c.args.args.now) _ (expr_numbers (drop (i + 1) c.args.args.now)) (kinds c.loop-arg.operands) operand.kind so-far c.in_ok-operand.ensures.lowered),
      All-more (λ arg. IsBuilt source arg.0) c.args.args.now i _ c.loop-arg-test.true c.loop-arg.invariant.1 c.in_ok-operand.ensures.built,
      one-more-operand c.args.args.now c.loop-arg.operands operand _ i c.loop-arg-test.true c.in_ok-push.ensures.ok c.loop-arg.invariant.2,
    )

pub lower_operands-returns-clause-lowered : goal.lower_operands-returns-clause-lowered
lower_operands-returns-clause-lowered g t c =
    let source = source_of c.args.context.now in
    let args = c.args.args.now in
    let none : expr_numbers (drop c.loop-arg.arg-index args) ≡ [] = ap expr_numbers (drop_all c.loop-arg.arg-index args c.loop-arg-test.false) in
    collects-all source (shape g.I.Interner.projections c.args.graph.now) (shape g.I.Interner.projections c.loop-arg.graph) (expr_numbers args) (map (λ (operand : Operand). operand.kind) c.loop-arg.operands)
    (subst (λ (rest : List ℕ). Collects source (shape g.I.Interner.projections c.args.graph.now) (shape g.I.Interner.projections c.loop-arg.graph) (expr_numbers args) rest (map (λ (operand : Operand). operand.kind) c.loop-arg.operands)) none c.loop-arg.invariant.0)

pub lower_operands-returns-clause-many : goal.lower_operands-returns-clause-many
lower_operands-returns-clause-many g t c = all-operands c.args.args.now c.loop-arg.operands c.loop-arg.arg-index c.loop-arg-test.false c.loop-arg.invariant.2

pub lower_operands-returns-clause-built : goal.lower_operands-returns-clause-built
lower_operands-returns-clause-built g t c =
    let source = source_of c.args.context.now in
    let args = c.args.args.now in
    built-arguments source args (subst (λ (list : List _). All (λ arg. IsBuilt source arg.0) list) (take_all c.loop-arg.arg-index args c.loop-arg-test.false) c.loop-arg.invariant.1)
