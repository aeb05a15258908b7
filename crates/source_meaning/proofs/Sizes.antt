-- A plain body of a checked world is never stuck, and never ends in a jump: each value has the size of its type.
use Rattle.std.specs.Prelude.{All, flat_map, Contains}
use Rattle.std.proofs.Common.{⊎_elim, ◌⊎◌, inl, inr, ◌≡◌, ◌≢◌, ℕ, zero, suc, Bool, true, false, ◌||◌, cond, if◌then◌else◌, ◌==◌, List, [], ◌∷◌, ◌++◌, length, map, Option, Some, None, unwrap_or, option_map, ℤ, pos, refl, sym, ap, ◌∙◌, subst, arith, eq-eqb}
use Rattle.std.proofs.lemmas.Bool.{false≢true}
use Rattle.std.proofs.lemmas.List.{length-replicate}
use Rattle.std.proofs.lemmas.List.Elements.{All-head, All-tail, Contains-append_left, Contains-append_right, Contains-append_cases}
use Rattle.types.specs.declared.ids.AdtId.TheVariants as adt
use Rattle.types.specs.declared.ids.StructId.{StructId}
use Rattle.types.specs.declared.ty.Ty.TheVariants.{Adt}
use Rattle.types.specs.declared.ty.GenericArgs.{GenericArgs}
use Rattle.world.specs.declared.body.Statement.{Statement}
use Rattle.world.specs.declared.body.Statement.TheVariants as statement
use Rattle.types.specs.declared.ids.BindingId.{BindingId}
use Rattle.types.specs.declared.ids.ExprId.{ExprId}
use Rattle.types.specs.declared.ids.LabelId.{LabelId}
use Rattle.types.specs.declared.operators.LogicOp.{LogicOp}
use Rattle.types.specs.declared.ty.Ty.{Ty, Bool as BoolTy, Int as IntType, Uint as UintType}
use Rattle.world.specs.Checked.{IsChecked, IsCheckedBody}
use Rattle.types.specs.declared.ids.VariantId.TheVariants as variant
use Rattle.world.specs.declared.items.FieldRow.{FieldRow}
use Rattle.world.specs.Lookups.{fields_of, layout_of}
use Rattle.world.specs.Nodes.{optional}
use Rattle.source_meaning.specs.Structs.{FieldSource, picked}
use Rattle.source_meaning.specs.Updates.{field_operands}
use Rattle.numbers.specs.Bytes.{low_bytes}
use Rattle.numbers.specs.declared.operator.Operator.{Operator}
use Rattle.numbers.proofs.Digits.{length-low_bytes}
use Rattle.source_meaning.specs.Aggregates.{HasAggregates}
use Rattle.source_meaning.specs.Around.{Opened, Target, Around, at_root, marking, entered, inside as inside_of, is_meant, meant, target_of}
use Rattle.source_meaning.specs.Calls.{must_not_return, parameter_cells, parameters}
use Rattle.source_meaning.specs.Core as expr
use Rattle.source_meaning.specs.Core.{Assigned, Assignee, ByField, ByPath, ByPattern, ByPlace, CoreExpr, CoreLiteral, Truth, Number, Character, ElementAt, FieldOf, Operation, Combine, MakeStruct, Part, PlaceElem, is_truth}
use Rattle.source_meaning.specs.Ends.{no_cost, turns_alone, plus, End, Go, Jumps, Break, Continue, Return, Faults, Stuck, More, JumpsNowhere, after, then_do}
use Rattle.source_meaning.specs.Entering.{entering}
use Rattle.source_meaning.specs.Events.{marked, marked_as_operand, marked_as_place, marked_by_assigned, marked_by_statement}
use Rattle.source_meaning.specs.Laid.{is_laid_out}
use Rattle.source_meaning.specs.Meaning.{Level, Levels, Callees, Value, within_bounds, read_into, combined_at, made_into, operated_into, stepped, operand_kind, values_of, answered, answered_for, truth_byte, literal_bytes, constant_cost, put, put_literal, put_answer, literal_operand, named_place, named_into, field_place, bind, operands_of, strict_into, deciding_byte, reading_cost, decided_into, branched, logic_into, tail_into, branch_into, if_into, bound_place, assignee_place, assign_into, assigned_place, compound_into, struct_of, update_into, statement_of, statements_of, block_into, caught, again_into, labelled_into, turn_of, loop_into, break_to, break_into, continue_to, continue_into, return_into, call_ended, unfit_meaning, entered_from, entered_into, call_into, no_fuel, place_of, operand_of, into_of, level_above, level_at, body_meaning, callees_at, meaning_from}
use Rattle.source_meaning.specs.Places.{is_out_of_bounds, place_bytes, operand_bytes, operand_out, operands_bytes, some_out}
use Rattle.source_meaning.specs.Source.{Source, Store, IsSized, Path, Place, Cell, IndexOf, Result, Node, Binding, Operand, Literally, At, zeroed, node, unadjusted, never_marks, own_path, own_type, node_type, own_layout, pattern, target, compound_target, root, cell_type, binding_type, cell_size}
use Rattle.source_meaning.specs.Steps.{parts_of, assigned_parts, assignee_parts, statement_parts, tail_steps}
use Rattle.source_meaning.specs.Steps as step
use Rattle.source_meaning.specs.Valid.{Evaluates, itself, part, HaveTypes, IsTyped, IsNumber, IsBool, IsPlainLiteral, IsPlainLet, IsPlainStatement, IsPlainTail, IsCombined, IsPlainAssigned, IsPlainAssignee, IsPlainField, HasElem, HasPlainIndex, HasPlainForm, IsPlainNode, EvaluatesIn, itself_in, part_in, opened_in, HasPlainTarget, HasOpenTarget, FitsAround, JumpsFit, IsPlain, IsLaidOut, IsLaidOutNode, sized_part, sized_parts, NeedsLayout, own, inside, Calls, through, at_once, IsPlainThroughout, IsPlainCall}
use Rattle.source_meaning.proofs.Aggregates.{AreBytes}
use Rattle.source_meaning.proofs.Calls.{called_world, called_is_checked, called_by_name, AreFor, started_is_sized}
use Rattle.source_meaning.proofs.Depth.{evaluates_then, operand_is_part, update_operand_is_part, argument_is_part, logic_operand_is_part, if_part_is_part, combined_is_part}
use Rattle.source_meaning.proofs.Indices.{HasOwnIndex, has_index_cell, index_cell_type, node_has_index, target_has_index}
use Rattle.source_meaning.proofs.Laid.{layouts_are_tested}
use Rattle.source_meaning.proofs.Layouts.{bool_is_number, bool_length_is_one}
use Rattle.source_meaning.proofs.Never.{undiverted-type, own_path-fits, unadjusted-plain}
use Rattle.source_meaning.proofs.Operators.{Fits, IsLengthOf}
use Rattle.source_meaning.proofs.Parts.{elem_parts, first_is_contained, rest_is_contained, operand_is_sized, first_is_sized, right_is_sized, branch_is_sized, assigned_value_is_sized, assignee_is_sized, assigned_is_sized, combined_value_is_sized, sized_field_parts, sized_part_is_part, sized_block_parts, sized_tail}
use Rattle.source_meaning.proofs.Places.{IsPlaceOf, IsLiteralOf, IsOperandOf, AreOperandsOf, byte_decides, neither, whole_is_place, part_is_place, place_has_bytes, place_has_value, values_of-more, same_size, operand_is_value, truth_has_byte, operands_are_values, operands_have_bytes, arguments_fit}
use Rattle.source_meaning.proofs.Sound.{size_of, IsNode, IsSound, after_is_sound, then_do_is_sound, within_bounds_is_sound, Nothing, put_is_sound, copy_is_sound, put_answer_is_sound, copy_at_is_sound, answer_at_is_sound, IsSettled, after_is_settled, returned_is_settled, where_laid_is_settled, unfit_is_settled, AreSoundCallees}
use Rattle.source_meaning.proofs.Updates.{AreFields, fields-are-read, picked-are-read}
use Rattle.source_meaning.proofs.Values.{IsNoStruct, size_at, combined_fits, number_is_long, struct_fits, typed_fits}

-- the type of each binding that no closure owns has a layout
abbrev pub AreBindingsLaidOut : Source → Type 0
AreBindingsLaidOut source = (b : ℕ) (ty : Ty) → binding_type source b ≡ Some ty → IsLaidOut source (Some ty)

-- an expression that is evaluated in the body, all of whose parts are plain, have layouts where they need them, and jump to open blocks
pub record IsFine (source : Source) (outer : List Opened) (e : ℕ) : Type 0 where
  pub evaluated : Evaluates source (root source) e
  pub jumps : JumpsFit source outer e
  pub plain : (f : ℕ) → Evaluates source e f → IsPlainNode source f
  pub laid_out : (f : ℕ) → NeedsLayout source e f → IsLaidOutNode source f
  pub bindings : AreBindingsLaidOut source

-- the same of an operand: a truth value needs no layout
pub record IsFineOperand (source : Source) (outer : List Opened) (e : ℕ) : Type 0 where
  pub evaluated : Evaluates source (root source) e
  pub jumps : JumpsFit source outer e
  pub plain : (f : ℕ) → Evaluates source e f → IsPlainNode source f
  pub laid_out : (is_truth (unadjusted source e) ≡ true) ⊎ ((f : ℕ) → NeedsLayout source e f → IsLaidOutNode source f)
  pub bindings : AreBindingsLaidOut source

-- the one element of a list
only_target : (one target : Target) → Contains (one ∷ []) target → one ≡ target
only_target one target (zero, less, is) = is
only_target one target (suc k, less, is) = absurd (omega arith)

-- a block that is open has a target, which a jump that means it finds
target_found : (label : Option LabelId) (targets : List Target) (opened : Opened) → meant label (map (λ target. target.opened) targets) ≡ Some opened → (target : Target) × (target_of label targets ≡ Some target) × Contains targets target × (target.opened ≡ opened)
unfolding meant target_of
target_found label [] opened is = absurd cc
target_found label (first ∷ rest) opened is = by_test (target_found label rest opened) (is_meant label first.opened) refl is
  where
    by_test : (meant label (map (λ target. target.opened) rest) ≡ Some opened → (target : Target) × (target_of label rest ≡ Some target) × Contains rest target × (target.opened ≡ opened)) → (test : Bool) → is_meant label first.opened ≡ test → (if test then Some first.opened else meant label (map (λ target. target.opened) rest)) ≡ Some opened → (target : Target) × (target_of label (first ∷ rest) ≡ Some target) × Contains (first ∷ rest) target × (target.opened ≡ opened)
    by_test later true means found =
        (first, ap (λ test. if test then Some first else target_of label rest) means, (0, omega arith, refl), (let same : first.opened ≡ opened = cc in same))
    by_test later false means found =
        let there = later found in
        (there.0, ap (λ test. if test then Some first else target_of label rest) means ∙ there.1, Contains-append_right (first ∷ []) rest there.0 there.2, there.3)

module _ (source : Source) (checked : IsChecked source.world) where
  -- what jumps in a part has a target, by what stands around the part
  part_jumps : (outer : List Opened) (e child : ℕ) (form : Option CoreExpr) → node source e ≡ form → Contains (parts_of (node source e)) child → JumpsFit source outer e → JumpsFit source (opened_in e form outer) child
  part_jumps outer e child form is contained jumps inner f evaluated =
      jumps inner f (part_in contained (subst (λ given. EvaluatesIn source (opened_in e given outer) child inner f) (sym is) evaluated))

  -- a part that is evaluated to a place, or into one
  part_is_fine : (outer : List Opened) (e child : ℕ) (form : Option CoreExpr) → node source e ≡ form → Contains (sized_parts source form) child → IsFine source outer e → IsFine source (opened_in e form outer) child
  part_is_fine outer e child form is sized fine =
      let needed : Contains (sized_parts source (node source e)) child = subst (λ given. Contains (sized_parts source given) child) (sym is) sized in
      let contained = sized_part_is_part source (node source e) child needed in
      record {
        evaluated = evaluates_then source fine.evaluated (part contained itself);
        jumps = part_jumps outer e child form is contained fine.jumps;
        plain = λ f rest. fine.plain f (part contained rest);
        laid_out = λ f rest. fine.laid_out f (inside needed rest);
        bindings = fine.bindings;
      }

  -- a part that is evaluated to an operand: it needs a layout where it is no truth value
  operand_is_fine : (outer : List Opened) (e child : ℕ) (form : Option CoreExpr) → node source e ≡ form → Contains (parts_of (node source e)) child → (is_truth (unadjusted source child) ≡ false → Contains (sized_parts source form) child) → IsFine source outer e → IsFineOperand source (opened_in e form outer) child
  operand_is_fine outer e child form is contained sized fine =
      record {
        evaluated = evaluates_then source fine.evaluated (part contained itself);
        jumps = part_jumps outer e child form is contained fine.jumps;
        plain = λ f rest. fine.plain f (part contained rest);
        laid_out = by_truth (is_truth (unadjusted source child)) refl;
        bindings = fine.bindings;
      }
    where
      by_truth : (test : Bool) → is_truth (unadjusted source child) ≡ test → (is_truth (unadjusted source child) ≡ true) ⊎ ((f : ℕ) → NeedsLayout source child f → IsLaidOutNode source f)
      by_truth true truth = inl truth
      by_truth false truth =
          inr (λ f rest. fine.laid_out f (inside (subst (λ given. Contains (sized_parts source given) child) (sym is) (sized truth)) rest))

  -- an operand that is no truth value is as any other expression
  fine_as_place : (outer : List Opened) (e : ℕ) → is_truth (unadjusted source e) ≡ false → IsFineOperand source outer e → IsFine source outer e
  fine_as_place outer e is fine = record { evaluated = fine.evaluated; jumps = fine.jumps; plain = fine.plain; laid_out = ⊎_elim (λ truth. absurd (false≢true (sym is ∙ truth))) (λ laid. laid) fine.laid_out; bindings = fine.bindings }

  length_of_bool : (ty : Ty) → IsBool ty → IsLengthOf ty 1
  length_of_bool BoolTy is_bool = refl
  length_of_bool (IntType ty) is_bool = absurd is_bool
  length_of_bool (UintType ty) is_bool = absurd is_bool
  length_of_bool _ is_bool = absurd is_bool

  -- a path to a cell of the type of an expression's value
  abbrev PathFits : ℕ → Path → Type 0
  PathFits e path = cell_type source path.cell ≡ node_type source e

  -- a place of an expression's value
  abbrev PlaceFits : ℕ → Place → Type 0
  PlaceFits e place = IsPlaceOf source place (node_type source e)

  -- a path to a cell of the expression's own type
  abbrev OwnFits : ℕ → Path → Type 0
  OwnFits e path = cell_type source path.cell ≡ own_type source e

  -- an operand, and operands, of expressions' types
  abbrev OperandFits : ℕ → Operand → Type 0
  OperandFits e operand = IsOperandOf source e operand

  abbrev OperandsFit : List ℕ → List Operand → Type 0
  OperandsFit operands given = AreOperandsOf source operands given

  -- the targets around an expression are the blocks that are open, and the path of each is of its type; the return path is of the
  -- root's
  record Stands (outer : List Opened) (around : Around) : Type 0 where
    opened : map (λ target. target.opened) around.targets ≡ outer
    fits : (target : Target) → Contains around.targets target → OwnFits target.opened.node target.path
    returns : PathFits (root source) around.result

  marks_stand : {outer : List Opened} {around : Around} (cells : List Cell) → Stands outer around → Stands outer (marking cells around)
  marks_stand cells stands = record { opened = stands.opened; fits = stands.fits; returns = stands.returns }

  record IsSoundLevel (outer : List Opened) (targets : List Target) (level : Level) : Type 0 where
    place : (e : ℕ) (store : Store) → IsFine source outer e → IsSized source store → IsSound source targets (PlaceFits e) (level.place e store)
    operand : (e : ℕ) (store : Store) → IsFineOperand source outer e → IsSized source store → IsSound source targets (OperandFits e) (level.operand e store)
    into : (e : ℕ) (path : Path) (store : Store) → IsFine source outer e → IsSized source store → PathFits e path → IsSound source targets Nothing (level.into e path store)
    own : (e : ℕ) (path : Path) (store : Store) → IsFine source outer e → IsSized source store → OwnFits e path → IsSound source targets Nothing (level.own e path store)

  no_fuel_is_sound : (outer : List Opened) (around : Around) → IsSoundLevel outer around.targets (no_fuel around)
  no_fuel_is_sound outer around = record { place = λ e store fine sized. tt; operand = λ e store fine sized. tt; into = λ e path store fine sized fits. tt; own = λ e path store fine sized fits. tt }

  -- the values of a number's type with a layout have a length that it may have
  scalar_size : (ty : Ty) → IsLaidOut source (Some ty) → IsNumber ty → IsLengthOf ty (size_at source (Some ty))
  scalar_size ty laid scalar = number_is_long source checked ty laid scalar

  laid_at : (outer : List Opened) (e : ℕ) (ty : Ty) → IsFine source outer e → own_type source e ≡ Some ty → IsLaidOut source (Some ty)
  laid_at outer e ty fine is = let laid = fine.laid_out e own in subst (IsLaidOut source) is laid.of_itself

  -- a call ends well where its callee does
  call_is_sound : (targets : List Target) (diverging : Bool) (called : Source) (path : Path) (store : Store) (end : End (List ℕ)) → IsSized source store → cell_size called Result ≡ cell_size source path.cell → IsSettled called end → IsSound source targets Nothing (call_ended diverging path store end)
  call_is_sound targets true called path store (Go value left cost) sized same settled = tt
  call_is_sound targets true called path store (Jumps to left cost) sized same settled = settled
  call_is_sound targets true called path store (Faults fault cost) sized same settled = tt
  call_is_sound targets true called path store Stuck sized same settled = settled
  call_is_sound targets true called path store (More cost) sized same settled = tt
  call_is_sound targets false called path store (Go value left cost) sized same settled =
      after_is_sound source targets Nothing cost _
      (then_do_is_sound source targets Nothing Nothing (put store path value) _ (put_is_sound source targets store path value sized (settled ∙ same)) (λ done last sized' is. (sized', tt)))
  call_is_sound targets false called path store (Jumps to left cost) sized same settled = settled
  call_is_sound targets false called path store (Faults fault cost) sized same settled = tt
  call_is_sound targets false called path store Stuck sized same settled = settled
  call_is_sound targets false called path store (More cost) sized same settled = tt

  -- what the result's cell of a callee holds first
  result_is_long : (called : Source) (diverging : Bool) (path : Path) (store : Store) → IsSized source store → cell_size called Result ≡ cell_size source path.cell → length (cond diverging (zeroed called Result) (store path.cell)) ≡ cell_size called Result
  result_is_long called true path store sized same = length-replicate (cell_size called Result) 0
  result_is_long called false path store sized same = sized.holds_all path.cell ∙ sym same

  entered_is_sound : (targets : List Target) (callees : Callees) (diverging : Bool) (called : Source) (bound : List ℕ) (given : List (List ℕ)) (path : Path) (store : Store) → IsSized source store → cell_size called Result ≡ cell_size source path.cell →
      parameters called ≡ Some bound → AreFor called bound given → ((start : Store) → IsSized called start → IsSettled called (callees called start)) → IsSound source targets Nothing (entered_into callees diverging (Some called) (Some given) path store)
  entered_is_sound targets callees diverging called bound given path store sized same binds fits settle =
      let from = started_is_sized called bound (cond diverging (zeroed called Result) (store path.cell)) given binds (result_is_long called diverging path store sized same) fits in
      subst (λ start. IsSound source targets Nothing (entered_from callees diverging called start path store)) (sym from.1)
      (call_is_sound targets diverging called path store (callees called from.0) sized same (settle from.0 from.2))

  -- a callee that can't be entered ends well, whatever its arguments are
  unlaid_is_sound : (targets : List Target) (callees : Callees) (diverging : Bool) (called : Source) (start : Option Store) (path : Path) (store : Store) → IsSized source store → cell_size called Result ≡ cell_size source path.cell →
      is_laid_out called ≡ false → ((from : Store) → IsSettled called (callees called from)) → IsSound source targets Nothing (entered_from callees diverging called start path store)
  unlaid_is_sound targets callees diverging called (Some start) path store sized same unlaid settle = call_is_sound targets diverging called path store (callees called start) sized same (settle start)
  unlaid_is_sound targets callees diverging called None path store sized same unlaid settle =
      call_is_sound targets diverging called path store (unfit_meaning (is_laid_out called) called) sized same (unfit_is_settled called (is_laid_out called) unlaid)

  -- the callee of a plain call ends well, from the arguments that the call's operands are
  callee_is_sound : (callees : Callees) → AreSoundCallees source callees → (targets : List Target) (diverging : Bool) (e : ℕ) (callee : Option ℕ) (args : List ℕ) (ty : Ty) (form : IsPlainCall source e callee args ty) → Calls source form.called →
      (given : List Operand) (path : Path) (store : Store) → IsSized source store → cell_size form.called Result ≡ cell_size source path.cell → OperandsFit args given → some_out source store given ≡ false →
      IsSound source targets Nothing (entered_into callees diverging (Some form.called) (operands_bytes source store given) path store)
  callee_is_sound callees callees_are targets diverging e callee args ty form calls given path store sized same fit within = by_test (is_laid_out form.called) refl
    where
      by_test : (test : Bool) → is_laid_out form.called ≡ test → IsSound source targets Nothing (entered_into callees diverging (Some form.called) (operands_bytes source store given) path store)
      by_test true laid =
          let world = called_world source calls.e calls.callee form.called calls.enters in
          let tested = layouts_are_tested form.called (called_is_checked source calls.e calls.callee form.called checked calls.enters) in
          let read = arguments_fit source checked form.called world (tested.0 laid) form.row.sig.params args form.bound given store sized form.arguments_have form.parameters_have fit within in
          subst (λ bytes. IsSound source targets Nothing (entered_into callees diverging (Some form.called) bytes path store)) (sym read.1)
          (entered_is_sound targets callees diverging form.called form.bound read.0 path store sized same form.binds read.2 (callees_are.settle form.called calls))
      by_test false unlaid =
          let read = operands_have_bytes source checked form.row.sig.params args given store sized form.arguments_have fit within in
          subst (λ bytes. IsSound source targets Nothing (entered_into callees diverging (Some form.called) bytes path store)) (sym read.1)
          (unlaid_is_sound targets callees diverging form.called _ path store sized same unlaid (callees_are.unlaid form.called calls unlaid))

  -- a literal has the bytes of its type
  number_has_bytes : (outer : List Opened) (e : ℕ) (z : ℤ) → IsFine source outer e → (bytes : List ℕ) × (option_map (λ layout. low_bytes layout.size z) (own_layout source e) ≡ Some bytes) × (length bytes ≡ size_of source e)
  number_has_bytes outer e z fine =
      let both = fine.laid_out e own in
      let laid = both.of_itself in
      let size : size_of source e ≡ laid.layout.size = ap (λ given. unwrap_or (option_map (λ layout. layout.size) given) 0) laid.found in
      (low_bytes laid.layout.size z, ap (option_map (λ layout. low_bytes layout.size z)) laid.found, length-low_bytes laid.layout.size z ∙ sym size)

  literal_has_size : (outer : List Opened) (e : ℕ) (given : CoreLiteral) (ty : Ty) → IsFine source outer e → own_type source e ≡ Some ty → IsPlainLiteral given ty → (bytes : List ℕ) × (literal_bytes source e given ≡ Some bytes) × (length bytes ≡ size_of source e)
  unfolding literal_bytes
  literal_has_size outer e (Truth test) ty fine is plain =
      (truth_byte test ∷ [], refl, sym (ap (size_at source) is ∙ bool_length_is_one ty (size_at source (Some ty)) plain (scalar_size ty (laid_at outer e ty fine is) (bool_is_number ty plain))))
  literal_has_size outer e (Number number) ty fine is plain = number_has_bytes outer e number fine
  literal_has_size outer e (Character code) ty fine is plain = number_has_bytes outer e (pos code) fine

  literal_operand_is_sound : (targets : List Target) (e : ℕ) (ty : Ty) (store : Store) (given : Option (List ℕ)) (bytes : List ℕ) → IsSized source store → own_type source e ≡ Some ty → node_type source e ≡ Some ty → given ≡ Some bytes → IsLiteralOf source ty bytes → IsSound source targets (OperandFits e) (literal_operand source e store given)
  literal_operand_is_sound targets e ty store given bytes sized own_is is is' fits =
      subst (λ g. IsSound source targets (OperandFits e) (literal_operand source e store g)) (sym is')
      (subst (λ t. IsSound source targets (OperandFits e) (elim t [ Some found ↦ Go (Literally found bytes) store (constant_cost source e) | None ↦ Stuck ])) (sym own_is) (sized, (is, fits)))

  put_literal_is_sound : (targets : List Target) (e : ℕ) (store : Store) (path : Path) (given : Option (List ℕ)) (bytes : List ℕ) → IsSized source store → given ≡ Some bytes → length bytes ≡ cell_size source path.cell → IsSound source targets Nothing (put_literal source e store path given)
  put_literal_is_sound targets e store path given bytes sized is fits =
      subst (λ g. IsSound source targets Nothing (put_literal source e store path g)) (sym is)
      (after_is_sound source targets Nothing (constant_cost source e) (put store path bytes) (put_is_sound source targets store path bytes sized fits))

  -- what lies at a place goes to a cell of its type
  copied_is_sound : (targets : List Target) (place : Place) (ty : Option Ty) (path : Path) (store : Store) → IsSized source store → IsPlaceOf source place ty → cell_type source path.cell ≡ ty → IsSound source targets Nothing (read_into source (At place) path store)
  copied_is_sound targets place ty path store sized fits is =
      within_bounds_is_sound source targets Nothing (is_out_of_bounds source store place) _ (λ within.
      copy_is_sound source targets store path (place_bytes source store place) sized
      (subst (λ size. AreBytes size (place_bytes source store place)) (sym (ap (size_at source) is)) (place_has_bytes source store place ty sized fits within)))

  -- the binding of a plain `let` has the initializer's type
  bind_is_sound : (targets : List Target) (pat e : ℕ) (place : Place) (store : Store) → IsPlainLet source pat e → IsSized source store → PlaceFits e place → IsSound source targets Nothing (bind source (pattern source pat) place store)
  bind_is_sound targets pat e place store plain sized fits =
      subst (λ given. IsSound source targets Nothing (bind source given place store)) (sym plain.binds)
      (copied_is_sound targets place (node_type source e) (record { cell = Binding plain.binding.0 }) store sized fits (plain.binding_has ∙ sym plain.initializer_has))

  -- the place of a binding of a type
  bound_place_is_sound : (targets : List Target) (named : Option BindingId) (binding : BindingId) (ty : Ty) (store : Store) → AreBindingsLaidOut source → named ≡ Some binding → binding_type source binding.0 ≡ Some ty → IsSized source store →
      IsSound source targets (λ place. IsPlaceOf source place (Some ty)) (bound_place named store)
  bound_place_is_sound targets named binding ty store laid is has sized =
      subst (λ given. IsSound source targets (λ place. IsPlaceOf source place (Some ty)) (bound_place given store)) (sym is)
      (sized, whole_is_place source (Binding binding.0) (Some ty) has (laid binding.0 ty has))

  -- what the node of a fine expression is
  form_of : (e : ℕ) (form : Option CoreExpr) → node source e ≡ form → (plain : IsPlainNode source e) → HasPlainForm source e form plain.ty
  form_of e form is plain = subst (λ given. HasPlainForm source e given plain.ty) is plain.form

  -- what the node of a fine expression is that isn't adjusted, and its type
  form_at : (e : ℕ) (form : CoreExpr) → unadjusted source e ≡ Some form → (plain : IsPlainNode source e) → HasPlainForm source e (Some form) plain.ty × (node_type source e ≡ Some plain.ty)
  form_at e form is plain =
      let found = unadjusted-plain source e form is in
      (form_of e (Some form) found.1 plain, undiverted-type source e found.0 ∙ plain.has_type)

  -- a statement's part, and a tail, are evaluated to places or into the block's
  block_part_is_fine : (outer : List Opened) (e : ℕ) (statements : List Statement) (tail : Option ExprId) → node source e ≡ Some (expr.Block statements tail) → IsFine source outer e → (child : ℕ) → Contains (flat_map statement_parts statements ++ optional tail) child → IsFine source outer child
  block_part_is_fine outer e statements tail is fine child within =
      part_is_fine outer e child (Some (expr.Block statements tail)) is (sized_block_parts source statements tail child within) fine

  module _ (aggregates : HasAggregates source.world) (below : Levels) (sound : (outer : List Opened) (around : Around) → Stands outer around → IsSoundLevel outer around.targets (below around)) where
    -- what an element leads to from a place, after its index was evaluated where there is one
    stepped_is_sound : (outer : List Opened) (around : Around) (stands : Stands outer around) (base : ℕ) (elem : PlaceElem) (ty : Ty) (place : Place) (store : Store) → (plain : IsPlainField source base elem ty) → HasOwnIndex source elem →
        ((child : ℕ) → Contains (elem_parts elem) child → IsFine source outer child) → IsPlaceOf source place (Some plain.base_ty) → IsSized source store → IsSound source around.targets (λ found. IsPlaceOf source found (Some ty)) (stepped source below around base elem place store)
    stepped_is_sound outer around stands base elem ty place store plain indexed parts fits sized = by_elem elem plain.has_elem plain.has_index indexed parts
      where
        by_elem : (given : PlaceElem) → HasElem source.world given plain.base_ty ty → HasPlainIndex source given → HasOwnIndex source given → ((child : ℕ) → Contains (elem_parts given) child → IsFine source outer child) →
            IsSound source around.targets (λ found. IsPlaceOf source found (Some ty)) (stepped source below around base given place store)
        by_elem (Part index) has plain_index own_index fine = (sized, part_is_place source checked aggregates place plain.base_ty (Part index) ty fits has tt)
        by_elem (FieldOf field) has plain_index own_index fine = (sized, part_is_place source checked aggregates place plain.base_ty (FieldOf field) ty fits has tt)
        by_elem (ElementAt n index) has plain_index own_index fine =
            let behind = marking (IndexOf n ∷ []) (marking (marked_as_place source base) around) in
            then_do_is_sound source around.targets Nothing (λ found. IsPlaceOf source found (Some ty)) ((below behind).into index _ store) _
            ((sound outer behind (marks_stand _ (marks_stand _ stands))).into index _ store (fine index (first_is_contained index [])) sized (index_cell_type source n index own_index))
            (λ done later sized' is. (sized', part_is_place source checked aggregates place plain.base_ty (ElementAt n index) ty fits has (has_index_cell source (ElementAt n index) own_index plain_index)))

    -- the place of a field or an element, by that of its base
    part_place_is_sound : (outer : List Opened) (around : Around) (stands : Stands outer around) (base : ℕ) (elem : PlaceElem) (ty : Ty) (store : Store) → IsPlainField source base elem ty → HasOwnIndex source elem →
        ((child : ℕ) → Contains (base ∷ elem_parts elem) child → IsFine source outer child) → IsSized source store → IsSound source around.targets (λ place. IsPlaceOf source place (Some ty)) (field_place source below around base elem store)
    part_place_is_sound outer around stands base elem ty store plain indexed parts sized =
        then_do_is_sound source around.targets (PlaceFits base) (λ place. IsPlaceOf source place (Some ty)) ((below around).place base store) _
        ((sound outer around stands).place base store (parts base (first_is_contained base (elem_parts elem))) sized) (λ place later sized' fits.
        stepped_is_sound outer around stands base elem ty place later plain indexed (λ child within. parts child (rest_is_contained base (elem_parts elem) child within)) (subst (IsPlaceOf source place) plain.base_has fits) sized')

    -- a field is a part of its base's place, and has its own type
    field_is_sound : (outer : List Opened) (around : Around) (stands : Stands outer around) (e base : ℕ) (field : PlaceElem) (store : Store) → node source e ≡ Some (expr.Field base field) → IsFine source outer e → IsSized source store →
        IsSound source around.targets (λ place. IsPlaceOf source place (own_type source e)) (field_place source below around base field store)
    field_is_sound outer around stands e base field store is fine sized =
        let plain = fine.plain e itself in
        subst (λ ty. IsSound source around.targets (λ place. IsPlaceOf source place ty) (field_place source below around base field store)) (sym plain.has_type)
        (part_place_is_sound outer around stands base field plain.ty store (form_of e _ is plain) (node_has_index source e base field is) (λ child within.
        part_is_fine outer e child (Some (expr.Field base field)) is (subst (λ parts. Contains parts child) (sym (sized_field_parts source base field)) within) fine) sized)

    place_is_sound : (outer : List Opened) (around : Around) (stands : Stands outer around) (e : ℕ) (form : Option CoreExpr) (store : Store) → unadjusted source e ≡ form → IsFine source outer e → IsSized source store → IsSound source around.targets (PlaceFits e) (place_of source below around e form store)
    place_is_sound outer around stands e (Some (expr.Path name)) store is fine sized =
        let plain = fine.plain e itself in
        let form = form_at e _ is plain in
        let laid = fine.laid_out e own in
        subst (λ named. IsSound source around.targets (PlaceFits e) (named_place named store)) (sym form.0.named)
        (sized, whole_is_place source (Binding form.0.binding.0) (node_type source e) (form.0.binding_has ∙ sym form.1) laid.of_value)
    place_is_sound outer around stands e (Some (expr.Field base field)) store is fine sized =
        let found = unadjusted-plain source e _ is in
        subst (λ ty. IsSound source around.targets (λ place. IsPlaceOf source place ty) (field_place source below around base field store)) (sym (undiverted-type source e found.0))
        (field_is_sound outer around stands e base field store found.1 fine sized)
    place_is_sound outer around stands e _ store is fine sized =
        let laid = fine.laid_out e own in
        then_do_is_sound source around.targets Nothing (PlaceFits e) ((below (marking (Node e ∷ []) around)).into e _ store) _ ((sound outer (marking (Node e ∷ []) around) (marks_stand (Node e ∷ []) stands)).into e _ store fine sized refl)
        (λ done later sized' is'. (sized', whole_is_place source (Node e) (node_type source e) refl laid.of_value))

    as_place_is_sound : (outer : List Opened) (around : Around) (stands : Stands outer around) (e : ℕ) (store : Store) → is_truth (unadjusted source e) ≡ false → IsFineOperand source outer e → IsSized source store → IsSound source around.targets (OperandFits e) (then_do ((below around).place e store) (λ place later. Go (At place) later no_cost))
    as_place_is_sound outer around stands e store truth fine sized =
        then_do_is_sound source around.targets (PlaceFits e) (OperandFits e) ((below around).place e store) _ ((sound outer around stands).place e store (fine_as_place outer e truth fine) sized) (λ place later sized' fits. (sized', fits))

    -- a literal whose bytes are those of a number
    number_is_sound : (outer : List Opened) (around : Around) (e : ℕ) (given : CoreLiteral) (number : ℤ) (store : Store) → unadjusted source e ≡ Some (expr.Literal given) → is_truth (Some (expr.Literal given)) ≡ false → IsFineOperand source outer e → IsSized source store →
        IsSound source around.targets (OperandFits e) (literal_operand source e store (option_map (λ layout. low_bytes layout.size number) (own_layout source e)))
    number_is_sound outer around e given number store is no_truth fine sized =
        let plain = fine.plain e itself in
        let form = form_at e _ is plain in
        let as_place = fine_as_place outer e (ap is_truth is ∙ no_truth) fine in
        let bytes = number_has_bytes outer e number as_place in
        let size : length bytes.0 ≡ size_at source (Some plain.ty) = bytes.2 ∙ ap (size_at source) plain.has_type in
        literal_operand_is_sound around.targets e plain.ty store (option_map (λ layout. low_bytes layout.size number) (own_layout source e)) bytes.0 sized plain.has_type form.1 bytes.1
        (record { long = λ scalar. subst (IsLengthOf plain.ty) (sym size) (scalar_size plain.ty (laid_at outer e plain.ty as_place plain.has_type) scalar); size = inl size })

    operand_is_sound : (outer : List Opened) (around : Around) (stands : Stands outer around) (e : ℕ) (form : Option CoreExpr) (store : Store) → unadjusted source e ≡ form → IsFineOperand source outer e → IsSized source store → IsSound source around.targets (OperandFits e) (operand_of source below around e form store)
    unfolding literal_bytes
    operand_is_sound outer around stands e (Some (expr.Literal (Truth test))) store is fine sized =
        let plain = fine.plain e itself in
        let form = form_at e _ is plain in
        literal_operand_is_sound around.targets e plain.ty store (Some (truth_byte test ∷ [])) (truth_byte test ∷ []) sized plain.has_type form.1 refl (record { long = λ scalar. length_of_bool plain.ty form.0; size = inr form.0 })
    operand_is_sound outer around stands e (Some (expr.Literal (Number number))) store is fine sized = number_is_sound outer around e (Number number) number store is refl fine sized
    operand_is_sound outer around stands e (Some (expr.Literal (Character code))) store is fine sized = number_is_sound outer around e (Character code) (pos code) store is refl fine sized
    operand_is_sound outer around stands e (Some (expr.Path name)) store is fine sized = as_place_is_sound outer around stands e store (ap is_truth is) fine sized
    operand_is_sound outer around stands e (Some (expr.Field base field)) store is fine sized = as_place_is_sound outer around stands e store (ap is_truth is) fine sized
    operand_is_sound outer around stands e (Some (expr.Strict operation operands)) store is fine sized = as_place_is_sound outer around stands e store (ap is_truth is) fine sized
    operand_is_sound outer around stands e (Some expr.UnitStruct) store is fine sized = as_place_is_sound outer around stands e store (ap is_truth is) fine sized
    operand_is_sound outer around stands e (Some (expr.Update base id args sources operands)) store is fine sized = as_place_is_sound outer around stands e store (ap is_truth is) fine sized
    operand_is_sound outer around stands e (Some (expr.Logic op left right)) store is fine sized = as_place_is_sound outer around stands e store (ap is_truth is) fine sized
    operand_is_sound outer around stands e (Some (expr.If condition then_branch else_branch)) store is fine sized = as_place_is_sound outer around stands e store (ap is_truth is) fine sized
    operand_is_sound outer around stands e (Some (expr.Assign to value)) store is fine sized = as_place_is_sound outer around stands e store (ap is_truth is) fine sized
    operand_is_sound outer around stands e (Some (expr.Compound op to value)) store is fine sized = as_place_is_sound outer around stands e store (ap is_truth is) fine sized
    operand_is_sound outer around stands e (Some (expr.Block statements tail)) store is fine sized = as_place_is_sound outer around stands e store (ap is_truth is) fine sized
    operand_is_sound outer around stands e (Some (expr.Labelled label statements tail)) store is fine sized = as_place_is_sound outer around stands e store (ap is_truth is) fine sized
    operand_is_sound outer around stands e (Some (expr.Loop label body)) store is fine sized = as_place_is_sound outer around stands e store (ap is_truth is) fine sized
    operand_is_sound outer around stands e (Some (expr.Continue label)) store is fine sized = as_place_is_sound outer around stands e store (ap is_truth is) fine sized
    operand_is_sound outer around stands e (Some (expr.Break label value)) store is fine sized = as_place_is_sound outer around stands e store (ap is_truth is) fine sized
    operand_is_sound outer around stands e (Some (expr.Return value)) store is fine sized = as_place_is_sound outer around stands e store (ap is_truth is) fine sized
    operand_is_sound outer around stands e (Some (expr.Call callee args)) store is fine sized = as_place_is_sound outer around stands e store (ap is_truth is) fine sized
    operand_is_sound outer around stands e None store is fine sized = as_place_is_sound outer around stands e store (ap is_truth is) fine sized

    operands_are_sound : (outer : List Opened) (around : Around) (stands : Stands outer around) (operands : List ℕ) (store : Store) → ((e : ℕ) → Contains operands e → IsFineOperand source outer e) → IsSized source store → IsSound source around.targets (OperandsFit operands) (operands_of source below around operands store)
    unfolding operands_of
    operands_are_sound outer around stands [] store fine sized = (sized, tt)
    operands_are_sound outer around stands (e ∷ rest) store fine sized =
        then_do_is_sound source around.targets (OperandFits e) (OperandsFit (e ∷ rest)) ((below around).operand e store) _ ((sound outer around stands).operand e store (fine e (first_is_contained e rest)) sized) (λ first later sized' fits.
        then_do_is_sound source around.targets (OperandsFit rest) (OperandsFit (e ∷ rest)) (operands_of source below (marking (marked_as_operand source e) around) rest later) _ (operands_are_sound outer (marking (marked_as_operand source e) around) (marks_stand (marked_as_operand source e) stands) rest later (λ child within. fine child (rest_is_contained e rest child within)) sized') (λ others last sized'' fit. (sized'', (fits, fit))))

    -- a struct is made of operands that are values of its fields' types
    made_is_sound : (targets : List Target) (id : StructId) (args : GenericArgs) (rows : List FieldRow) (found : Option (List Operand)) (ty : Ty) (path : Path) (store : Store) → IsSized source store → cell_type source path.cell ≡ Some ty → IsLaidOut source (Some ty) →
        ty ≡ Adt (adt.StructId id) args → fields_of source.world (variant.StructId id) ≡ Some rows → AreFields source store args rows found → IsSound source targets Nothing (made_into source id args found path store)
    made_is_sound targets id args rows found ty path store sized fits laid is there fields =
        subst (λ given. IsSound source targets Nothing (made_into source id args given path store)) (sym fields.is)
        (within_bounds_is_sound source targets Nothing (some_out source store fields.operands) _ (λ within.
        let read = fields.are within in
        put_answer_is_sound source targets store path _ sized
        (subst (λ size. Fits size (struct_of (layout_of source.world (Adt (adt.StructId id) args)) (values_of source store fields.operands))) (sym (ap (size_at source) fits))
        (subst (λ values. Fits (size_at source (Some ty)) (struct_of (layout_of source.world (Adt (adt.StructId id) args)) values)) (sym read.read)
        (struct_fits source checked aggregates id args rows read.types read.values ty laid is there read.typed read.are)))))

    -- and any other operation computes a value of its type
    computed_is_sound : (targets : List Target) (e : ℕ) (operation : Operation) → IsNoStruct operation → (operands : List ℕ) (types : List Ty) (given : List Operand) (ty : Ty) (path : Path) (store : Store) → IsSized source store → own_type source e ≡ Some ty → cell_type source path.cell ≡ Some ty → IsLaidOut source (Some ty) →
        HaveTypes source operands types → IsTyped source.world operation types ty → OperandsFit operands given → IsSound source targets Nothing (within_bounds (some_out source store given) (put_answer store path (answered_for source.world (own_type source e) operation (values_of source store given))))
    computed_is_sound targets e operation other operands types given ty path store sized is fits laid have typed fit =
        within_bounds_is_sound source targets Nothing (some_out source store given) _ (λ within.
        let read = operands_are_values source checked operands types given store sized have fit within in
        put_answer_is_sound source targets store path _ sized
        (subst (λ size. Fits size (answered_for source.world (own_type source e) operation (values_of source store given))) (sym (ap (size_at source) fits))
        (subst (λ values. Fits (size_at source (Some ty)) (answered_for source.world (own_type source e) operation values)) (sym read.1)
        (subst (λ own_ty. Fits (size_at source (Some ty)) (answered source.world own_ty operation read.0)) (sym is)
        (typed_fits source checked aggregates operation other types read.0 ty laid typed read.2)))))

    operated_is_sound : (targets : List Target) (e : ℕ) (operation : Operation) (operands : List ℕ) (types : List Ty) (given : List Operand) (ty : Ty) (path : Path) (store : Store) → IsSized source store → own_type source e ≡ Some ty → cell_type source path.cell ≡ Some ty → IsLaidOut source (Some ty) →
        HaveTypes source operands types → IsTyped source.world operation types ty → OperandsFit operands given → IsSound source targets Nothing (operated_into source e operation given path store)
    operated_is_sound targets e (MakeStruct id args places) operands types given ty path store sized is fits laid have typed fit =
        made_is_sound targets id args typed.fields (picked places given) ty path store sized fits laid typed.is typed.found (picked-are-read source checked aggregates store sized operands types given have fit args typed.fields places typed.given typed.picks typed.each)
    operated_is_sound targets e operation operands types given ty path store sized is fits laid have typed fit = computed_is_sound targets e operation tt operands types given ty path store sized is fits laid have typed fit

    strict_is_sound : (outer : List Opened) (around : Around) (stands : Stands outer around) (e : ℕ) (operation : Operation) (operands : List ℕ) (path : Path) (store : Store) → node source e ≡ Some (expr.Strict operation operands) → IsFine source outer e → IsSized source store → OwnFits e path → IsSound source around.targets Nothing (strict_into source below around e operation operands path store)
    strict_is_sound outer around stands e operation operands path store is fine sized fits =
        let plain = fine.plain e itself in
        let form = form_of e _ is plain in
        then_do_is_sound source around.targets (OperandsFit operands) Nothing (operands_of source below around operands store) _ (operands_are_sound outer around stands operands store (λ child within.
        operand_is_fine outer e child (Some (expr.Strict operation operands)) is (operand_is_part source e operation operands child is within) (operand_is_sized source operands child within) fine) sized) (λ given later sized' fit.
        operated_is_sound around.targets e operation operands form.types given plain.ty path later sized' plain.has_type (fits ∙ plain.has_type) (laid_at outer e plain.ty fine plain.has_type) form.operands_have form.typed fit)

    -- the fields of a struct that has a base are values of their types
    update_is_sound : (outer : List Opened) (around : Around) (stands : Stands outer around) (e base : ℕ) (id : StructId) (args : GenericArgs) (sources : List FieldSource) (operands : List ℕ) (path : Path) (store : Store) → node source e ≡ Some (expr.Update base id args sources operands) → IsFine source outer e → IsSized source store → OwnFits e path →
        IsSound source around.targets Nothing (update_into source below around base id args sources operands path store)
    update_is_sound outer around stands e base id args sources operands path store is fine sized fits =
        let plain = fine.plain e itself in
        let form = form_of e _ is plain in
        let whole = Some (expr.Update base id args sources operands) in
        let behind = marking (marked_as_place source base) around in
        let base_is_fine = part_is_fine outer e base whole is (first_is_contained base (flat_map (sized_part source) (map step.Operand operands))) fine in
        then_do_is_sound source around.targets (PlaceFits base) Nothing ((below around).place base store) _ ((sound outer around stands).place base store base_is_fine sized) (λ from later sized' at.
        then_do_is_sound source around.targets (OperandsFit operands) Nothing (operands_of source below behind operands later) _ (operands_are_sound outer behind (marks_stand _ stands) operands later (λ child within.
        operand_is_fine outer e child whole is (update_operand_is_part source e base id args sources operands child is within) (λ truth. rest_is_contained base _ child (operand_is_sized source operands child within truth)) fine) sized') (λ given last sized'' fit.
        let base_at = subst (IsPlaceOf source from) form.base_has at in
        let fields = fields-are-read source checked aggregates last sized'' from plain.ty base_at operands form.types given form.operands_have fit args form.fields sources form.each in
        made_is_sound around.targets id args form.fields (field_operands from given sources) plain.ty path last sized'' (fits ∙ plain.has_type) (laid_at outer e plain.ty fine plain.has_type) form.is form.found fields))

    statement_is_sound : (outer : List Opened) (around : Around) (stands : Stands outer around) (given : Statement) (store : Store) → IsPlainStatement source given → ((child : ℕ) → Contains (statement_parts given) child → IsFine source outer child) → IsSized source store → IsSound source around.targets Nothing (statement_of source (below around) given store)
    statement_is_sound outer around stands (statement.Let pat (Some e) None) store plain parts sized =
        then_do_is_sound source around.targets (PlaceFits e.0) Nothing ((below around).place e.0 store) _ ((sound outer around stands).place e.0 store (parts e.0 (first_is_contained e.0 [])) sized) (λ place later sized' fits. bind_is_sound around.targets pat.0 e.0 place later plain sized' fits)
    statement_is_sound outer around stands (statement.Let pat (Some e) (Some other)) store plain parts sized = absurd plain
    statement_is_sound outer around stands (statement.Let pat None other) store plain parts sized = absurd plain
    statement_is_sound outer around stands (statement.Expr e has_semi) store plain parts sized =
        then_do_is_sound source around.targets (PlaceFits e.0) Nothing ((below around).place e.0 store) _ ((sound outer around stands).place e.0 store (parts e.0 (first_is_contained e.0 [])) sized) (λ place later sized' fits. (sized', tt))
    statement_is_sound outer around stands statement.Item store plain parts sized = absurd plain

    statements_are_sound : (outer : List Opened) (around : Around) (stands : Stands outer around) (statements : List Statement) (store : Store) → All (IsPlainStatement source) statements → ((child : ℕ) → Contains (flat_map statement_parts statements) child → IsFine source outer child) → IsSized source store → IsSound source around.targets Nothing (statements_of source below around statements store)
    unfolding statements_of
    statements_are_sound outer around stands [] store plain parts sized = (sized, tt)
    statements_are_sound outer around stands (first ∷ rest) store plain parts sized =
        then_do_is_sound source around.targets Nothing Nothing (statement_of source (below around) first store) _ (statement_is_sound outer around stands first store (All-head (IsPlainStatement source) first rest plain) (λ child within.
        parts child (Contains-append_left (statement_parts first) (flat_map statement_parts rest) child within)) sized) (λ done later sized' is.
        statements_are_sound outer (marking (marked_by_statement source first) around) (marks_stand (marked_by_statement source first) stands) rest later (All-tail (IsPlainStatement source) first rest plain) (λ child within.
        parts child (Contains-append_right (statement_parts first) (flat_map statement_parts rest) child within)) sized')

    tail_is_sound : (outer : List Opened) (around : Around) (stands : Stands outer around) (tail : Option ExprId) (ty : Ty) (path : Path) (store : Store) → IsPlainTail source tail ty → cell_type source path.cell ≡ Some ty → ((child : ℕ) → Contains (optional tail) child → IsFine source outer child) → IsSized source store → IsSound source around.targets Nothing (tail_into (below around) tail path store)
    tail_is_sound outer around stands (Some e) ty path store plain fits parts sized = (sound outer around stands).into e.0 path store (parts e.0 (first_is_contained e.0 [])) sized (fits ∙ sym plain)
    tail_is_sound outer around stands None ty path store plain fits parts sized = (sized, tt)

    branched_is_sound : (targets : List Target) (branch : End (Unit {0})) → IsSound source targets Nothing branch → IsSound source targets Nothing (branched branch)
    branched_is_sound targets branch is =
        after_is_sound source targets Nothing (turns_alone 1) _ (then_do_is_sound source targets Nothing Nothing branch _ is (λ done later sized done_is. (sized, tt)))

    decided_is_sound : (outer : List Opened) (around : Around) (stands : Stands outer around) (left : Operand) (right : ℕ) (test : Bool) (path : Path) (store : Store) → IsFine source outer right → IsSized source store → PathFits right path → AreBytes (cell_size source path.cell) (operand_bytes source store left) → IsSound source around.targets Nothing (decided_into source (below around) left right (Some test) path store)
    decided_is_sound outer around stands left right true path store fine sized fits there =
        after_is_sound source around.targets Nothing (reading_cost source left) _ (within_bounds_is_sound source around.targets Nothing (operand_out source store left) _ (λ within. copy_is_sound source around.targets store path (operand_bytes source store left) sized there))
    decided_is_sound outer around stands left right false path store fine sized fits there = (sound outer around stands).into right path store fine sized fits

    logic_is_sound : (outer : List Opened) (around : Around) (stands : Stands outer around) (e : ℕ) (op : LogicOp) (left right : ℕ) (path : Path) (store : Store) → node source e ≡ Some (expr.Logic op left right) → IsFine source outer e → IsSized source store → OwnFits e path → IsSound source around.targets Nothing (logic_into source below around op left right path store)
    logic_is_sound outer around stands e op left right path store is fine sized fits =
        let plain = fine.plain e itself in
        let form = form_of e _ is plain in
        let is_bool : own_type source e ≡ Some BoolTy = plain.has_type ∙ ap Some form.typed in
        let size : cell_size source path.cell ≡ 1 = ap (size_at source) (fits ∙ is_bool) ∙ scalar_size BoolTy (laid_at outer e BoolTy fine is_bool) tt in
        let left_is_fine = operand_is_fine outer e left (Some (expr.Logic op left right)) is (logic_operand_is_part source e op left right left is (first_is_contained left (right ∷ []))) (first_is_sized source left (step.Into right ∷ [])) fine in
        then_do_is_sound source around.targets (OperandFits left) Nothing ((below around).operand left store) _ ((sound outer around stands).operand left store left_is_fine sized) (λ given later sized' fit.
        within_bounds_is_sound source around.targets Nothing (operand_out source later given) _ (λ within.
        let byte = truth_has_byte source checked left given later sized' form.left_has fit within in
        let behind = marking (marked_as_operand source left) around in
        let decides = byte_decides (deciding_byte op) (operand_bytes source later given) byte in
        branched_is_sound around.targets _
        (subst (λ test. IsSound source around.targets Nothing (decided_into source (below behind) given right test path later)) (sym decides.1)
        (decided_is_sound outer behind (marks_stand _ stands) given right decides.0 path later (part_is_fine outer e right (Some (expr.Logic op left right)) is (right_is_sized source op left right) fine) sized' (fits ∙ is_bool ∙ sym form.right_has) (subst (λ count. AreBytes count (operand_bytes source later given)) (sym size) byte)))))

    branch_is_sound : (outer : List Opened) (around : Around) (stands : Stands outer around) (then_branch : ℕ) (else_branch : Option ExprId) (test : Bool) (ty : Ty) (path : Path) (store : Store) → node_type source then_branch ≡ Some ty → IsPlainTail source else_branch ty → cell_type source path.cell ≡ Some ty → ((child : ℕ) → Contains (then_branch ∷ optional else_branch) child → IsFine source outer child) → IsSized source store → IsSound source around.targets Nothing (branch_into source below around then_branch else_branch (Some test) path store)
    branch_is_sound outer around stands then_branch else_branch true ty path store has plain fits parts sized =
        (sound outer around stands).into then_branch path store (parts then_branch (first_is_contained then_branch (optional else_branch))) sized (fits ∙ sym has)
    branch_is_sound outer around stands then_branch else_branch false ty path store has plain fits parts sized =
        tail_is_sound outer (marking (marked source then_branch) around) (marks_stand (marked source then_branch) stands) else_branch ty path store plain fits (λ child within. parts child (rest_is_contained then_branch (optional else_branch) child within)) sized

    if_is_sound : (outer : List Opened) (around : Around) (stands : Stands outer around) (e condition then_branch : ℕ) (else_branch : Option ExprId) (path : Path) (store : Store) → node source e ≡ Some (expr.If condition then_branch else_branch) → IsFine source outer e → IsSized source store → OwnFits e path → IsSound source around.targets Nothing (if_into source below around condition then_branch else_branch path store)
    if_is_sound outer around stands e condition then_branch else_branch path store is fine sized fits =
        let plain = fine.plain e itself in
        let form = form_of e _ is plain in
        let whole = Some (expr.If condition then_branch else_branch) in
        let condition_is_fine = operand_is_fine outer e condition whole is (if_part_is_part source e condition then_branch else_branch condition is (first_is_contained condition (then_branch ∷ optional else_branch))) (first_is_sized source condition (step.Into then_branch ∷ tail_steps else_branch)) fine in
        then_do_is_sound source around.targets (OperandFits condition) Nothing ((below around).operand condition store) _ ((sound outer around stands).operand condition store condition_is_fine sized) (λ given later sized' fit.
        let behind = marking (marked_as_operand source condition) around in
        within_bounds_is_sound source around.targets Nothing (operand_out source later given) _ (λ in_bounds.
        let holds = byte_decides 1 (operand_bytes source later given) (truth_has_byte source checked condition given later sized' form.condition_has fit in_bounds) in
        branched_is_sound around.targets _
        (subst (λ test. IsSound source around.targets Nothing (branch_into source below behind then_branch else_branch test path later)) (sym holds.1)
        (branch_is_sound outer behind (marks_stand _ stands) then_branch else_branch holds.0 plain.ty path later form.then_has form.else_has (fits ∙ plain.has_type) (λ child within.
        part_is_fine outer e child whole is (branch_is_sized source condition then_branch else_branch child within) fine) sized'))))

    -- the target of an assignment is a place of its type
    assignee_is_sound : (outer : List Opened) (around : Around) (stands : Stands outer around) (to : Assignee) (ty : Ty) (store : Store) → IsPlainAssignee source to ty → AreBindingsLaidOut source → ((child : ℕ) → Contains (assignee_parts to) child → IsFine source outer child) → IsSized source store →
        IsSound source around.targets (λ place. IsPlaceOf source place (Some ty)) (assignee_place source (below around) to store)
    assignee_is_sound outer around stands (ByPattern pat) ty store plain laid parts sized = bound_place_is_sound around.targets (target source pat) plain.binding ty store laid plain.names plain.binding_has sized
    assignee_is_sound outer around stands (ByPlace e) ty store plain laid parts sized =
        subst (λ test. IsSound source around.targets (λ place. IsPlaceOf source place (Some ty)) (if test then (below around).place e store else Stuck)) (sym plain.place)
        (subst (λ t. IsSound source around.targets (λ place. IsPlaceOf source place t) ((below around).place e store)) plain.has ((sound outer around stands).place e store (parts e (first_is_contained e [])) sized))

    assign_is_sound : (outer : List Opened) (around : Around) (stands : Stands outer around) (e : ℕ) (to : Assignee) (value : ℕ) (store : Store) → node source e ≡ Some (expr.Assign to value) → IsFine source outer e → IsSized source store → IsSound source around.targets Nothing (assign_into source below around to value store)
    assign_is_sound outer around stands e to value store is fine sized =
        let form = form_of e _ is (fine.plain e itself) in
        let whole = Some (expr.Assign to value) in
        let value_is_fine = part_is_fine outer e value whole is (assigned_value_is_sized source to value) fine in
        let behind = marking (marked_as_place source value) around in
        then_do_is_sound source around.targets (PlaceFits value) Nothing ((below around).place value store) _ ((sound outer around stands).place value store value_is_fine sized) (λ from later sized' fits.
        then_do_is_sound source around.targets (λ place. IsPlaceOf source place (Some form.ty)) Nothing (assignee_place source (below behind) to later) _
        (assignee_is_sound outer behind (marks_stand _ stands) to form.ty later form.assignee fine.bindings (λ child within. part_is_fine outer e child whole is (assignee_is_sized source to value child within) fine) sized') (λ place last sized'' fits'.
        within_bounds_is_sound source around.targets Nothing (is_out_of_bounds source last place || is_out_of_bounds source last from) _ (λ in_bounds.
        let both = neither (is_out_of_bounds source last place) (is_out_of_bounds source last from) in_bounds in
        copy_at_is_sound source around.targets last place (Some form.ty) (place_bytes source last from) sized'' fits' both.0 (place_has_bytes source last from (Some form.ty) sized'' (subst (IsPlaceOf source from) form.value_has fits) both.1))))

    -- and so is that of a compound assignment
    assigned_place_is_sound : (outer : List Opened) (around : Around) (stands : Stands outer around) (e : ℕ) (op : Operator) (to : Assigned) (value : ℕ) (ty : Ty) (store : Store) → node source e ≡ Some (expr.Compound op to value) → IsPlainAssigned source to ty → AreBindingsLaidOut source →
        ((child : ℕ) → Contains (assigned_parts to) child → IsFine source outer child) → IsSized source store → IsSound source around.targets (λ place. IsPlaceOf source place (Some ty)) (assigned_place source below around to store)
    assigned_place_is_sound outer around stands e op (ByPath target) value ty store is plain laid parts sized = bound_place_is_sound around.targets (compound_target source target) plain.binding ty store laid plain.names plain.binding_has sized
    assigned_place_is_sound outer around stands e op (ByField base elem) value ty store is plain laid parts sized = part_place_is_sound outer around stands base elem ty store plain (target_has_index source e op base elem value is) parts sized

    -- what an operator makes of what lies at a place and a value has the size of the place's type
    combined_is_sound : (targets : List Target) (op : Operator) (ty other_ty : Ty) (value : ℕ) (place : Place) (given : Operand) (store : Store) → IsCombined op ty other_ty ty → node_type source value ≡ Some other_ty → IsSized source store → IsPlaceOf source place (Some ty) → OperandFits value given →
        IsSound source targets Nothing (combined_at source op place given store)
    unfolding answered values_of some_out
    combined_is_sound targets op ty other_ty value place given store typed has sized fits fits' =
        within_bounds_is_sound source targets Nothing (some_out source store (At place ∷ given ∷ [])) _ (λ in_bounds.
        let first = neither (is_out_of_bounds source store place) (some_out source store (given ∷ [])) in_bounds in
        let second = neither (operand_out source store given) false first.1 in
        let left = place_has_value source checked store place ty sized fits first.0 in
        let right = operand_is_value source checked value other_ty given store sized has fits' second.0 in
        let one : Value = record { kind = operand_kind source (At place); bytes = left.bytes } in
        let other : Value = record { kind = operand_kind source given; bytes = right.bytes } in
        let read = values_of-more source store (At place) (given ∷ []) left.bytes (other ∷ []) left.is (values_of-more source store given [] right.bytes [] right.is refl) in
        answer_at_is_sound source targets store place (Some ty) _ sized fits first.0
        (subst (λ values. Fits (size_at source (Some ty)) (answered_for source.world None (Combine op) values)) (sym read)
        (combined_fits source op ty other_ty ty one other typed (λ number. scalar_size ty fits.laid number) left.value right.value)))

    compound_is_sound : (outer : List Opened) (around : Around) (stands : Stands outer around) (e : ℕ) (op : Operator) (to : Assigned) (value : ℕ) (store : Store) → node source e ≡ Some (expr.Compound op to value) → IsFine source outer e → IsSized source store → IsSound source around.targets Nothing (compound_into source below around op to value store)
    compound_is_sound outer around stands e op to value store is fine sized =
        let form = form_of e _ is (fine.plain e itself) in
        let whole = Some (expr.Compound op to value) in
        let behind = marking (marked_by_assigned source to) around in
        let value_is_fine = operand_is_fine outer e value whole is (combined_is_part source e op to value is) (combined_value_is_sized source op to value) fine in
        then_do_is_sound source around.targets (λ place. IsPlaceOf source place (Some form.ty)) Nothing (assigned_place source below around to store) _
        (assigned_place_is_sound outer around stands e op to value form.ty store is form.assigned fine.bindings (λ child within. part_is_fine outer e child whole is (assigned_is_sized source op to value child within) fine) sized) (λ place later sized' fits.
        then_do_is_sound source around.targets (OperandFits value) Nothing ((below behind).operand value later) _ ((sound outer behind (marks_stand _ stands)).operand value later value_is_fine sized') (λ given last sized'' fits'.
        combined_is_sound around.targets op form.ty form.other value place given last form.typed form.value_has sized'' fits fits'))

    -- what stands in a block, inside its scope
    inner_is_sound : (outer : List Opened) (around : Around) (stands : Stands outer around) (statements : List Statement) (tail : Option ExprId) (ty : Ty) (path : Path) (store : Store) → All (IsPlainStatement source) statements × IsPlainTail source tail ty → cell_type source path.cell ≡ Some ty → ((child : ℕ) → Contains (flat_map statement_parts statements ++ optional tail) child → IsFine source outer child) → IsSized source store → IsSound source around.targets Nothing (block_into source below around statements tail path store)
    inner_is_sound outer around stands statements tail ty path store form fits parts sized =
        let behind = marking (flat_map (marked_by_statement source) statements) around in
        then_do_is_sound source around.targets Nothing Nothing (statements_of source below around statements store) _ (statements_are_sound outer around stands statements store form.0 (λ child contained.
        parts child (Contains-append_left (flat_map statement_parts statements) (optional tail) child contained)) sized) (λ done later sized' is'.
        then_do_is_sound source around.targets Nothing Nothing (tail_into (below behind) tail path later) _ (tail_is_sound outer behind (marks_stand _ stands) tail ty path later form.1 fits (λ child contained.
        parts child (Contains-append_right (flat_map statement_parts statements) (optional tail) child contained)) sized') (λ done' last sized'' is''. (sized'', tt)))

    block_is_sound : (outer : List Opened) (around : Around) (stands : Stands outer around) (e : ℕ) (statements : List Statement) (tail : Option ExprId) (path : Path) (store : Store) → node source e ≡ Some (expr.Block statements tail) → IsFine source outer e → IsSized source store → OwnFits e path → IsSound source around.targets Nothing (block_into source below around statements tail path store)
    block_is_sound outer around stands e statements tail path store is fine sized fits =
        let plain = fine.plain e itself in
        inner_is_sound outer around stands statements tail plain.ty path store (form_of e _ is plain) (fits ∙ plain.has_type) (block_part_is_fine outer e statements tail is fine) sized

    -- what stands around a target, of whose node a jump isn't
    further : (targets : List Target) (target : Target) (node : ℕ) → (node == target.opened.node) ≡ false → IsNode (target ∷ targets) node → IsNode targets node
    further targets target node differs is =
        ⊎_elim
        (λ here. absurd (false≢true (sym differs ∙ eq-eqb _ _ (sym is.2 ∙ ap (λ t. t.opened.node) (sym (only_target target is.0 here))))))
        (λ there. (is.0, there, is.2))
        (Contains-append_cases (target ∷ []) targets is.0 is.1)

    -- a loop or a labelled block catches the jumps to it; others lead to the targets around it, or out of the body
    caught_is_sound : (targets : List Target) (target : Target) (again ended : Store → End (Unit {0})) (end : End (Unit {0})) →
        ((store : Store) → IsSized source store → IsSound source targets Nothing (again store)) → ((store : Store) → IsSized source store → IsSound source targets Nothing (ended store)) →
        IsSound source (target ∷ targets) Nothing end → IsSound source targets Nothing (caught target.opened.node again ended end)
    caught_is_sound targets target again ended (Go done store cost) again_is ended_is is = after_is_sound source targets Nothing cost (ended store) (ended_is store is.0)
    caught_is_sound targets target again ended (Jumps (Break node) store cost) again_is ended_is is = by_test (node == target.opened.node) refl
      where
        by_test : (test : Bool) → (node == target.opened.node) ≡ test → IsSound source targets Nothing (if test then Go tt store (plus cost (turns_alone 1)) else Jumps (Break node) store cost)
        by_test true same = (is.0, tt)
        by_test false differs = (is.0, further targets target node differs is.1)
    caught_is_sound targets target again ended (Jumps (Continue node) store cost) again_is ended_is is = by_test (node == target.opened.node) refl
      where
        by_test : (test : Bool) → (node == target.opened.node) ≡ test → IsSound source targets Nothing (if test then after cost (again store) else Jumps (Continue node) store cost)
        by_test true same = after_is_sound source targets Nothing cost (again store) (again_is store is.0)
        by_test false differs = (is.0, further targets target node differs is.1)
    caught_is_sound targets target again ended (Jumps Return store cost) again_is ended_is is = is
    caught_is_sound targets target again ended (Faults fault cost) again_is ended_is is = tt
    caught_is_sound targets target again ended Stuck again_is ended_is is = is
    caught_is_sound targets target again ended (More cost) again_is ended_is is = tt

    -- inside a loop or a labelled block that is evaluated into a path of its type
    stands_inside : {outer : List Opened} {around : Around} (stands : Stands outer around) (e : ℕ) (label : Option LabelId) (path : Path) → OwnFits e path → Stands (record { node = e; label = label } ∷ outer) (inside_of e label path around)
    stands_inside {around = around} stands e label path fits = record {
      opened = ap (λ rest. record { node = e; label = label } ∷ rest) stands.opened;
      fits = λ target contained. ⊎_elim
          (λ here. subst (λ t. OwnFits t.opened.node t.path) (only_target (entered e label path around) target here) fits)
          (λ there. stands.fits target there)
          (Contains-append_cases (entered e label path around ∷ []) around.targets target contained);
      returns = stands.returns;
    }

    again_is_sound : (outer : List Opened) (around : Around) (stands : Stands outer around) (e : ℕ) (path : Path) → IsFine source outer e → OwnFits e path → (store : Store) → IsSized source store → IsSound source around.targets Nothing (again_into below around e path store)
    again_is_sound outer around stands e path fine fits store sized = (sound outer around stands).own e path store fine sized fits

    labelled_is_sound : (outer : List Opened) (around : Around) (stands : Stands outer around) (e : ℕ) (label : LabelId) (statements : List Statement) (tail : Option ExprId) (path : Path) (store : Store) → node source e ≡ Some (expr.Labelled label statements tail) → IsFine source outer e → IsSized source store → OwnFits e path → IsSound source around.targets Nothing (labelled_into source below around e label statements tail path store)
    labelled_is_sound outer around stands e label statements tail path store is fine sized fits =
        let plain = fine.plain e itself in
        after_is_sound source around.targets Nothing (turns_alone 1) _
        (caught_is_sound around.targets (entered e (Some label) path around) (again_into below around e path) (λ last. Go tt last (turns_alone 1)) _ (again_is_sound outer around stands e path fine fits) (λ last sized'. (sized', tt))
        (inner_is_sound (record { node = e; label = Some label } ∷ outer) (inside_of e (Some label) path around) (stands_inside stands e (Some label) path fits) statements tail plain.ty path store (form_of e _ is plain) (fits ∙ plain.has_type) (λ child contained.
        part_is_fine outer e child (Some (expr.Labelled label statements tail)) is (sized_block_parts source statements tail child contained) fine) sized))

    turn_is_sound : (outer : List Opened) (around : Around) (stands : Stands outer around) (body : ℕ) (store : Store) → IsFine source outer body → IsSized source store → IsSound source around.targets Nothing (turn_of source below around body store)
    turn_is_sound outer around stands body store fine sized =
        then_do_is_sound source around.targets (PlaceFits body) Nothing ((below around).place body store) _ ((sound outer around stands).place body store fine sized) (λ place later sized' fits. (sized', tt))

    loop_is_sound : (outer : List Opened) (around : Around) (stands : Stands outer around) (e : ℕ) (label : Option LabelId) (body : ℕ) (path : Path) (store : Store) → node source e ≡ Some (expr.Loop label body) → IsFine source outer e → IsSized source store → OwnFits e path → IsSound source around.targets Nothing (loop_into source below around e label body path store)
    loop_is_sound outer around stands e label body path store is fine sized fits =
        let again = again_is_sound outer around stands e path fine fits in
        after_is_sound source around.targets Nothing (turns_alone 1) _
        (caught_is_sound around.targets (entered e label path around) (again_into below around e path) (again_into below around e path) _ again again
        (turn_is_sound (record { node = e; label = label } ∷ outer) (inside_of e label path around) (stands_inside stands e label path fits) body store
        (part_is_fine outer e body (Some (expr.Loop label body)) is (first_is_contained body []) fine) sized))

    -- a `break` leads to the innermost target that it means
    break_is_sound : (outer : List Opened) (around : Around) (stands : Stands outer around) (e : ℕ) (label : Option LabelId) (value : Option ExprId) (store : Store) → node source e ≡ Some (expr.Break label value) → IsFine source outer e → IsSized source store → IsSound source around.targets Nothing (break_into source below around label value store)
    break_is_sound outer around stands e label value store is fine sized =
        let target : HasPlainTarget source outer label value = subst (FitsAround source outer) is (fine.jumps outer e itself_in) in
        let found = target_found label around.targets target.target (ap (meant label) stands.opened ∙ target.means) in
        let typed : cell_type source found.0.path.cell ≡ Some target.ty = stands.fits found.0 found.2 ∙ ap (λ o. own_type source o.node) found.3 ∙ target.target_has in
        subst (λ given. IsSound source around.targets Nothing (break_to source below around value given store)) (sym found.1)
        (then_do_is_sound source around.targets Nothing Nothing (tail_into (below around) value found.0.path store) _ (tail_is_sound outer around stands value target.ty found.0.path store target.value_has typed (λ child contained.
        part_is_fine outer e child (Some (expr.Break label value)) is (sized_tail source value child contained) fine) sized) (λ done later sized' is'. (sized', (found.0, found.2, refl))))

    -- and so does a `continue`
    continue_is_sound : (outer : List Opened) (around : Around) (stands : Stands outer around) (e : ℕ) (label : Option LabelId) (store : Store) → node source e ≡ Some (expr.Continue label) → IsFine source outer e → IsSized source store → IsSound source around.targets Nothing (continue_into source around label store)
    continue_is_sound outer around stands e label store is fine sized =
        let target : HasOpenTarget outer label = subst (FitsAround source outer) is (fine.jumps outer e itself_in) in
        let found = target_found label around.targets target.target (ap (meant label) stands.opened ∙ target.means) in
        subst (λ given. IsSound source around.targets Nothing (continue_to source around given store)) (sym found.1) (sized, (found.0, found.2, refl))

    -- the value of a `return` goes to the return path, and the jump out of the body
    return_is_sound : (outer : List Opened) (around : Around) (stands : Stands outer around) (e : ℕ) (value : Option ExprId) (store : Store) → node source e ≡ Some (expr.Return value) → IsFine source outer e → IsSized source store → IsSound source around.targets Nothing (return_into source below around value store)
    return_is_sound outer around stands e value store is fine sized =
        let form = form_of e _ is (fine.plain e itself) in
        then_do_is_sound source around.targets Nothing Nothing (tail_into (below around) value around.result store) _ (tail_is_sound outer around stands value form.ty around.result store form.value_has (stands.returns ∙ form.result_has) (λ child contained.
        part_is_fine outer e child (Some (expr.Return value)) is (sized_tail source value child contained) fine) sized) (λ done later sized' is'. (sized', tt))

    -- a callee is entered with arguments that fit its parameters, and gives a value of the call's type
    call_into_is_sound : (callees : Callees) → AreSoundCallees source callees → (outer : List Opened) (around : Around) (stands : Stands outer around) (e : ℕ) (callee : Option ℕ) (args : List ℕ) (path : Path) (store : Store) → node source e ≡ Some (expr.Call callee args) → IsFine source outer e → IsSized source store → OwnFits e path → IsSound source around.targets Nothing (call_into source below callees around e callee args path store)
    call_into_is_sound callees callees_are outer around stands e callee args path store is fine sized fits =
        let plain = fine.plain e itself in
        let form = form_of e _ is plain in
        let enters = called_by_name source e callee form.id form.called form.names form.has_body in
        let calls : Calls source form.called = record { e = e; evaluated = fine.evaluated; callee = callee; args = args; is_call = is; enters = enters } in
        let world = called_world source e callee form.called enters in
        let same : cell_size form.called Result ≡ cell_size source path.cell =
        ap (size_at form.called) form.body_has ∙ same_size source form.called world (Some form.row.sig.ret) ∙ ap (size_at source) (sym (fits ∙ plain.has_type ∙ ap Some form.typed)) in
        then_do_is_sound source around.targets (OperandsFit args) Nothing (operands_of source below around args store) _ (operands_are_sound outer around stands args store (λ child within.
        operand_is_fine outer e child (Some (expr.Call callee args)) is (argument_is_part source e callee args child is within) (operand_is_sized source args child within) fine) sized) (λ given later sized' fit.
        within_bounds_is_sound source around.targets Nothing (some_out source later given) _ (λ in_bounds.
        subst (λ found. IsSound source around.targets Nothing (entered_into callees (must_not_return source e) found (operands_bytes source later given) path later)) (sym enters)
        (callee_is_sound callees callees_are around.targets (must_not_return source e) e callee args plain.ty form calls given path later sized' same fit in_bounds)))

    into_is_sound : (callees : Callees) → AreSoundCallees source callees → (outer : List Opened) (around : Around) (stands : Stands outer around) (e : ℕ) (form : Option CoreExpr) (path : Path) (store : Store) → node source e ≡ form → IsFine source outer e → IsSized source store → OwnFits e path → IsSound source around.targets Nothing (into_of source below callees around e form path store)
    into_is_sound callees callees_are outer around stands e (Some (expr.Literal given)) path store is fine sized fits =
        let plain = fine.plain e itself in
        let bytes = literal_has_size outer e given plain.ty fine plain.has_type (form_of e _ is plain) in
        put_literal_is_sound around.targets e store path (literal_bytes source e given) bytes.0 sized bytes.1 (bytes.2 ∙ ap (size_at source) (sym fits))
    into_is_sound callees callees_are outer around stands e (Some (expr.Path name)) path store is fine sized fits =
        let plain = fine.plain e itself in
        let form = form_of e _ is plain in
        subst (λ named. IsSound source around.targets Nothing (named_into named path store)) (sym form.named)
        (put_is_sound source around.targets store path (store (Binding form.binding.0)) sized (sized.holds_all (Binding form.binding.0) ∙ ap (size_at source) (form.binding_has ∙ sym plain.has_type ∙ sym fits)))
    into_is_sound callees callees_are outer around stands e (Some expr.UnitStruct) path store is fine sized fits = (sized, tt)
    into_is_sound callees callees_are outer around stands e (Some (expr.Field base field)) path store is fine sized fits =
        then_do_is_sound source around.targets (λ place. IsPlaceOf source place (own_type source e)) Nothing (field_place source below around base field store) _ (field_is_sound outer around stands e base field store is fine sized)
        (λ place later sized' given. copied_is_sound around.targets place (own_type source e) path later sized' given fits)
    into_is_sound callees callees_are outer around stands e (Some (expr.Strict operation operands)) path store is fine sized fits = strict_is_sound outer around stands e operation operands path store is fine sized fits
    into_is_sound callees callees_are outer around stands e (Some (expr.Update base id args sources operands)) path store is fine sized fits = update_is_sound outer around stands e base id args sources operands path store is fine sized fits
    into_is_sound callees callees_are outer around stands e (Some (expr.Logic op left right)) path store is fine sized fits = logic_is_sound outer around stands e op left right path store is fine sized fits
    into_is_sound callees callees_are outer around stands e (Some (expr.If condition then_branch else_branch)) path store is fine sized fits = if_is_sound outer around stands e condition then_branch else_branch path store is fine sized fits
    into_is_sound callees callees_are outer around stands e (Some (expr.Assign to value)) path store is fine sized fits = assign_is_sound outer around stands e to value store is fine sized
    into_is_sound callees callees_are outer around stands e (Some (expr.Compound op to value)) path store is fine sized fits = compound_is_sound outer around stands e op to value store is fine sized
    into_is_sound callees callees_are outer around stands e (Some (expr.Block statements tail)) path store is fine sized fits = block_is_sound outer around stands e statements tail path store is fine sized fits
    into_is_sound callees callees_are outer around stands e (Some (expr.Labelled label statements tail)) path store is fine sized fits = labelled_is_sound outer around stands e label statements tail path store is fine sized fits
    into_is_sound callees callees_are outer around stands e (Some (expr.Break label value)) path store is fine sized fits = break_is_sound outer around stands e label value store is fine sized
    into_is_sound callees callees_are outer around stands e (Some (expr.Loop label body)) path store is fine sized fits = loop_is_sound outer around stands e label body path store is fine sized fits
    into_is_sound callees callees_are outer around stands e (Some (expr.Continue label)) path store is fine sized fits = continue_is_sound outer around stands e label store is fine sized
    into_is_sound callees callees_are outer around stands e (Some (expr.Return value)) path store is fine sized fits = return_is_sound outer around stands e value store is fine sized
    into_is_sound callees callees_are outer around stands e (Some (expr.Call callee args)) path store is fine sized fits = call_into_is_sound callees callees_are outer around stands e callee args path store is fine sized fits
    into_is_sound callees callees_are outer around stands e None path store is fine sized fits = absurd (form_of e _ is (fine.plain e itself))

    above_is_sound : (callees : Callees) → AreSoundCallees source callees → (outer : List Opened) (around : Around) → Stands outer around → IsSoundLevel outer around.targets (level_above source below callees around)
    above_is_sound callees callees_are outer around stands = record {
      place = λ e store fine sized. place_is_sound outer around stands e (unadjusted source e) store refl fine sized;
      operand = λ e store fine sized. operand_is_sound outer around stands e (unadjusted source e) store refl fine sized;
      into = λ e path store fine sized fits.
          into_is_sound callees callees_are outer (marking (never_marks source e) around) (marks_stand (never_marks source e) stands) e (node source e) (own_path source e path) store refl fine sized (own_path-fits source e path fits);
      own = λ e path store fine sized fits. into_is_sound callees callees_are outer around stands e (node source e) path store refl fine sized fits;
    }

  root_stands : Stands [] (marking (parameter_cells source) (at_root (record { cell = Result })))
  root_stands = record { opened = refl; fits = λ target contained. absurd (let less = contained.1 in omega arith); returns = refl }

-- a plain body ends well, where the levels of its expressions do: where a type that it needs has no layout, it can't be entered
body_is_settled : (source : Source) (checked : IsChecked source.world) → IsCheckedBody source.body source.infer → (levels : Levels) → IsPlain source →
    ((outer : List Opened) (around : Around) → Stands source checked outer around → IsSoundLevel source checked outer around.targets (levels around)) → (store : Store) → IsSized source store → IsSettled source (body_meaning source levels store)
body_is_settled source checked body levels plain sound store sized =
    let first = marking (parameter_cells source) (at_root (record { cell = Result })) in
    let level = sound [] first (root_stands source checked) in
    after_is_settled source (entering source) _ (where_laid_is_settled source (is_laid_out source) _ (λ laid.
    let tested = layouts_are_tested source body in
    let laid_out = tested.0 laid in
    let root_is_fine : IsFine source [] (root source) = record { evaluated = itself; jumps = plain.jumps; plain = plain.nodes; laid_out = laid_out.nodes; bindings = laid_out.bindings } in
    returned_is_settled source ((levels first).into (root source) _ _) (level.into (root source) _ _ root_is_fine sized refl)))

-- a body that can't be entered ends well from whatever store
unlaid_is_settled : (source : Source) (levels : Levels) → is_laid_out source ≡ false → (store : Store) → IsSettled source (body_meaning source levels store)
unlaid_is_settled source levels unlaid store =
    after_is_settled source (entering source) _ (where_laid_is_settled source (is_laid_out source) _ (λ laid. absurd (false≢true (sym unlaid ∙ laid))))

-- what is reached from a callee is reached from its caller
plain_called : (source called : Source) → Calls source called → IsPlainThroughout source → IsPlainThroughout called
plain_called source called calls plain = record { each = λ reached on. plain.each reached (through calls on) }

checked_called : (source called : Source) → Calls source called → IsChecked source.world → IsChecked called.world
checked_called source called calls checked = subst IsChecked (sym (called_world source calls.e calls.callee called calls.enters)) checked

aggregates_called : (source called : Source) → Calls source called → HasAggregates source.world → HasAggregates called.world
aggregates_called source called calls aggregates = subst HasAggregates (sym (called_world source calls.e calls.callee called calls.enters)) aggregates

level_is_sound : (fuel : ℕ) (source : Source) (checked : IsChecked source.world) → HasAggregates source.world → IsPlainThroughout source → (outer : List Opened) (around : Around) → Stands source checked outer around → IsSoundLevel source checked outer around.targets (level_at source fuel around)
unfolding level_at
level_is_sound zero source checked aggregates plain outer around stands = no_fuel_is_sound source checked outer around
level_is_sound (suc fuel) source checked aggregates plain outer around stands =
    above_is_sound source checked aggregates (level_at source fuel) (level_is_sound fuel source checked aggregates plain) (callees_at fuel)
    (record {
      settle = λ called calls start sized.
          let checked' = checked_called source called calls checked in
          let body = called_is_checked source calls.e calls.callee called checked calls.enters in
          let plain' = plain_called source called calls plain in
          body_is_settled called checked' body (level_at called fuel) (plain'.each called at_once) (level_is_sound fuel called checked' (aggregates_called source called calls aggregates) plain') start sized;
      unlaid = λ called calls unlaid start. unlaid_is_settled called (level_at called fuel) unlaid start;
    })
    outer around stands

meaning_is_settled : (source : Source) (store : Store) (fuel : ℕ) → IsChecked source.world → HasAggregates source.world → IsCheckedBody source.body source.infer → IsPlainThroughout source → IsSized source store → IsSettled source (meaning_from source store fuel)
unfolding meaning_from
meaning_is_settled source store fuel checked aggregates body plain sized =
    body_is_settled source checked body (level_at source fuel) (plain.each source at_once) (level_is_sound fuel source checked aggregates plain) store sized

pub plain_is_never_stuck : (source : Source) (store : Store) (fuel : ℕ) → IsChecked source.world → HasAggregates source.world → IsCheckedBody source.body source.infer → IsPlainThroughout source → IsSized source store → meaning_from source store fuel ≢ Stuck
plain_is_never_stuck source store fuel checked aggregates body plain sized stuck = subst (IsSettled source) stuck (meaning_is_settled source store fuel checked aggregates body plain sized)

settled_jumps_nowhere : (source : Source) (end : End (List ℕ)) → IsSettled source end → JumpsNowhere end
settled_jumps_nowhere source (Go value store cost) settled = tt
settled_jumps_nowhere source (Jumps to store cost) settled = settled
settled_jumps_nowhere source (Faults fault cost) settled = tt
settled_jumps_nowhere source Stuck settled = tt
settled_jumps_nowhere source (More cost) settled = tt

pub plain_jumps_nowhere : (source : Source) (store : Store) (fuel : ℕ) → IsChecked source.world → HasAggregates source.world → IsCheckedBody source.body source.infer → IsPlainThroughout source → IsSized source store → JumpsNowhere (meaning_from source store fuel)
plain_jumps_nowhere source store fuel checked aggregates body plain sized = settled_jumps_nowhere source (meaning_from source store fuel) (meaning_is_settled source store fuel checked aggregates body plain sized)
