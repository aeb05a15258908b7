-- Whether the types that a body needs have layouts: the test says so, and what is evaluated needs one, but for truth values.
use Rattle.std.specs.Prelude.{flat_map, Contains}
use Rattle.std.specs.List.{list_all}
use Rattle.std.proofs.Common.{⊎_elim, ◌≡◌, ℕ, zero, suc, ◌<◌, Bool, true, false, cond, List, [], ◌∷◌, length, Option, Some, None, is_some, option_and_then, refl, sym, ap, ◌∙◌, subst, arith}
use Rattle.std.proofs.lemmas.Bool.{false≢true}
use Rattle.std.proofs.lemmas.List.Elements.{Contains-append_cases}
use Rattle.types.specs.declared.ty.Ty.{Ty}
use Rattle.world.specs.declared.layout.Layout.{Layout}
use Rattle.world.specs.Checked.{IsCheckedBody}
use Rattle.world.specs.Lookups.{layout_of}
use Rattle.source_meaning.specs.Core as expr
use Rattle.source_meaning.specs.Core.{CoreExpr, Truth, is_truth}
use Rattle.source_meaning.specs.Entering.{below}
use Rattle.source_meaning.specs.Laid.{needing_in, needing, has_layout, is_laid_node, is_laid_or_none, is_laid_out}
use Rattle.source_meaning.specs.Laws.{LayoutsAreTested}
use Rattle.source_meaning.specs.Source.{Source, node, unadjusted, diverges, own_type, node_type, binding_type, root}
use Rattle.source_meaning.specs.Steps.{Step, Operand, Place, Into, Index, Bind, Open, Close, steps_of, step_part, parts_of}
use Rattle.source_meaning.specs.Valid.{Evaluates, itself, part, IsPlainCall, HasPlainForm, IsPlain, IsLaidOut, IsLaidOutNode, sized_part, sized_parts, NeedsLayout, own, inside, AreLaidOut, Calls}
use Rattle.source_meaning.proofs.Calls.{called_by_name, called_world}
use Rattle.source_meaning.proofs.Core.{part_is_below}
use Rattle.source_meaning.proofs.Defined.{both, both_hold, only_one, all_of, all_from, made_from, is_below, typed_is_there}
use Rattle.source_meaning.proofs.Never.{unadjusted-plain}
use Rattle.source_meaning.proofs.Parts.{among, among_more, first_is_contained, rest_is_contained, nothing_is_contained, sized_part_is_part}
use Rattle.source_meaning.proofs.Places.{same_layout}

-- a layout that is there
layout-from : (found : Option Layout) → is_some found ≡ true → (layout : Layout) × (found ≡ Some layout)
layout-from (Some layout) is = (layout, refl)
layout-from None is = absurd (false≢true is)

type_is_laid : (source : Source) (ty : Option Ty) → has_layout source ty ≡ true → IsLaidOut source ty
type_is_laid source ty is =
    let from = layout-from (option_and_then (layout_of source.world) ty) is in
    record { layout = from.0; found = from.1 }

laid_type_is : (source : Source) (ty : Option Ty) → IsLaidOut source ty → has_layout source ty ≡ true
laid_type_is source ty laid = ap is_some laid.found

node_is_laid : (source : Source) (e : ℕ) → is_laid_node source e ≡ true → IsLaidOutNode source e
node_is_laid source e is =
    let holds = both (has_layout source (own_type source e)) (has_layout source (node_type source e)) is in
    record { of_itself = type_is_laid source (own_type source e) holds.0; of_value = type_is_laid source (node_type source e) holds.1 }

laid_node_is : (source : Source) (e : ℕ) → IsLaidOutNode source e → is_laid_node source e ≡ true
laid_node_is source e laid =
    both_hold (has_layout source (own_type source e)) (has_layout source (node_type source e)) (laid_type_is source (own_type source e) laid.of_itself) (laid_type_is source (node_type source e) laid.of_value)

-- what the list of expressions that need a layout holds
listed_is_needed : (source : Source) (depth e f : ℕ) → Contains (needing_in depth source e) f → NeedsLayout source e f
unfolding needing_in
listed_is_needed source zero e f within = absurd (nothing_is_contained f within)
listed_is_needed source (suc depth) e f within =
    ⊎_elim (λ here. subst (NeedsLayout source e) (only_one e f here) own)
    (λ there. let from = made_from (needing_in depth source) (sized_parts source (node source e)) f there in inside from.1 (listed_is_needed source depth from.0 f from.2))
    (Contains-append_cases (e ∷ []) (flat_map (needing_in depth source) (sized_parts source (node source e))) f within)

needed_is_listed : (source : Source) → IsCheckedBody source.body source.infer → (depth : ℕ) {e f : ℕ} → e < depth → NeedsLayout source e f → Contains (needing_in depth source e) f
unfolding needing_in
needed_is_listed source checked zero less needs = absurd (omega arith)
needed_is_listed source checked (suc depth) less (own {e = e}) = first_is_contained e (flat_map (needing_in depth source) (sized_parts source (node source e)))
needed_is_listed source checked (suc depth) less (inside {e = e} {child = child} {f = f} within rest) =
    let earlier = part_is_below source checked e child (sized_part_is_part source (node source e) child within) in
    rest_is_contained e (flat_map (needing_in depth source) (sized_parts source (node source e))) f
    (among (needing_in depth source) (sized_parts source (node source e)) child f within (needed_is_listed source checked depth (omega arith) rest))

binding_is_laid : (source : Source) (b : ℕ) (ty : Ty) → binding_type source b ≡ Some ty → is_laid_or_none source (binding_type source b) ≡ true → IsLaidOut source (Some ty)
binding_is_laid source b ty is laid = type_is_laid source (Some ty) (subst (λ t. is_laid_or_none source t ≡ true) is laid)

laid_binding_is : (source : Source) (ty : Option Ty) → ((t : Ty) → ty ≡ Some t → IsLaidOut source (Some t)) → is_laid_or_none source ty ≡ true
laid_binding_is source (Some ty) laid = laid_type_is source (Some ty) (laid ty refl)
laid_binding_is source None laid = refl

abbrev NodesLaid : Source → Bool
NodesLaid source = list_all (is_laid_node source) (needing_in (length source.body.exprs) source (root source))

abbrev BindingsLaid : Source → Bool
BindingsLaid source = list_all (λ b. is_laid_or_none source (binding_type source b)) (below (length source.body.bindings))

laid-from : (source : Source) → IsCheckedBody source.body source.infer → is_laid_out source ≡ true → AreLaidOut source
unfolding is_laid_out needing
laid-from source checked is =
    let holds = both (NodesLaid source) (BindingsLaid source) is in
    record {
      nodes = λ e needs. node_is_laid source e (all_of (is_laid_node source) (needing_in (length source.body.exprs) source (root source)) e holds.0 (needed_is_listed source checked (length source.body.exprs) checked.root needs));
      bindings = λ b ty there. binding_is_laid source b ty there (all_of (λ b. is_laid_or_none source (binding_type source b)) (below (length source.body.bindings)) b holds.1 (is_below (length source.body.bindings) b (typed_is_there source b ty there)));
    }

laid-to : (source : Source) → AreLaidOut source → is_laid_out source ≡ true
unfolding is_laid_out needing
laid-to source laid =
    both_hold (NodesLaid source) (BindingsLaid source)
    (all_from (is_laid_node source) (needing_in (length source.body.exprs) source (root source)) (λ e within. laid_node_is source e (laid.nodes e (listed_is_needed source (length source.body.exprs) (root source) e within))))
    (all_from (λ b. is_laid_or_none source (binding_type source b)) (below (length source.body.bindings)) (λ b within. laid_binding_is source (binding_type source b) (λ ty is. laid.bindings b ty is)))

pub layouts_are_tested : LayoutsAreTested
layouts_are_tested source checked = (laid-from source checked, laid-to source)

-- what a step evaluates needs a layout, where it is no truth value
step_is_sized : (source : Source) (one : Step) (child : ℕ) → is_truth (unadjusted source child) ≡ false → Contains (step_part one) child → Contains (sized_part source one) child
step_is_sized source (Operand e) child is within =
    let same = only_one e child within in
    subst (λ x. Contains (sized_part source (Operand x)) child) (sym same)
    (subst (λ test. Contains (cond test [] (child ∷ [])) child) (sym is) (first_is_contained child []))
step_is_sized source (Place e) child is within = within
step_is_sized source (Into e) child is within = within
step_is_sized source (Index e index) child is within = within
step_is_sized source (Bind pat) child is within = within
step_is_sized source Open child is within = within
step_is_sized source Close child is within = within

part_is_sized : (source : Source) (form : Option CoreExpr) (child : ℕ) → is_truth (unadjusted source child) ≡ false → Contains (parts_of form) child → Contains (sized_parts source form) child
part_is_sized source (Some form) child is within = among_more step_part (sized_part source) (steps_of form) child (λ one. step_is_sized source one child is) within
part_is_sized source None child is within = within

-- a truth value is a literal
truth_is_literal : (form : Option CoreExpr) → is_truth form ≡ true → (test : Bool) × (form ≡ Some (expr.Literal (Truth test)))
truth_is_literal (Some (expr.Literal (Truth test))) is = (test, refl)
truth_is_literal _ is = absurd (false≢true is)

-- and has no parts
truth_has_no_parts : (source : Source) (e child : ℕ) → is_truth (unadjusted source e) ≡ true → Contains (parts_of (node source e)) child → ⊥
truth_has_no_parts source e child is within =
    let literal = truth_is_literal (unadjusted source e) is in
    let plain = unadjusted-plain source e (expr.Literal (Truth literal.0)) literal.1 in
    nothing_is_contained child (subst (λ form. Contains (parts_of form) child) plain.1 within)

-- what is evaluated where a truth value is, is itself
truth_alone : (source : Source) {e f : ℕ} → is_truth (unadjusted source e) ≡ true → Evaluates source e f → is_truth (unadjusted source f) ≡ true
truth_alone source is itself = is
truth_alone source is (part {e = e} {child = child} within rest) = absurd (truth_has_no_parts source e child is within)

-- what is evaluated needs a layout, where it is no truth value
pub evaluated_needs_layout : (source : Source) {r e : ℕ} → Evaluates source r e → is_truth (unadjusted source e) ≡ false → NeedsLayout source r e
evaluated_needs_layout source itself is = own
evaluated_needs_layout source (part {e = r} {child = child} {f = e} within rest) is = by_truth (is_truth (unadjusted source child)) refl (evaluated_needs_layout source rest is)
  where
    by_truth : (test : Bool) → is_truth (unadjusted source child) ≡ test → NeedsLayout source child e → NeedsLayout source r e
    by_truth true truth later = absurd (false≢true (sym is ∙ truth_alone source truth rest))
    by_truth false truth later = inside (part_is_sized source (node source r) child truth within) later

-- a call is no truth value
call_is_no_truth : (source : Source) (e : ℕ) (callee : Option ℕ) (args : List ℕ) → node source e ≡ Some (expr.Call callee args) → is_truth (unadjusted source e) ≡ false
call_is_no_truth source e callee args is = by_test (diverges source e)
  where
    by_test : (test : Bool) → is_truth (cond test None (node source e)) ≡ false
    by_test true = refl
    by_test false = ap is_truth is

-- the result of a callee has a layout, where the types that its caller needs have: it is what the call gives
pub result_has_layout : (source called : Source) → IsPlain source → AreLaidOut source → Calls source called → IsLaidOut called (node_type called (root called))
result_has_layout source called plain laid calls =
    let call = plain.nodes calls.e calls.evaluated in
    let form : IsPlainCall source calls.e calls.callee calls.args call.ty = subst (λ given. HasPlainForm source calls.e given call.ty) calls.is_call call.form in
    let world = called_world source calls.e calls.callee called calls.enters in
    let entered : Some form.called ≡ Some called = sym (called_by_name source calls.e calls.callee form.id form.called form.names form.has_body) ∙ calls.enters in
    let same : form.called ≡ called = cc in
    let laid_call = laid.nodes calls.e (evaluated_needs_layout source calls.evaluated (call_is_no_truth source calls.e calls.callee calls.args calls.is_call)) in
    let result : IsLaidOut source (Some form.row.sig.ret) = subst (IsLaidOut source) (call.has_type ∙ ap Some form.typed) laid_call.of_itself in
    let has : node_type called (root called) ≡ Some form.row.sig.ret = subst (λ s. node_type s (root s) ≡ Some form.row.sig.ret) same form.body_has in
    subst (IsLaidOut called) (sym has) (same_layout called source (sym world) (Some form.row.sig.ret) result)
