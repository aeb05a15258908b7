-- What is lowered is built: an expression by its own form and by its parts.
use Rattle.std.proofs.Common.{◌≡◌, ℕ, Bool, true, false, List, [], ◌∷◌, map, Option, Some, sym, ap, ◌∙◌, subst}
use Rattle.std.specs.Prelude.{All, flat_map, if◌then◌else◌, option_map}
use Rattle.std.proofs.lemmas.List.Elements.{All-nil, All-cons, All-append, All-contains, All-weaker, All-head, All-tail}
use Rattle.mir.specs.declared.ids.LocalId.{LocalId}
use Rattle.source_meaning.specs.Around.{is_meant, meant}
use Rattle.source_meaning.specs.Built.{IsBinding, NamesBinding, CallsFunction, IsBuiltAssigned, IsBuiltAssignee, IsBuiltStatement, IsBuiltStrict}
use Rattle.numbers.specs.declared.operator.Operator.{Operator}
use Rattle.source_meaning.specs.Core.{Assigned, Assignee, ByField, ByPath, CoreExpr, CoreLiteral, Operation, PlaceElem, ElementAt, FieldOf, Part}
use Rattle.source_meaning.specs.Core as expr
use Rattle.source_meaning.specs.Source.{Source, Binding, node}
use Rattle.source_meaning.specs.Steps.{field_parts, assigned_parts, assignee_parts, parts_of, statement_parts}
use Rattle.source_meaning.specs.Valid.{Evaluates, itself, part}
use Rattle.source_meaning.proofs.Parts.{strict_parts, call_parts, if_parts, block_parts, tail_part}
use Rattle.types.specs.declared.ids.BindingId.{BindingId}
use Rattle.types.specs.declared.ids.ExprId.{ExprId}
use Rattle.types.specs.declared.ids.LabelId.{LabelId}
use Rattle.types.specs.declared.operators.LogicOp.{LogicOp}
use Rattle.world.specs.Nodes.{optional}
use Rattle.world.specs.declared.body.Statement.{Statement}
use Rattle.mir_lower.specs.Built.{HasTarget, IsBuiltNode, IsBuilt, IsBuiltThrough}
use Rattle.body_forms.specs.Literals.{IsBuiltLiteral}
use Rattle.mir_graph.specs.Graph.{Shape, OpenTarget, binding_local, meant_target, opened_of}
use Rattle.mir_lower.specs.Growth.{IsAround, IsSound}

-- a binding that has a local is one of the body
pub has-binding : (source : Source) (s : Shape) (binding : BindingId) (found : Option LocalId) (local : LocalId) → IsSound source s →
    option_map (λ (l : LocalId). l.0) found ≡ binding_local s binding.0 → found ≡ Some local → IsBinding source binding
has-binding source s binding found local sound same some =
    let there = sound.allotted.typed (Binding binding.0) local.0 (sym same ∙ ap (option_map (λ (l : LocalId). l.0)) some) in
    record { ty = there.0.ty; typed = there.2 }

-- what is evaluated where an expression is: itself, and what is evaluated where its parts are
by-reach : (source : Source) {e f : ℕ} → Evaluates source e f → IsBuiltNode source e (node source e) → All (IsBuilt source) (parts_of (node source e)) →
    IsBuiltNode source f (node source f)
by-reach source itself own parts = own
by-reach source {e} (part {child = child} within rest) own parts = (All-contains (IsBuilt source) (parts_of (node source e)) child parts within).each _ rest

-- an expression whose own form is built, with parts that are built
pub built-node : (source : Source) (e : ℕ) (form : Option CoreExpr) → node source e ≡ form → IsBuiltNode source e form → All (IsBuilt source) (parts_of form) → IsBuilt source e
built-node source e form is own parts =
    let own' = subst (IsBuiltNode source e) (sym is) own in
    let parts' = subst (λ (n : Option CoreExpr). All (IsBuilt source) (parts_of n)) (sym is) parts in
    record { each = λ f reached. by-reach source reached own' parts' }

pub built-literal : (source : Source) (e : ℕ) (l : CoreLiteral) → node source e ≡ Some (expr.Literal l) → IsBuiltLiteral source e l → IsBuilt source e
built-literal source e l is built = built-node source e (Some (expr.Literal l)) is built (All-nil (IsBuilt source))

pub built-path : (source : Source) (e : ℕ) (name : List ℕ) → node source e ≡ Some (expr.Path name) → NamesBinding source e → IsBuilt source e
built-path source e name is named = built-node source e (Some (expr.Path name)) is named (All-nil (IsBuilt source))

pub one-built : (source : Source) (e : ℕ) → IsBuilt source e → All (IsBuilt source) (e ∷ [])
one-built source e built = All-cons (IsBuilt source) e [] built (All-nil (IsBuilt source))

pub built-field : (source : Source) (e base : ℕ) (elem : PlaceElem) → node source e ≡ Some (expr.Field base elem) → All (IsBuilt source) (field_parts base elem) → IsBuilt source e
built-field source e base elem is built = built-node source e (Some (expr.Field base elem)) is tt built

pub built-strict : (source : Source) (e : ℕ) (operation : Operation) (operands : List ℕ) → node source e ≡ Some (expr.Strict operation operands) → IsBuiltStrict source e operation → All (IsBuilt source) operands → IsBuilt source e
built-strict source e operation operands is own built =
    built-node source e (Some (expr.Strict operation operands)) is own (subst (All (IsBuilt source)) (sym (strict_parts operation operands)) built)

pub built-call : (source : Source) (e : ℕ) (callee : Option ℕ) (args : List ℕ) → node source e ≡ Some (expr.Call callee args) → CallsFunction source e callee → All (IsBuilt source) args → IsBuilt source e
built-call source e callee args is calls built =
    built-node source e (Some (expr.Call callee args)) is calls (subst (All (IsBuilt source)) (sym (call_parts callee args)) built)

pub two-built : (source : Source) (lhs rhs : ℕ) → IsBuilt source lhs → IsBuilt source rhs → All (IsBuilt source) (lhs ∷ rhs ∷ [])
two-built source lhs rhs left right = All-cons (IsBuilt source) lhs (rhs ∷ []) left (one-built source rhs right)

pub built-logic : (source : Source) (e : ℕ) (op : LogicOp) (left right : ℕ) → node source e ≡ Some (expr.Logic op left right) → IsBuilt source left → IsBuilt source right → IsBuilt source e
built-logic source e op left right is one other = built-node source e (Some (expr.Logic op left right)) is tt (two-built source left right one other)

pub built-if : (source : Source) (e condition then_branch : ℕ) (else_branch : Option ExprId) → node source e ≡ Some (expr.If condition then_branch else_branch) →
    IsBuilt source condition → IsBuilt source then_branch → All (IsBuilt source) (optional else_branch) → IsBuilt source e
built-if source e condition then_branch else_branch is test one other =
    built-node source e (Some (expr.If condition then_branch else_branch)) is tt
    (subst (All (IsBuilt source)) (sym (if_parts condition then_branch else_branch))
    (All-cons (IsBuilt source) condition (then_branch ∷ optional else_branch) test (All-cons (IsBuilt source) then_branch (optional else_branch) one other)))

pub built-assign : (source : Source) (e : ℕ) (to : Assignee) (value : ℕ) → node source e ≡ Some (expr.Assign to value) → IsBuiltAssignee source to → All (IsBuilt source) (assignee_parts to) → IsBuilt source value → IsBuilt source e
built-assign source e to value is own parts built =
    built-node source e (Some (expr.Assign to value)) is own (All-cons (IsBuilt source) value (assignee_parts to) built parts)

compound-built : (source : Source) (to : Assigned) (value : ℕ) (op : Operator) → All (IsBuilt source) (assigned_parts to) → IsBuilt source value → All (IsBuilt source) (parts_of (Some (expr.Compound op to value)))
compound-built source (ByPath e) value op parts built = one-built source value built
compound-built source (ByField base (Part index)) value op parts built = All-append (IsBuilt source) (base ∷ []) (value ∷ []) parts (one-built source value built)
compound-built source (ByField base (FieldOf field)) value op parts built = All-append (IsBuilt source) (base ∷ []) (value ∷ []) parts (one-built source value built)
compound-built source (ByField base (ElementAt n index)) value op parts built = All-append (IsBuilt source) (base ∷ index ∷ []) (value ∷ []) parts (one-built source value built)

pub built-compound : (source : Source) (e : ℕ) (op : Operator) (to : Assigned) (value : ℕ) → node source e ≡ Some (expr.Compound op to value) → IsBuiltAssigned source to → All (IsBuilt source) (assigned_parts to) → IsBuilt source value → IsBuilt source e
built-compound source e op to value is own parts built =
    built-node source e (Some (expr.Compound op to value)) is own (compound-built source to value op parts built)

-- the expressions that statements evaluate
through-parts : (source : Source) (statements : List Statement) → All (IsBuiltThrough source) statements → All (IsBuilt source) (flat_map statement_parts statements)
through-parts source [] all = All-nil (IsBuilt source)
through-parts source (first ∷ others) all =
    All-append (IsBuilt source) (statement_parts first) (flat_map statement_parts others) (All-head (IsBuiltThrough source) first others all).parts
    (through-parts source others (All-tail (IsBuiltThrough source) first others all))

pub built-block : (source : Source) (e : ℕ) (statements : List Statement) (tail : Option ExprId) → node source e ≡ Some (expr.Block statements tail) →
    All (IsBuiltThrough source) statements → All (IsBuilt source) (optional tail) → IsBuilt source e
built-block source e statements tail is through last =
    built-node source e (Some (expr.Block statements tail)) is
    (All-weaker (IsBuiltThrough source) (IsBuiltStatement source) (λ one built. built.own) statements through)
    (subst (All (IsBuilt source)) (sym (block_parts statements tail))
    (All-append (IsBuilt source) (flat_map statement_parts statements) (optional tail) (through-parts source statements through) last))

-- a labelled block, a loop, and the jumps to them
pub built-labelled : (source : Source) (e : ℕ) (label : LabelId) (statements : List Statement) (tail : Option ExprId) → node source e ≡ Some (expr.Labelled label statements tail) →
    All (IsBuiltThrough source) statements → All (IsBuilt source) (optional tail) → IsBuilt source e
built-labelled source e label statements tail is through last =
    built-node source e (Some (expr.Labelled label statements tail)) is
    (All-weaker (IsBuiltThrough source) (IsBuiltStatement source) (λ one built. built.own) statements through)
    (subst (All (IsBuilt source)) (sym (block_parts statements tail))
    (All-append (IsBuilt source) (flat_map statement_parts statements) (optional tail) (through-parts source statements through) last))

pub built-loop : (source : Source) (e : ℕ) (label : Option LabelId) (body : ℕ) → node source e ≡ Some (expr.Loop label body) → IsBuilt source body → IsBuilt source e
built-loop source e label body is built = built-node source e (Some (expr.Loop label body)) is tt (one-built source body built)

pub built-break : (source : Source) (e : ℕ) (label : Option LabelId) (value : Option ExprId) → node source e ≡ Some (expr.Break label value) → HasTarget source e label → All (IsBuilt source) (optional value) → IsBuilt source e
built-break source e label value is target built = built-node source e (Some (expr.Break label value)) is target (subst (All (IsBuilt source)) (sym (tail_part value)) built)

pub built-continue : (source : Source) (e : ℕ) (label : Option LabelId) → node source e ≡ Some (expr.Continue label) → HasTarget source e label → IsBuilt source e
built-continue source e label is target = built-node source e (Some (expr.Continue label)) is target (All-nil (IsBuilt source))

pub built-return : (source : Source) (e : ℕ) (value : Option ExprId) → node source e ≡ Some (expr.Return value) → All (IsBuilt source) (optional value) → IsBuilt source e
built-return source e value is built = built-node source e (Some (expr.Return value)) is tt (subst (All (IsBuilt source)) (sym (tail_part value)) built)

-- the target that a jump means in the graph is one of those that are open around it
meant-opened : (label : Option LabelId) (targets : List OpenTarget) (target : OpenTarget) → meant_target label targets ≡ Some target → meant label (map (λ other. other.opened) targets) ≡ Some target.opened
unfolding meant_target meant
meant-opened label [] target is = absurd cc
meant-opened label (first ∷ outer) target is = by-test (is_meant label first.opened) (meant-opened label outer target) is where
  by-test : (test : Bool) → (meant_target label outer ≡ Some target → meant label (map (λ other. other.opened) outer) ≡ Some target.opened) → if test then Some first else meant_target label outer ≡ Some target → if test then Some first.opened else meant label (map (λ other. other.opened) outer) ≡ Some target.opened
  by-test true rest same = let one : first ≡ target = cc in ap (λ (t : OpenTarget). Some t.opened) one
  by-test false rest same = rest same

pub has-target : (source : Source) (s : Shape) (e : ℕ) (label : Option LabelId) (target : OpenTarget) → IsAround source s e → meant_target label s.targets ≡ Some target → HasTarget source e label
has-target source s e label target around is =
    record { opened = opened_of s; stands = around.stands; leads = record { target = target.opened; means = meant-opened label s.targets target is } }
