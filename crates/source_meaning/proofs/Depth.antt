-- What is evaluated where, and in which order expressions stand.
use Rattle.std.specs.Prelude.{flat_map, Contains}
use Rattle.std.proofs.lemmas.List.Elements.{Contains-append_left, Contains-append_right}
use Rattle.std.proofs.Common.{◌≡◌, ℕ, ◌≤◌, List, [], ◌∷◌, Option, Some, sym, subst, arith}
use Rattle.types.specs.declared.ids.StructId.{StructId}
use Rattle.types.specs.declared.ty.GenericArgs.{GenericArgs}
use Rattle.world.specs.declared.body.Statement.{Statement}
use Rattle.types.specs.declared.ids.ExprId.{ExprId}
use Rattle.types.specs.declared.operators.LogicOp.{LogicOp}
use Rattle.world.specs.Checked.{IsCheckedBody}
use Rattle.world.specs.Nodes.{optional}
use Rattle.numbers.specs.declared.operator.Operator.{Operator}
use Rattle.source_meaning.specs.Structs.{FieldSource}
use Rattle.source_meaning.specs.Core.{Assigned, Assignee, ElementAt, Operation, PlaceElem, Field, Strict, Update, Logic, If, Assign, Compound, Block, Call}
use Rattle.source_meaning.specs.Source.{Source, node}
use Rattle.source_meaning.specs.Steps.{parts_of, assigned_parts, assignee_parts, statement_parts}
use Rattle.source_meaning.specs.Valid.{Evaluates, itself, part, NeedsLayout, own, inside}
use Rattle.source_meaning.proofs.Core.{part_is_below}
use Rattle.source_meaning.proofs.Parts.{among, elem_parts, first_is_contained, rest_is_contained, strict_parts, update_parts, if_parts, compound_parts, block_parts, call_parts, sized_part_is_part}

-- what is evaluated where an expression is comes no later than it
pub evaluated_is_no_later : (source : Source) → IsCheckedBody source.body source.infer → {e f : ℕ} → Evaluates source e f → f ≤ e
evaluated_is_no_later source checked itself = omega arith
evaluated_is_no_later source checked (part {e = e} {child = child} within rest) =
    omega (arith, part_is_below source checked e child within, evaluated_is_no_later source checked rest)

-- what is evaluated where a part is, is evaluated where the whole is
pub evaluates_then : (source : Source) {a b c : ℕ} → Evaluates source a b → Evaluates source b c → Evaluates source a c
evaluates_then source itself further = further
evaluates_then source (part within rest) further = part within (evaluates_then source rest further)

-- what needs a layout is evaluated
pub needed_is_evaluated : (source : Source) {e f : ℕ} → NeedsLayout source e f → Evaluates source e f
needed_is_evaluated source own = itself
needed_is_evaluated source (inside {e = e} {child = child} within rest) = part (sized_part_is_part source (node source e) child within) (needed_is_evaluated source rest)

-- a field evaluates its base
pub field_base_is_part : (source : Source) (e base : ℕ) (field : PlaceElem) → node source e ≡ Some (Field base field) → Contains (parts_of (node source e)) base
field_base_is_part source e base field is = subst (λ form. Contains (parts_of form) base) (sym is) (first_is_contained base (elem_parts field))

-- and an element evaluates its index as well
pub field_index_is_part : (source : Source) (e base n index : ℕ) → node source e ≡ Some (Field base (ElementAt n index)) → Contains (parts_of (node source e)) index
field_index_is_part source e base n index is = subst (λ form. Contains (parts_of form) index) (sym is) (rest_is_contained base (index ∷ []) index (first_is_contained index []))

-- a strict form evaluates its operands
pub operand_is_part : (source : Source) (e : ℕ) (operation : Operation) (operands : List ℕ) (child : ℕ) → node source e ≡ Some (Strict operation operands) → Contains operands child → Contains (parts_of (node source e)) child
operand_is_part source e operation operands child is within =
    subst (λ form. Contains (parts_of form) child) (sym is) (subst (λ parts. Contains parts child) (sym (strict_parts operation operands)) within)

-- a struct literal with a base evaluates its operands
pub update_operand_is_part : (source : Source) (e base : ℕ) (id : StructId) (args : GenericArgs) (sources : List FieldSource) (operands : List ℕ) (child : ℕ) → node source e ≡ Some (Update base id args sources operands) → Contains operands child → Contains (parts_of (node source e)) child
update_operand_is_part source e base id args sources operands child is within =
    subst (λ form. Contains (parts_of form) child) (sym is) (subst (λ parts. Contains parts child) (sym (update_parts base id args sources operands)) (rest_is_contained base operands child within))

-- a call evaluates its arguments
pub argument_is_part : (source : Source) (e : ℕ) (callee : Option ℕ) (args : List ℕ) (child : ℕ) → node source e ≡ Some (Call callee args) → Contains args child → Contains (parts_of (node source e)) child
argument_is_part source e callee args child is within =
    subst (λ form. Contains (parts_of form) child) (sym is) (subst (λ parts. Contains parts child) (sym (call_parts callee args)) within)

-- `&&` and `||` evaluate both operands, the right one unless the left one decides
pub logic_operand_is_part : (source : Source) (e : ℕ) (op : LogicOp) (left right child : ℕ) → node source e ≡ Some (Logic op left right) → Contains (left ∷ right ∷ []) child → Contains (parts_of (node source e)) child
logic_operand_is_part source e op left right child is within = subst (λ form. Contains (parts_of form) child) (sym is) within

-- an `if` evaluates its condition and one of its branches
pub if_part_is_part : (source : Source) (e condition then_branch : ℕ) (else_branch : Option ExprId) (child : ℕ) → node source e ≡ Some (If condition then_branch else_branch) → Contains (condition ∷ then_branch ∷ optional else_branch) child → Contains (parts_of (node source e)) child
if_part_is_part source e condition then_branch else_branch child is within =
    subst (λ form. Contains (parts_of form) child) (sym is) (subst (λ parts. Contains parts child) (sym (if_parts condition then_branch else_branch)) within)

-- an assignment evaluates its value
pub assigned_is_part : (source : Source) (e : ℕ) (to : Assignee) (value : ℕ) → node source e ≡ Some (Assign to value) → Contains (parts_of (node source e)) value
assigned_is_part source e to value is = subst (λ form. Contains (parts_of form) value) (sym is) (first_is_contained value (assignee_parts to))

-- and the expression that its target is
pub assignee_is_part : (source : Source) (e : ℕ) (to : Assignee) (value child : ℕ) → node source e ≡ Some (Assign to value) → Contains (assignee_parts to) child → Contains (parts_of (node source e)) child
assignee_is_part source e to value child is within = subst (λ form. Contains (parts_of form) child) (sym is) (rest_is_contained value (assignee_parts to) child within)

-- a compound assignment evaluates its value
pub combined_is_part : (source : Source) (e : ℕ) (op : Operator) (to : Assigned) (value : ℕ) → node source e ≡ Some (Compound op to value) → Contains (parts_of (node source e)) value
combined_is_part source e op to value is =
    subst (λ form. Contains (parts_of form) value) (sym is) (subst (λ parts. Contains parts value) (sym (compound_parts op to value))
    (Contains-append_right (assigned_parts to) (value ∷ []) value (first_is_contained value [])))

-- and the base of the field that its target is
pub combined_target_is_part : (source : Source) (e : ℕ) (op : Operator) (to : Assigned) (value child : ℕ) → node source e ≡ Some (Compound op to value) → Contains (assigned_parts to) child → Contains (parts_of (node source e)) child
combined_target_is_part source e op to value child is within =
    subst (λ form. Contains (parts_of form) child) (sym is) (subst (λ parts. Contains parts child) (sym (compound_parts op to value))
    (Contains-append_left (assigned_parts to) (value ∷ []) child within))

-- a block evaluates what its statements do
pub statement_part_is_part : (source : Source) (e : ℕ) (statements : List Statement) (tail : Option ExprId) (one : Statement) (child : ℕ) → node source e ≡ Some (Block statements tail) → Contains statements one → Contains (statement_parts one) child → Contains (parts_of (node source e)) child
statement_part_is_part source e statements tail one child is there within =
    subst (λ form. Contains (parts_of form) child) (sym is) (subst (λ parts. Contains parts child) (sym (block_parts statements tail))
    (Contains-append_left (flat_map statement_parts statements) (optional tail) child (among statement_parts statements one child there within)))

-- and its tail
pub tail_is_part : (source : Source) (e : ℕ) (statements : List Statement) (tail : ExprId) → node source e ≡ Some (Block statements (Some tail)) → Contains (parts_of (node source e)) tail.0
tail_is_part source e statements tail is =
    subst (λ form. Contains (parts_of form) tail.0) (sym is) (subst (λ parts. Contains parts tail.0) (sym (block_parts statements (Some tail)))
    (Contains-append_right (flat_map statement_parts statements) (optional (Some tail)) tail.0 (first_is_contained tail.0 [])))
