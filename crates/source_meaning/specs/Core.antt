-- The expressions that have a meaning so far.
use Rattle.std.specs.Prelude.{ℕ, Bool, true, false, not, ◌||◌, ◌&&◌, ◌==◌, List, [], ◌∷◌, Option, Some, None, suc, is_some, if◌then◌else◌, ℤ, pos, option_map, option_and_then}
use Rattle.std.specs.BTreeMap.{is_at}
use Rattle.std.specs.List.{list_any}
use Rattle.std.specs.Map.{lookup}
use Rattle.either.specs.declared.Either.{Either}
use Rattle.either.specs.declared.Either.TheVariants.{Left, Right}
use Rattle.numbers.specs.declared.operator.Operator.{Operator}
use Rattle.numbers.specs.Operators.{kind_of, of_arith, of_compare}
use Rattle.types.specs.contracts.ids.ExprIdOrd.TheImpl as ExprIdOrd
use Rattle.types.specs.contracts.ids.PatIdOrd.TheImpl as PatIdOrd
use Rattle.types.specs.declared.ids.BindingId.{BindingId}
use Rattle.types.specs.declared.ids.ExprId.{ExprId}
use Rattle.types.specs.declared.ids.LabelId.{LabelId}
use Rattle.types.specs.declared.ids.FieldId.{FieldId}
use Rattle.types.specs.declared.ids.PatId.{PatId}
use Rattle.types.specs.declared.ids.StructId.{StructId}
use Rattle.types.specs.declared.ids.TupleFieldId.{TupleFieldId}
use Rattle.types.specs.declared.ids.VariantId.{VariantId}
use Rattle.types.specs.declared.ids.VariantId.TheVariants as variant
use Rattle.types.specs.declared.operators.ArithOp.{ArithOp}
use Rattle.types.specs.declared.operators.BinaryOp.{BinaryOp}
use Rattle.types.specs.declared.operators.BinaryOp.TheVariants as binary
use Rattle.types.specs.declared.operators.LogicOp.{LogicOp}
use Rattle.types.specs.declared.operators.UnaryOp.{UnaryOp}
use Rattle.types.specs.declared.operators.UnaryOp.TheVariants as unary
use Rattle.types.specs.declared.ty.GenericArgs.{GenericArgs}
use Rattle.types.specs.declared.ty.Ty.{Ty}
use Rattle.world.specs.declared.adjust.Adjust.{Adjust}
use Rattle.world.specs.declared.adjust.Adjust.TheVariants as adjust
use Rattle.world.specs.declared.adjust.Adjustment.{Adjustment}
use Rattle.world.specs.declared.body.Statement.{Statement}
use Rattle.world.specs.declared.database.HirDatabase.{HirDatabase}
use Rattle.world.specs.declared.expr.Expr.TheVariants as expr
use Rattle.world.specs.declared.expr.Expr.{Expr}
use Rattle.world.specs.declared.expr.RecordLitField.{RecordLitField}
use Rattle.world.specs.declared.expr.RecordSpread.{RecordSpread}
use Rattle.world.specs.declared.expr.RecordSpread.TheVariants as spread
use Rattle.world.specs.declared.infer.BindingMode.TheVariants as mode
use Rattle.world.specs.declared.infer.BindingMode.{BindingMode}
use Rattle.world.specs.declared.infer.InferenceResult.{InferenceResult}
use Rattle.world.specs.declared.infer.ValueNs.TheVariants as value
use Rattle.world.specs.declared.infer.ValueNs.{ValueNs}
use Rattle.world.specs.declared.literal.Literal.{Literal as SomeLiteral}
use Rattle.world.specs.declared.literal.Literal.TheVariants as literal
use Rattle.world.specs.declared.pat.Pat.TheVariants as pat
use Rattle.world.specs.declared.pat.Pat.{Pat}
use Rattle.world.specs.Lookups.{type_of}
use Rattle.world.specs.Nodes.{expr_numbers, field_numbers}
use Rattle.source_meaning.specs.Indices.{is_array, is_usize}
use Rattle.source_meaning.specs.Structs.{StructAt, FieldSource, all_places, all_sources, are_others_ready, places_in_order, ready_field, struct_args, struct_of}

-- a literal with a meaning: a truth value, a whole number, or a character, by its code point
pub data CoreLiteral : Type 0 where
  Truth : Bool → CoreLiteral
  Number : ℤ → CoreLiteral
  Character : ℕ → CoreLiteral

-- What is computed from operands that are all evaluated: unary minus, `!`, an operator on two operands, or a cast, which either is a
-- coercion and keeps the bytes as they are, or converts a number, a truth value or a character to a type of another size or sign.
-- Besides, values that have parts: a tuple and an array of the operands, an array of one operand as often as its type says, and a struct, at
-- generic arguments, each field of which is the operand at its place.
pub data Operation : Type 0 where
  Negate : Operation
  Invert : Operation
  Keep : Operation
  Convert : Operation
  Combine : Operator → Operation
  MakeTuple : Operation
  MakeArray : Operation
  Repeat : Operation
  MakeStruct : (id : StructId) → (args : GenericArgs) → (places : List ℕ) → Operation

-- One step from a value into it: to the part of a tuple at an index, to a field of a struct, or to an element of an array. An index expression
-- `e` leads to the element whose number the expression `index` has.
pub data PlaceElem : Type 0 where
  Part : (index : ℕ) → PlaceElem
  FieldOf : (field : FieldId) → PlaceElem
  ElementAt : (e index : ℕ) → PlaceElem

-- What an assignment writes to, which is its assignee in the Rust Reference, by the pattern that its target is: the place of the expression
-- that the pattern holds, or what any other pattern says. So far only a path to a binding says something.
pub data Assignee : Type 0 where
  ByPattern : (pat : ℕ) → Assignee
  ByPlace : (e : ℕ) → Assignee

-- What a compound assignment reads and writes, which is its assigned operand in the Rust Reference, by the expression that its left operand
-- is: a part of a tuple, a field of a struct or an element of an array, by its base and the step into it, or what any other expression names. So far
-- only a path to a binding names something.
pub data Assigned : Type 0 where
  ByPath : (e : ℕ) → Assigned
  ByField : (base : ℕ) → (elem : PlaceElem) → Assigned

-- An expression of a form that has a meaning. A strict form evaluates all its operands from left to right, and then
-- computes one operation. `&&` and `||` evaluate their right operand only where the left one doesn't decide, and `if` one of
-- its branches. An assignment writes a value to what its target names, and a compound one what an operator makes of what lies there and the value. A `loop` evaluates its body again and again. A `break`
-- ends a loop or a labelled block around it, with a value or without, and a `continue` starts it again. A `return` ends the
-- body, with a value or without. A call evaluates its arguments from left to right, and then enters the body of a function: the one that
-- its callee's type names, or, where it is a method call, the one that it is resolved to; the receiver is its first argument. A call of the constructor
-- of a struct enters no body: like a struct literal it is a strict form, which makes the struct. A field is
-- a part of its base, which is a tuple, a struct or an array; so an index expression is one as well, whose base has its place before the index is
-- evaluated. A struct literal with a base has the base's place first, then operands from left to right, and
-- makes a struct of both; for each field of the struct, in the order of its row, it has what gives the field (`FieldSource`). A path to a
-- unit struct is a value without parts.
pub data CoreExpr : Type 0 where
  Literal : CoreLiteral → CoreExpr
  Path : (name : List ℕ) → CoreExpr
  UnitStruct : CoreExpr
  Field : (base : ℕ) → (elem : PlaceElem) → CoreExpr
  Strict : Operation → (operands : List ℕ) → CoreExpr
  Update : (base : ℕ) → (id : StructId) → (args : GenericArgs) → (sources : List FieldSource) → (operands : List ℕ) → CoreExpr
  Logic : LogicOp → (left right : ℕ) → CoreExpr
  If : (condition then_branch : ℕ) → (else_branch : Option ExprId) → CoreExpr
  Assign : Assignee → (value : ℕ) → CoreExpr
  Compound : Operator → Assigned → (value : ℕ) → CoreExpr
  Block : List Statement → (tail : Option ExprId) → CoreExpr
  Labelled : LabelId → List Statement → (tail : Option ExprId) → CoreExpr
  Loop : (label : Option LabelId) → (body : ℕ) → CoreExpr
  Break : (label : Option LabelId) → (value : Option ExprId) → CoreExpr
  Continue : (label : Option LabelId) → CoreExpr
  Return : (value : Option ExprId) → CoreExpr
  Call : (callee : Option ℕ) → (args : List ℕ) → CoreExpr

-- a literal of a kind that has a meaning: a truth value, a whole number or a character
abbrev pub core_literal : SomeLiteral → Option CoreLiteral
core_literal (literal.Bool test) = Some (Truth test)
core_literal (literal.Int number suffix) = Some (Number number)
core_literal (literal.Uint number suffix) = Some (Number (pos number))
core_literal (literal.Char code) = Some (Character code)
core_literal _ = None

-- the operation of an operator on one operand, where it is one on values
abbrev pub unary_operation : UnaryOp → Option Operation
unary_operation unary.Neg = Some Negate
unary_operation unary.Not = Some Invert
unary_operation unary.Deref = None

-- an operator that always evaluates both its operands
abbrev pub eager_form : ℕ → ℕ → Operator → CoreExpr
eager_form lhs rhs op = Strict (Combine op) (lhs ∷ rhs ∷ [])

-- a compound assignment, which has an operator
abbrev pub compound_form : Assigned → ℕ → Option ArithOp → Option CoreExpr
compound_form to rhs (Some op) = Some (Compound (of_arith op) to rhs)
compound_form to rhs None = None

-- An operator on two operands: one on values, which always evaluates both, `&&` or `||`, or one that assigns what it makes. `to`: what the
-- left operand is as the target of an assignment.
abbrev pub binary_form : (to : Assigned) → ℕ → ℕ → BinaryOp → Option CoreExpr
binary_form to lhs rhs (binary.ArithOp op) = Some (eager_form lhs rhs (of_arith op))
binary_form to lhs rhs (binary.CmpOp op) = Some (eager_form lhs rhs (of_compare op))
binary_form to lhs rhs (binary.LogicOp op) = Some (Logic op lhs rhs)
binary_form to lhs rhs (binary.Assignment op) = compound_form to rhs op

-- an operator on one operand, where it has a meaning
abbrev pub unary_form : ℕ → Option Operation → Option CoreExpr
unary_form e operation = option_map (λ op. Strict op (e ∷ [])) operation

-- the step to a field, by what has it and by the type of the base: so far one of a struct, which the base is, of a type that needn't be made at the
-- base's generic arguments, and none of a variant or a union
abbrev pub step_to : HirDatabase → (base : Option Ty) → FieldId → VariantId → Option PlaceElem
step_to world base field (variant.StructId id) =
    if is_some (option_and_then (ready_field world id field.local_id) (option_and_then (struct_args id) base)) then Some (FieldOf field) else None
step_to world base field _ = None

-- the step that a field expression takes, by the type of its base and by what inference resolved it to. The name that is written isn't looked at.
abbrev pub field_step : HirDatabase → (base : Option Ty) → Either FieldId TupleFieldId → Option PlaceElem
field_step world base (Left field) = step_to world base field field.parent
field_step world base (Right field) = Some (Part field.index)

-- A struct literal with a base, which gives the fields that aren't written. It has a meaning where each written field is one of the struct's and
-- stands once, and so far where the type of each other field needn't be made at the struct's generic arguments.
abbrev pub update_form : (base : ℕ) → StructAt → List RecordLitField → Option CoreExpr
update_form base made written =
    if are_others_ready made.args made.fields written then option_map (λ sources. Update base made.id made.args sources (field_numbers written)) (all_sources made.id made.fields written) else None

-- A struct literal, by the struct that it makes and the fields that are written: without a base, each field of the struct has to be written
-- once. One of a variant or a union has no meaning so far.
abbrev pub record_form : Option StructAt → List RecordLitField → RecordSpread → Option CoreExpr
record_form (Some made) written spread.None =
    option_map (λ places. Strict (MakeStruct made.id made.args places) (field_numbers written)) (all_places made.fields written)
record_form (Some made) written (spread.Expr base) = update_form base.0 made written
record_form _ written _ = None

-- A call, by the struct whose constructor the callee is, if it is one: a constructor makes the struct, and its arguments give the fields in their order.
-- With any other callee it is a call of a function, which has a meaning where the callee is one.
abbrev pub call_form : Option StructAt → (callee : ExprId) → (args : List ExprId) → Option CoreExpr
call_form (Some made) callee args =
    option_map (λ places. Strict (MakeStruct made.id made.args places) (expr_numbers args)) (places_in_order made.fields args)
call_form None callee args = Some (Call (Some callee.0) (expr_numbers args))

-- a path: a value of a unit struct, or else a name, if it isn't resolved to an item
abbrev pub path_form : (names_unit names_item : Bool) → (name : List ℕ) → Option CoreExpr
path_form true names_item name = Some UnitStruct
path_form false true name = None
path_form false false name = Some (Path name)

-- What the form of an expression depends on besides the expression itself.
pub record Findings : Type 0 where
  -- whether it is resolved to a struct, and is of the type of that struct
  pub names_unit : Bool
  -- whether it is a path that is resolved to an item of a trait or an impl, or to a variant
  pub names_item : Bool
  -- what it computes, where it is a cast of an operand that has a meaning
  pub casts : ExprId → Option Operation
  -- the step that it takes from its base, where it names a field
  pub field : ExprId → Option PlaceElem
  -- the step that it takes from its base, where it is an index expression
  pub element : (base index : ExprId) → Option PlaceElem
  -- the struct that it makes a value of, where it is resolved to one
  pub made : Option StructAt
  -- the struct that it makes of its arguments, where it calls what is the constructor of one
  pub constructed : ExprId → Option StructAt
  -- what a pattern is as the target of an assignment
  pub assignee : PatId → Assignee
  -- what an expression is as the target of a compound assignment
  pub assigned : ExprId → Assigned

-- The form of an expression, where it is one with a meaning.
abbrev pub core_of : Findings → Expr → Option CoreExpr
core_of found (expr.Literal given) = option_map Literal (core_literal given)
core_of found (expr.Path name) = path_form found.names_unit found.names_item name
core_of found (expr.Field base name) = option_map (Field base.0) (found.field base)
core_of found (expr.Index base index) = option_map (Field base.0) (found.element base index)
core_of found (expr.UnaryOp e op) = unary_form e.0 (unary_operation op)
core_of found (expr.Cast operand) = unary_form operand.0 (found.casts operand)
core_of found (expr.BinaryOp lhs rhs op) = option_and_then (binary_form (found.assigned lhs) lhs.0 rhs.0) op
core_of found (expr.If condition then_branch else_branch) = Some (If condition.0 then_branch.0 else_branch)
core_of found (expr.Assignment target value) = Some (Assign (found.assignee target) value.0)
core_of found (expr.Block statements tail None) = Some (Block statements tail)
core_of found (expr.Block statements tail (Some label)) = Some (Labelled label statements tail)
core_of found (expr.Loop body label) = Some (Loop label body.0)
core_of found (expr.Break value label) = Some (Break label value)
core_of found (expr.Continue label) = Some (Continue label)
core_of found (expr.Return value) = Some (Return value)
core_of found (expr.Call callee args) = call_form (found.constructed callee) callee args
core_of found (expr.MethodCall receiver args name) = Some (Call None (receiver.0 ∷ expr_numbers args))
core_of found (expr.Tuple parts) = Some (Strict MakeTuple (expr_numbers parts))
core_of found (expr.Array elements) = Some (Strict MakeArray (expr_numbers elements))
core_of found (expr.Repeat initializer) = Some (Strict Repeat (initializer.0 ∷ []))
core_of found (expr.RecordLit path written base) = record_form found.made written base
core_of found _ = None

-- the type that a step leads to, where it is `NeverToAny`, the one from `!` to any type
abbrev pub never_step : Adjust → Ty → Option Ty
never_step adjust.NeverToAny ty = Some ty
never_step _ ty = None

-- the type that adjustments lead to, where they are `NeverToAny` alone
abbrev pub never_steps : Option (List Adjustment) → Option Ty
never_steps (Some (step ∷ [])) = never_step step.kind step.target
never_steps _ = None

-- whether there are adjustments, and they are not `NeverToAny` alone
abbrev pub are_other_steps : Option (List Adjustment) → Bool
are_other_steps (Some (step ∷ [])) = not (is_some (never_step step.kind step.target))
are_other_steps (Some (step ∷ other ∷ steps)) = true
are_other_steps _ = false

-- The type that an expression's value is adjusted to, where `NeverToAny` is its only adjustment. The expression itself is of
-- type `!` then: it has no value, so it may stand where one of any type is asked for.
unfoldable pub never_target : InferenceResult → ExprId → Option Ty
never_target infer e = never_steps (lookup (is_at (ExprIdOrd.ghosts.cmp e)) infer.expr_adjustments)

-- whether an expression's value is adjusted before it is used, in another way than by `NeverToAny` alone
unfoldable pub is_adjusted_otherwise : InferenceResult → ExprId → Bool
is_adjusted_otherwise infer e = are_other_steps (lookup (is_at (ExprIdOrd.ghosts.cmp e)) infer.expr_adjustments)

-- a type after an adjustment to another, where there is one
abbrev pub type_after : Option Ty → Option Ty → Option Ty
type_after (Some target) own = Some target
type_after None own = own

-- the type of an expression's value, after `NeverToAny`
abbrev pub value_type : InferenceResult → ExprId → Option Ty
value_type infer e = type_after (never_target infer e) (type_of infer e.0)

-- whether a type is an integer type, `bool` or `char`
abbrev pub is_number_type : Option Ty → Bool
is_number_type ty = is_some (option_and_then kind_of ty)

-- whether a cast of an operand is a coercion, which inference found
abbrev pub is_coercion : InferenceResult → ExprId → Bool
is_coercion infer operand = list_any (λ (cast : ExprId). cast.0 == operand.0) infer.coercion_casts

-- What the cast that an expression is computes, by its operand: a coercion keeps the bytes, and a cast between integers, `bool` and
-- `char` converts them. No other cast has a meaning so far.
unfoldable pub cast_operation : InferenceResult → (cast operand : ExprId) → Option Operation
cast_operation infer cast operand =
    if is_coercion infer operand then Some Keep
    else if is_number_type (value_type infer operand) && is_number_type (type_of infer cast.0) then Some Convert
    else None

-- what a field is resolved to, where it is
abbrev pub field_named : InferenceResult → ExprId → Option (Either FieldId TupleFieldId)
field_named infer e = lookup (is_at (ExprIdOrd.ghosts.cmp e)) infer.field_res

-- the step that a field expression takes from its base
abbrev pub field_taken : HirDatabase → InferenceResult → (e base : ExprId) → Option PlaceElem
field_taken world infer e base = option_and_then (field_step world (value_type infer base)) (field_named infer e)

-- The step that an index expression takes from its base: that to an element, where the base is an array and the index a `usize`. No other index
-- has a meaning so far; that of a type of the program is a call.
abbrev pub element_taken : InferenceResult → (e base index : ExprId) → Option PlaceElem
element_taken infer e base index =
    if is_array (value_type infer base) && is_usize (value_type infer index) then Some (ElementAt e.0 index.0) else None

-- whether a path is resolved to an associated item or a variant
unfoldable pub names_item : InferenceResult → ExprId → Bool
names_item infer e =
    is_some (lookup (is_at (ExprIdOrd.ghosts.cmp e)) infer.assoc_res)
    || is_some (lookup (is_at (ExprIdOrd.ghosts.cmp e)) infer.variant_res)

-- The struct that a path is resolved to: that of `variant_res`, or, where it has no entry there, that of `value_res`. There `Self` is the struct that the
-- path's own type is.
abbrev pub struct_named : (own : Option StructId) → Option VariantId → Option ValueNs → Option StructId
struct_named own (Some (variant.StructId id)) named = Some id
struct_named own None (Some (value.StructId id)) = Some id
struct_named own None (Some value.ImplSelf) = own
struct_named own _ named = None

-- Whether a path is resolved to a struct, and has the type of that struct before it is adjusted. Then it is taken for a value of a unit struct; that the
-- struct has no fields is asked of plain bodies alone.
unfoldable pub names_unit : InferenceResult → ExprId → Bool
names_unit infer e =
    not (is_some (lookup (is_at (ExprIdOrd.ghosts.cmp e)) infer.assoc_res))
    && is_some (option_and_then (λ id. option_and_then (struct_args id) (type_of infer e.0))
    (struct_named (option_and_then struct_of (type_of infer e.0)) (lookup (is_at (ExprIdOrd.ghosts.cmp e)) infer.variant_res) (lookup (is_at (ExprIdOrd.ghosts.cmp e)) infer.value_res)))

-- the binding of a pattern that is a name and no more
abbrev pub name_of : Pat → Option BindingId
name_of (pat.Bind id None) = Some id
name_of _ = None

abbrev pub is_by_reference : Option BindingMode → Bool
is_by_reference (Some (mode.Ref mutability)) = true
is_by_reference _ = false

abbrev pub is_positive : Option ℕ → Bool
is_positive (Some (suc n)) = true
is_positive _ = false

-- whether a pattern binds by reference, or dereferences the value first
unfoldable pub is_adjusted_pattern : InferenceResult → PatId → Bool
is_adjusted_pattern infer p =
    is_by_reference (lookup (is_at (PatIdOrd.ghosts.cmp p)) infer.binding_modes)
    || is_positive (lookup (is_at (PatIdOrd.ghosts.cmp p)) infer.pat_adjustments)

-- whether a pattern is a path that is resolved to an associated item or a variant
unfoldable pub pattern_names_item : InferenceResult → PatId → Bool
pattern_names_item infer p =
    is_some (lookup (is_at (PatIdOrd.ghosts.cmp p)) infer.pat_assoc_res)
    || is_some (lookup (is_at (PatIdOrd.ghosts.cmp p)) infer.pat_variant_res)

-- whether a pattern dereferences the value first
unfoldable pub is_dereferenced_pattern : InferenceResult → PatId → Bool
is_dereferenced_pattern infer p = is_positive (lookup (is_at (PatIdOrd.ghosts.cmp p)) infer.pat_adjustments)

-- a base, and the step from it
abbrev pub step_from : (base : ℕ) → Option PlaceElem → Option (ℕ × PlaceElem)
step_from base step = option_map (λ elem. (base, elem)) step

-- the base and the step of the field or the element that an expression is, where it is one, by the steps that it would take
abbrev pub part_in : (field : ExprId → Option PlaceElem) → (element : (base index : ExprId) → Option PlaceElem) → Expr → Option (ℕ × PlaceElem)
part_in field element (expr.Field base name) = step_from base.0 (field base)
part_in field element (expr.Index base index) = step_from base.0 (element base index)
part_in field element _ = None

-- the expression that a pattern holds as the target of an assignment
abbrev pub expr_in : Pat → Option ExprId
expr_in (pat.Expr e) = Some e
expr_in _ = None

-- the text of a pattern that is a path
abbrev pub path_of : Pat → Option (List ℕ)
path_of (pat.Path name) = Some name
path_of _ = None

-- the text of an expression that is a path
abbrev pub named_path : Expr → Option (List ℕ)
named_path (expr.Path name) = Some name
named_path _ = None

-- whether there are adjustments
abbrev pub are_any : Option (List Adjustment) → Bool
are_any (Some (step ∷ steps)) = true
are_any _ = false

-- whether there is more than one adjustment
abbrev pub are_many : Option (List Adjustment) → Bool
are_many (Some (step ∷ other ∷ steps)) = true
are_many _ = false

-- whether an expression's value is adjusted by more than one step
unfoldable pub is_adjusted_twice : InferenceResult → ExprId → Bool
is_adjusted_twice infer e = are_many (lookup (is_at (ExprIdOrd.ghosts.cmp e)) infer.expr_adjustments)

-- the binding that a path names, where it names one
abbrev pub local_named : ValueNs → Option BindingId
local_named (value.LocalBinding id) = Some id
local_named _ = None

-- whether an expression is a literal
abbrev pub is_literal : Option CoreExpr → Bool
is_literal (Some (Literal given)) = true
is_literal _ = false

-- whether an expression is `true` or `false`
abbrev pub is_truth : Option CoreExpr → Bool
is_truth (Some (Literal (Truth test))) = true
is_truth _ = false

-- whether an expression is a path, which names a place as it stands
abbrev pub is_path : Option CoreExpr → Bool
is_path (Some (Path name)) = true
is_path _ = false

-- whether an expression whose value isn't adjusted names a place, and so is given no temporary: a path, or a field or an element
abbrev pub is_place : Option CoreExpr → Bool
is_place (Some (Path name)) = true
is_place (Some (Field base field)) = true
is_place _ = false

-- an expression that is no call of a function
abbrev pub IsNoCall : Option CoreExpr → Type 0
IsNoCall (Some (Call callee args)) = ⊥
IsNoCall _ = Unit {0}
