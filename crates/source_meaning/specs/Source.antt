-- A typed body in its world, its nodes, and the cells that hold their values.
use Rattle.std.specs.Prelude.{◌≡◌, ◌==◌, ◌||◌, ◌&&◌, ℕ, Bool, true, false, cond, List, [], ◌∷◌, ◌++◌, length, filter, flat_map, not, replicate, Option, Some, None, is_some, slice_get, unwrap_or, option_map, option_and_then, if◌then◌else◌}
use Rattle.std.specs.BTreeMap.{is_at}
use Rattle.std.specs.List.{list_any}
use Rattle.std.specs.Map.{lookup}
use Rattle.types.specs.contracts.ids.ExprIdOrd.TheImpl as ExprIdOrd
use Rattle.types.specs.contracts.ids.PatIdOrd.TheImpl as PatIdOrd
use Rattle.world.specs.declared.adjust.Adjustment.{Adjustment}
use Rattle.world.specs.declared.body.Body.{Body}
use Rattle.world.specs.declared.database.HirDatabase.{HirDatabase}
use Rattle.world.specs.declared.expr.Expr.{Expr}
use Rattle.world.specs.declared.expr.Expr.TheVariants as expr
use Rattle.world.specs.declared.infer.InferenceResult.{InferenceResult}
use Rattle.world.specs.declared.infer.ValueNs.{ValueNs}
use Rattle.world.specs.declared.layout.Layout.{Layout}
use Rattle.types.specs.declared.ty.GenericArg.{GenericArg}
use Rattle.types.specs.declared.ty.Ty.{Ty}
use Rattle.types.specs.declared.ids.BindingId.{BindingId}
use Rattle.types.specs.declared.ids.ExprId.{ExprId}
use Rattle.types.specs.declared.ids.PatId.{PatId}
use Rattle.types.specs.declared.ids.VariantId.{VariantId}
use Rattle.world.specs.Lookups.{layout_of, type_of, expr_of, is_copy}
use Rattle.numbers.specs.Constants.{number_of_bytes}
use Rattle.source_meaning.specs.Contents.{Contents, bytes_in, holding}
use Rattle.source_meaning.specs.Core.{Assigned, Assignee, ByField, ByPath, ByPattern, ByPlace, CoreExpr, Findings, PlaceElem, are_any, cast_operation, core_of, element_taken, expr_in, field_taken, is_adjusted_otherwise, is_adjusted_twice, named_path, part_in, type_after, is_adjusted_pattern, is_dereferenced_pattern, path_of, pattern_names_item, local_named, name_of, names_item, names_unit, never_target}
use Rattle.source_meaning.specs.Structs.{StructAt, struct_constructed, struct_made}

-- a typed body in its world, and the arguments of its generics, of which there are none in any body that has a meaning so far
pub record Source : Type 0 where
  pub world : HirDatabase
  pub body : Body
  pub infer : InferenceResult
  pub args : List GenericArg

-- a body without generics, as a source in its world
abbrev pub monomorphic : HirDatabase → Body → InferenceResult → Source
monomorphic world body infer = record { world = world; body = body; infer = infer; args = [] }

-- the expression that a pattern of the source holds, where it isn't dereferenced
unfoldable pub pattern_expr : Source → ℕ → Option ExprId
pattern_expr source p = if is_dereferenced_pattern source.infer (record { 0 = p }) then None else option_and_then expr_in (slice_get source.body.pats p)

-- what a pattern is as the target of an assignment
abbrev pub assignee_by : ℕ → Option ExprId → Assignee
assignee_by p (Some e) = ByPlace e.0
assignee_by p None = ByPattern p

abbrev pub assignee : Source → PatId → Assignee
assignee source p = assignee_by p.0 (pattern_expr source p.0)

-- The base and the step of the field or the element that an expression is as the left operand of a compound assignment, where it is one. One
-- adjustment, of whatever kind, isn't looked at: inference adds one there, by which an operator's method would borrow the operand.
unfoldable pub assigned_field : Source → ℕ → Option (ℕ × PlaceElem)
assigned_field source e =
    if is_adjusted_twice source.infer (record { 0 = e }) then None
    else option_and_then (part_in (field_taken source.world source.infer (record { 0 = e })) (element_taken source.infer (record { 0 = e }))) (expr_of source.body e)

-- what an expression is as the target of a compound assignment
abbrev pub assigned_by : ℕ → Option (ℕ × PlaceElem) → Assigned
assigned_by e (Some field) = ByField field.0 field.1
assigned_by e None = ByPath e

abbrev pub assigned : Source → ExprId → Assigned
assigned source e = assigned_by e.0 (assigned_field source e.0)

-- the struct, variant or union that an expression is resolved to
abbrev pub variant_named : Source → ℕ → Option VariantId
variant_named source e = lookup (is_at (ExprIdOrd.ghosts.cmp (record { 0 = e }))) source.infer.variant_res

-- the adjustments of an expression's value, where it is listed with some
abbrev pub adjustments : Source → ℕ → Option (List Adjustment)
adjustments source e = lookup (is_at (ExprIdOrd.ghosts.cmp (record { 0 = e }))) source.infer.expr_adjustments

-- whether a call is listed as one whose callee must not return
abbrev pub is_marked : Source → (call : ℕ) → Bool
is_marked source e = list_any (λ (call : ExprId). call.0 == e) source.infer.diverging

-- the struct whose constructor a callee of the source is, where it is a path of the type of one, and isn't adjusted
unfoldable pub constructor_at : Source → (callee : ExprId) → Option StructAt
constructor_at source callee =
    if are_any (adjustments source callee.0) then None
    else option_and_then (λ name. option_and_then (struct_constructed source.world) (type_of source.infer callee.0)) (option_and_then named_path (expr_of source.body callee.0))

-- the struct that a call makes of its arguments, where it is one of a constructor; one that is listed as not returning has no meaning so far
abbrev pub constructed : Source → (call : ℕ) → (callee : ExprId) → Option StructAt
constructed source e callee = if is_marked source e then None else constructor_at source callee

-- what the form of an expression of the source depends on
abbrev pub findings : Source → ℕ → Findings
findings source e = record {
  names_unit = names_unit source.infer (record { 0 = e });
  names_item = names_item source.infer (record { 0 = e });
  casts = cast_operation source.infer (record { 0 = e });
  field = field_taken source.world source.infer (record { 0 = e });
  element = element_taken source.infer (record { 0 = e });
  made = struct_made source.world (variant_named source e) (type_of source.infer e);
  constructed = constructed source e;
  assignee = assignee source;
  assigned = assigned source;
}

-- the base of an index expression
abbrev pub base_in : Expr → List ExprId
base_in (expr.Index base index) = base ∷ []
base_in _ = []

-- the bases of the index expressions among expressions
unfoldable pub index_bases : List Expr → List ExprId
index_bases exprs = flat_map base_in exprs

-- Whether an expression is the base of an index expression, and is adjusted at most once. That adjustment, of any other kind than `NeverToAny`, isn't
-- looked at: inference adds one there, by which the method of `Index` would borrow the base. In a checked world an expression stands in one other at
-- most, but for the root, which is none here.
abbrev pub is_indexed_itself : Source → ℕ → Bool
is_indexed_itself source e =
    list_any (λ (base : ExprId). base.0 == e) (index_bases source.body.exprs)
    && not (e == source.body.body_expr.0)
    && not (is_adjusted_twice source.infer (record { 0 = e }))

-- whether an expression's value is adjusted before it is used, in another way than by `NeverToAny` alone, and that is looked at
unfoldable pub is_adjusted : Source → ℕ → Bool
is_adjusted source e = is_adjusted_otherwise source.infer (record { 0 = e }) && not (is_indexed_itself source e)

-- an expression itself, as it is before its value is adjusted, where it is of a form with a meaning and its only adjustment, if
-- any, is `NeverToAny`, or isn't looked at
unfoldable pub node : Source → ℕ → Option CoreExpr
node source e =
    if is_adjusted source e then None
    else option_and_then (core_of (findings source e)) (expr_of source.body e)

-- whether an expression's value is adjusted by `NeverToAny`
abbrev pub diverges : Source → ℕ → Bool
diverges source e = is_some (never_target source.infer (record { 0 = e }))

-- what an expression is for those that use its value: itself, where its value isn't adjusted
abbrev pub unadjusted : Source → ℕ → Option CoreExpr
unadjusted source e = cond (diverges source e) None (node source e)

-- the type of an expression itself, and of its value after `NeverToAny`, where it is adjusted by that
unfoldable pub own_type : Source → ℕ → Option Ty
own_type source e = type_of source.infer e

unfoldable pub node_type : Source → ℕ → Option Ty
node_type source e = type_after (never_target source.infer (record { 0 = e })) (own_type source e)

-- the type of a binding that no closure owns, and of a pattern

unfoldable pub binding_type : Source → ℕ → Option Ty
binding_type source b = option_and_then (λ binding. if is_some binding.owner then None else slice_get source.infer.binding_types b) (slice_get source.body.bindings b)

unfoldable pub pattern_type : Source → ℕ → Option Ty
pattern_type source p = slice_get source.infer.pat_types p

-- the layout of an expression's own type
abbrev pub own_layout : Source → ℕ → Option Layout
own_layout source e = option_and_then (layout_of source.world) (own_type source e)

-- the binding that a pattern of the source binds, where it is a name that binds by value
unfoldable pub pattern : Source → ℕ → Option BindingId
pattern source p = if is_adjusted_pattern source.infer (record { 0 = p }) then None else option_and_then name_of (slice_get source.body.pats p)

-- the path that the target of an assignment is, where it is one that isn't dereferenced, nor resolved to an item of a trait or
-- an impl, or to a variant
unfoldable pub target_path : Source → ℕ → Option (List ℕ)
target_path source p =
    if is_dereferenced_pattern source.infer (record { 0 = p }) || pattern_names_item source.infer (record { 0 = p })
    then None
    else option_and_then path_of (slice_get source.body.pats p)

-- what the path that a pattern is names
abbrev pub pattern_named_by : Source → ℕ → Option ValueNs
pattern_named_by source p = lookup (is_at (PatIdOrd.ghosts.cmp (record { 0 = p }))) source.infer.pat_value_res

-- the binding that the target of an assignment names, where it is a path to one
abbrev pub target : Source → ℕ → Option BindingId
target source p = option_and_then (λ name. option_and_then local_named (pattern_named_by source p)) (target_path source p)

-- what the path that an expression is names
abbrev pub named_by : Source → ℕ → Option ValueNs
named_by source e = lookup (is_at (ExprIdOrd.ghosts.cmp (record { 0 = e }))) source.infer.value_res

-- The path that the target of a compound assignment is, where it is one that isn't resolved to an item of a trait or an impl, or to a
-- variant. The one adjustment by which an operator's method would borrow it isn't looked at.
unfoldable pub compound_path : Source → ℕ → Option (List ℕ)
compound_path source e =
    if is_adjusted_twice source.infer (record { 0 = e }) || names_item source.infer (record { 0 = e })
    then None
    else option_and_then named_path (expr_of source.body e)

-- the binding that the target of a compound assignment names, where it is a path to one
abbrev pub compound_target : Source → ℕ → Option BindingId
compound_target source e = option_and_then (λ name. option_and_then local_named (named_by source e)) (compound_path source e)

-- the expression that the body is
abbrev pub root : Source → ℕ
root source = source.body.body_expr.0

-- What holds a value while a body is evaluated: the place that its result goes to, one cell for each binding that no
-- closure owns, one for each expression that is evaluated to a place and is none itself, one for the `!` of each that is
-- adjusted by `NeverToAny`, and one for the index of each index expression.
pub data Cell : Type 0 where
  Result : Cell
  Node : (e : ℕ) → Cell
  Binding : (b : ℕ) → Cell
  Never : (e : ℕ) → Cell
  IndexOf : (e : ℕ) → Cell

-- the index of an index expression
abbrev pub index_in : Expr → Option ℕ
index_in (expr.Index base index) = Some index.0
index_in _ = None

-- the index of an expression of the source, where it is an index expression
abbrev pub index_of : Source → ℕ → Option ℕ
index_of source e = option_and_then index_in (expr_of source.body e)

-- the type of a cell's value
abbrev pub cell_type : Source → Cell → Option Ty
cell_type source Result = node_type source (root source)
cell_type source (Node e) = node_type source e
cell_type source (Binding b) = binding_type source b
cell_type source (Never e) = cond (diverges source e) (own_type source e) None
cell_type source (IndexOf e) = option_and_then (node_type source) (index_of source e)

abbrev pub cell_layout : Source → Cell → Option Layout
cell_layout source cell = option_and_then (layout_of source.world) (cell_type source cell)

-- how many bytes a cell has: as many as its type's layout says, and none without one
abbrev pub cell_size : Source → Cell → ℕ
cell_size source cell = unwrap_or (option_map (λ layout. layout.size) (cell_layout source cell)) 0

abbrev pub same_cell : Cell → Cell → Bool
same_cell Result Result = true
same_cell (Node e) (Node f) = e == f
same_cell (Binding b) (Binding c) = b == c
same_cell (Never e) (Never f) = e == f
same_cell (IndexOf e) (IndexOf f) = e == f
same_cell _ _ = false

-- the cell that a pattern binds
abbrev pub bound_by : Option BindingId → List Cell
bound_by (Some id) = Binding id.0 ∷ []
bound_by None = []

-- whether a value of a type is dropped at the end of its scope: where the type isn't listed as `Copy`
abbrev pub is_dropped_type : Source → Option Ty → Bool
is_dropped_type source (Some ty) = not (is_copy source.infer ty)
is_dropped_type source None = false

abbrev pub is_dropped : Source → Cell → Bool
is_dropped source cell = is_dropped_type source (cell_type source cell)

-- how many of these cells are dropped where their scope is left
abbrev pub drops : Source → List Cell → ℕ
drops source cells = length (filter (is_dropped source) cells)

-- where a value is written: to all of a cell
pub record Path : Type 0 where
  pub cell : Cell

-- Where a value is read: a cell, or what elements lead to in it, the first one applied first. Places are read late: when an operation
-- runs.
pub record Place : Type 0 where
  pub cell : Cell
  pub projection : List PlaceElem

-- all of a cell, as a place
abbrev pub whole : Cell → Place
whole cell = record { cell = cell; projection = [] }

-- what an element leads to from a place
abbrev pub projected : PlaceElem → Place → Place
projected elem place = record { cell = place.cell; projection = place.projection ++ elem ∷ [] }

-- the `!` cell of an expression under `NeverToAny`, which is marked as live before the cells of its parts
abbrev pub never_marks : Source → ℕ → List Cell
never_marks source e = cond (diverges source e) (Never e ∷ []) []

-- where an expression itself goes that is evaluated into a place: what is adjusted by `NeverToAny` has no value for the place,
-- and goes to a cell of its own
abbrev pub own_path : Source → ℕ → Path → Path
own_path source e path = cond (diverges source e) (record { cell = Never e }) path

-- what each cell holds
abbrev pub Store : Type 0
Store = Cell → Contents

-- each cell has the size of its type, and is zero
abbrev pub zeroed : Source → Store
zeroed source = λ cell. holding (replicate (cell_size source cell) 0)

-- each cell holds as many elements as its type has bytes
pub record IsSized (source : Source) (store : Store) : Type 0 where
  pub holds_all : (cell : Cell) → length (store cell) ≡ cell_size source cell

-- the store with other contents in one cell
abbrev pub with_cell_bytes : Store → Cell → Contents → Store
with_cell_bytes store cell contents = λ other. cond (same_cell cell other) contents (store other)

-- the number that the cell of an index expression's index holds, where it has at most 16 bytes
abbrev pub number_held : Store → (e : ℕ) → Option ℕ
number_held store e = number_of_bytes (bytes_in (store (IndexOf e)))

-- what an operation reads: a literal's bytes, of a type, or what lies at a place when the operation runs
pub data Operand : Type 0 where
  Literally : (ty : Ty) (bytes : List ℕ) → Operand
  At : (place : Place) → Operand
