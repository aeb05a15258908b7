-- Nodes of a body whose ids are in range and whose `char` literals are Unicode scalar values.
use Rattle.std.specs.Prelude.{ℕ, ◌&&◌, ◌||◌, nat_lt, nat_le, Bool, true, List, length, Option, Some, None}
use Rattle.std.specs.List.{list_all}
use Rattle.types.specs.declared.ids.BindingId.{BindingId}
use Rattle.types.specs.declared.ids.ExprId.{ExprId}
use Rattle.types.specs.declared.ids.LabelId.{LabelId}
use Rattle.world.specs.declared.body.Binding.{Binding}
use Rattle.world.specs.declared.body.Body.{Body}
use Rattle.world.specs.declared.expr.Expr.{Expr}
use Rattle.world.specs.declared.expr.Expr.TheVariants as expr
use Rattle.world.specs.declared.literal.Literal.TheVariants as literal
use Rattle.world.specs.declared.pat.Pat.{Pat}
use Rattle.world.specs.declared.pat.Pat.TheVariants as pat
use Rattle.world.specs.Nodes.{binding_of, children_of, inner_exprs_of, jump_label, patterns_of, scope_label, subpatterns_of}
use Rattle.check_names.specs.Known.{is_in_range, is_nameable}

-- each is the id of an expression of the body
abbrev pub are_exprs : Body → List ℕ → Bool
are_exprs body numbers = list_all (is_in_range body.exprs) numbers

-- each is the id of a pattern of the body
abbrev pub are_pats : Body → List ℕ → Bool
are_pats body numbers = list_all (is_in_range body.pats) numbers

-- an optional label is none or one of the body's
abbrev pub is_label_known : Body → Option LabelId → Bool
is_label_known body None = true
is_label_known body (Some label) = is_in_range body.labels label.0

-- an optional binding is none or one of the body's
abbrev pub is_binding_known : Body → Option BindingId → Bool
is_binding_known body None = true
is_binding_known body (Some id) = is_in_range body.bindings id.0

-- an optional expression is none or one of the body's
abbrev pub is_expr_known : Body → Option ExprId → Bool
is_expr_known body None = true
is_expr_known body (Some id) = is_in_range body.exprs id.0

-- a Unicode scalar value
abbrev pub is_scalar : ℕ → Bool
is_scalar number = nat_lt number 55296 || (nat_le 57344 number && nat_lt number 1114112)

-- an expression is no `char` literal, or one that is a Unicode scalar value
abbrev pub is_literal_right : Expr → Bool
is_literal_right (expr.Literal (literal.Char number)) = is_scalar number
is_literal_right _ = true

abbrev pub is_expr_in_range : Body → Expr → Bool
is_expr_in_range body node =
    are_exprs body (children_of node)
    && are_pats body (patterns_of node)
    && is_label_known body (jump_label node)
    && is_label_known body (scope_label node)
    && is_literal_right node

-- a tuple pattern has few enough subpatterns for the position of its `..`, a number of 32 bits
abbrev pub are_parts_named : Pat → Bool
are_parts_named (pat.Tuple args ellipsis) = is_nameable (length args)
are_parts_named (pat.TupleStruct args ellipsis) = is_nameable (length args)
are_parts_named _ = true

abbrev pub is_pat_in_range : Body → Pat → Bool
is_pat_in_range body node =
    are_pats body (subpatterns_of node)
    && are_exprs body (inner_exprs_of node)
    && is_binding_known body (binding_of node)
    && are_parts_named node

abbrev pub is_binding_in_range : Body → Binding → Bool
is_binding_in_range body binding = is_expr_known body binding.owner
