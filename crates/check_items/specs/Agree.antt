-- Rows that agree with others: functions with their bodies, variants with their enums, closures with their expressions.
use Rattle.std.specs.Prelude.{◌≡◌, ◌↔◌, ℕ, ◌+◌, ◌==◌, Bool, true, false, length, Option, Some, None, slice_get, IfSome}
use Rattle.std.specs.Option.{option_and_then, option_map}
use Rattle.types.specs.declared.ids.BindingId.{BindingId}
use Rattle.types.specs.declared.ids.EnumVariantId.{EnumVariantId}
use Rattle.world.specs.declared.closures.ClosureRow.{ClosureRow}
use Rattle.world.specs.declared.database.BodyRow.{BodyRow}
use Rattle.world.specs.declared.database.HirDatabase.{HirDatabase}
use Rattle.world.specs.declared.expr.Expr.{Expr}
use Rattle.world.specs.declared.expr.Expr.TheVariants as expr
use Rattle.world.specs.declared.items.EnumRow.{EnumRow}
use Rattle.world.specs.declared.items.FunctionRow.{FunctionRow}
use Rattle.world.specs.declared.items.VariantRow.{VariantRow}
use Rattle.world.specs.Lookups.{body_row}

-- one parameter for `self` if the body has it
abbrev pub self_count : Option BindingId → ℕ
self_count None = 0
self_count (Some self) = 1

-- an optional body is none, or has `count` parameters with `self` included
abbrev pub has_params : ℕ → Option BodyRow → Bool
has_params count None = true
has_params count (Some row) = count == self_count row.body.self_param + length row.body.params

-- a function has no body, or one with as many parameters as its signature, `self` included
abbrev pub has_all_params : HirDatabase → FunctionRow → Bool
has_all_params world row = has_params (length row.sig.params) (option_and_then (slice_get world.bodies) row.body)

-- the id of the variant at index `i` in the list of enum `e`
abbrev pub listed_at : HirDatabase → ℕ → ℕ → Option ℕ
listed_at world e i = option_and_then (λ (row : EnumRow). option_map (λ (id : EnumVariantId). id.0) (slice_get row.variants i)) (slice_get world.enums e)

-- variant `v` stands at an index of an enum's list exactly where its row has this enum and this index
abbrev pub IsListedRight : HirDatabase → ℕ → VariantRow → Type 0
IsListedRight world v row = (e i : ℕ) → (listed_at world e i ≡ Some v) ↔ ((e ≡ row.parent.0) × (i ≡ row.index))

-- variant `v`, if there is one, is listed right
abbrev pub IsRowListedRight : HirDatabase → ℕ → Type 0
IsRowListedRight world v = IfSome (slice_get world.variants v) (IsListedRight world v)

-- an optional expression is a closure with `count` parameters
abbrev pub is_closure_of : ℕ → Option Expr → Bool
is_closure_of count (Some (expr.Closure args body)) = length args == count
is_closure_of count _ = false

-- the expression of a closure's row is a closure with as many parameters as the row
abbrev pub is_closure_row : HirDatabase → ClosureRow → Bool
is_closure_row world row = is_closure_of (length row.params) (option_and_then (λ (found : BodyRow). slice_get found.body.exprs row.expr.0) (body_row world row.owner))
