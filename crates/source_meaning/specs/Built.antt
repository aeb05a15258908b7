-- Which expressions have a form that is built: each has a meaning, its paths name bindings of the body, and its statements
-- bind names of the body.
use Rattle.std.specs.Prelude.{◌≡◌, ℕ, Bool, true, false, not, ◌&&◌, All, List, [], ◌∷◌, Option, Some, None, is_some}
use Rattle.source_meaning.specs.Core.{Assigned, Assignee, ByField, ByPath, ByPattern, ByPlace, CoreExpr, Operation, MakeArray, Repeat, is_place}
use Rattle.source_meaning.specs.Core as expr
use Rattle.source_meaning.specs.Source.{Source, own_type, binding_type, named_by, pattern, target, compound_target, unadjusted}
use Rattle.types.specs.declared.ids.BindingId.{BindingId}
use Rattle.types.specs.declared.ids.FunctionId.{FunctionId}
use Rattle.types.specs.declared.ids.GenericParamId.{GenericParamId}
use Rattle.types.specs.declared.ty.Const.{Const}
use Rattle.types.specs.declared.ty.Ty.{Ty}
use Rattle.types.specs.declared.ty.Ty.TheVariants.{Array as ArrayTy}
use Rattle.world.specs.declared.body.Statement.{Statement}
use Rattle.world.specs.declared.body.Statement.TheVariants as statement
use Rattle.world.specs.declared.infer.ValueNs.TheVariants.{LocalBinding}
use Rattle.world.specs.declared.items.FunctionRow.{FunctionRow}
use Rattle.world.specs.Lookups.{function_row}
use Rattle.source_meaning.specs.Calls.{function_called}

-- a binding of the body
pub record IsBinding (source : Source) (binding : BindingId) : Type 0 where
  pub ty : Ty
  pub typed : binding_type source binding.0 ≡ Some ty

-- a path is resolved to a binding of the body
pub record NamesBinding (source : Source) (e : ℕ) : Type 0 where
  pub binding : BindingId
  pub named : named_by source e ≡ Some (LocalBinding binding)
  pub there : IsBinding source binding

-- a pattern is a name by value, of a binding of the body
pub record BindsBinding (source : Source) (pat : ℕ) : Type 0 where
  pub binding : BindingId
  pub bound : pattern source pat ≡ Some binding
  pub there : IsBinding source binding

-- the path that the target of an assignment is names a binding of the body
pub record AssignsBinding (source : Source) (assigned : ℕ) : Type 0 where
  pub binding : BindingId
  pub names : target source assigned ≡ Some binding
  pub there : IsBinding source binding

-- the path that the target of a compound assignment is names a binding of the body
pub record CombinesBinding (source : Source) (assigned : ℕ) : Type 0 where
  pub binding : BindingId
  pub names : compound_target source assigned ≡ Some binding
  pub there : IsBinding source binding

-- the target of an assignment that is built: a path to a binding of the body, or an expression that is a path, a field or an element and isn't adjusted
abbrev pub IsBuiltAssignee : Source → Assignee → Type 0
IsBuiltAssignee source (ByPattern pat) = AssignsBinding source pat
IsBuiltAssignee source (ByPlace e) = is_place (unadjusted source e) ≡ true

-- the target of a compound assignment that is built: a path to a binding of the body, or a part of a tuple, a struct or an array
abbrev pub IsBuiltAssigned : Source → Assigned → Type 0
IsBuiltAssigned source (ByPath e) = CombinesBinding source e
IsBuiltAssigned source (ByField base elem) = Unit {0}

-- a statement that is built: a `let` of a name with an initializer and without `else`, or an expression
abbrev pub IsBuiltStatement : Source → Statement → Type 0
IsBuiltStatement source (statement.Let pat (Some e) None) = BindsBinding source pat.0
IsBuiltStatement source (statement.Expr e has_semi) = Unit {0}
IsBuiltStatement source _ = ⊥

-- whether there are no generic parameters
abbrev pub are_none : List GenericParamId → Bool
are_none [] = true
are_none (param ∷ params) = false

-- Whether a call of a function enters its own body: it has no generic parameters, isn't declared by a trait, of whose impls a call takes
-- one, and isn't special, as an intrinsic is.
abbrev pub is_direct : Option FunctionRow → Bool
is_direct (Some row) = are_none row.generics && not (is_some row.in_trait) && not (is_some row.special)
is_direct None = false

-- A call that is built: it names a function that is given no generic arguments, and whose own body a call enters.
pub record CallsFunction (source : Source) (e : ℕ) (callee : Option ℕ) : Type 0 where
  pub id : FunctionId
  pub names : function_called source e callee ≡ Some id
  pub direct : is_direct (function_row source.world id) ≡ true

-- an expression's own type is that of an array
pub record HasArrayType (source : Source) (e : ℕ) : Type 0 where
  pub element : Ty
  pub len : Const
  pub typed : own_type source e ≡ Some (ArrayTy element len)

-- a strict form that is built: one that makes an array has the type of one
abbrev pub IsBuiltStrict : Source → ℕ → Operation → Type 0
IsBuiltStrict source e MakeArray = HasArrayType source e
IsBuiltStrict source e Repeat = HasArrayType source e
IsBuiltStrict source e _ = Unit {0}

-- An expression of a form that is built, whatever its parts are.
abbrev pub IsBuiltForm : Source → ℕ → Option CoreExpr → Type 0
IsBuiltForm source e (Some (expr.Literal l)) = Unit {0}
IsBuiltForm source e (Some (expr.Path name)) = NamesBinding source e
IsBuiltForm source e (Some expr.UnitStruct) = Unit {0}
IsBuiltForm source e (Some (expr.Field base field)) = Unit {0}
IsBuiltForm source e (Some (expr.Strict operation operands)) = IsBuiltStrict source e operation
IsBuiltForm source e (Some (expr.Update base id args sources operands)) = Unit {0}
IsBuiltForm source e (Some (expr.Logic op left right)) = Unit {0}
IsBuiltForm source e (Some (expr.If condition then_branch else_branch)) = Unit {0}
IsBuiltForm source e (Some (expr.Assign to value)) = IsBuiltAssignee source to
IsBuiltForm source e (Some (expr.Compound op to value)) = IsBuiltAssigned source to
IsBuiltForm source e (Some (expr.Block statements tail)) = All (IsBuiltStatement source) statements
IsBuiltForm source e (Some (expr.Labelled label statements tail)) = All (IsBuiltStatement source) statements
IsBuiltForm source e (Some (expr.Loop label body)) = Unit {0}
IsBuiltForm source e (Some (expr.Break label value)) = Unit {0}
IsBuiltForm source e (Some (expr.Continue label)) = Unit {0}
IsBuiltForm source e (Some (expr.Return value)) = Unit {0}
IsBuiltForm source e (Some (expr.Call callee args)) = CallsFunction source e callee
IsBuiltForm source e None = ⊥
