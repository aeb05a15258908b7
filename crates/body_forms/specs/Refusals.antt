-- Why an expression of a typed body can't be lowered.
use Rattle.std.specs.Prelude.{◌≡◌, ℕ, ◌<◌, true, false, List, [], ◌⊎◌, Contains, Option, Some, None, codes}
use Rattle.types.specs.declared.ty.Ty.{Ty}
use Rattle.world.specs.Lookups.{expr_of, function_row}
use Rattle.types.specs.declared.ids.FunctionId.{FunctionId}
use Rattle.source_meaning.specs.Built.{HasArrayType, is_direct}
use Rattle.source_meaning.specs.Calls.{function_called}
use Rattle.source_meaning.specs.Core.{Assigned, Assignee, ByField, ByPath, ByPattern, ByPlace, CoreExpr, Number, Character, MakeArray, Repeat, core_of, is_place}
use Rattle.source_meaning.specs.Core as expr
use Rattle.source_meaning.specs.Core.{local_named}
use Rattle.world.specs.declared.expr.Expr.{Expr}
use Rattle.world.specs.declared.expr.Expr.TheVariants as whole
use Rattle.world.specs.declared.body.Statement.{Statement}
use Rattle.world.specs.declared.body.Statement.TheVariants as statement
use Rattle.types.specs.declared.ids.BindingId.{BindingId}
use Rattle.world.specs.declared.infer.ValueNs.TheVariants.{LocalBinding}
use Rattle.world.specs.declared.infer.ValueNs.{ValueNs}
use Rattle.world.specs.declared.layout.Layout.{Layout}
use Rattle.mir.specs.declared.errors.MirLowerError.{MirLowerError}
use Rattle.mir.specs.declared.errors.MirLowerError.TheVariants as refusal
use Rattle.mir.specs.Errors.{layout_error_of}
use Rattle.source_meaning.specs.Source.{Source, findings, is_adjusted, node, unadjusted, named_by, pattern, target_path, pattern_named_by, target, compound_path, compound_target, binding_type, root, own_layout, own_type}
use Rattle.source_meaning.specs.Around.{Opened, meant}
use Rattle.source_meaning.specs.Valid.{EvaluatesIn}
use Rattle.types.specs.declared.ids.ExprId.{ExprId}
use Rattle.types.specs.declared.ids.LabelId.{LabelId}

-- an expression is a literal of a number or of a character
abbrev pub IsNumber : Option CoreExpr → Type 0
IsNumber (Some (expr.Literal (Number number))) = Unit {0}
IsNumber (Some (expr.Literal (Character code))) = Unit {0}
IsNumber _ = ⊥

-- an expression that is missing, or whose operator is
abbrev pub IsIncomplete : Expr → Type 0
IsIncomplete whole.Missing = Unit {0}
IsIncomplete (whole.BinaryOp lhs rhs None) = Unit {0}
IsIncomplete _ = ⊥

-- an expression that isn't adjusted, or by `NeverToAny` alone, or in a way that isn't looked at, is missing, or its operator is
pub record LacksPart (source : Source) (e : ℕ) : Type 0 where
  pub expr : Expr
  pub stands : expr_of source.body e ≡ Some expr
  pub plain : is_adjusted source e ≡ false
  pub lacks : IsIncomplete expr

-- an expression of a form that has no meaning yet, and isn't incomplete
pub record IsUnbuiltExpr (source : Source) (e : ℕ) : Type 0 where
  pub expr : Expr
  pub stands : expr_of source.body e ≡ Some expr
  pub no_form : core_of (findings source e) expr ≡ None
  pub complete : IsIncomplete expr → ⊥

-- An expression of a form that isn't built yet, whatever its parts are: one that is adjusted otherwise than by `NeverToAny`
-- alone, whatever its form is, where that is looked at, as it isn't of the base of an index, and one to which `core_of` gives no form, other than an incomplete one: `*`, a literal that is neither
-- a truth value nor a whole number nor a character, a cast from or to another type than an integer, `bool` or `char`, a path to an
-- associated item or a variant, or to a struct that isn't its type, a field of a variant, of a union, or of a struct where its type would have to be made at the struct's generic arguments, or one that isn't resolved, an index of another type than `usize` or of what is no array, a struct literal
-- that isn't resolved to the struct that its type is, or doesn't give each field of it once; with a base, one that writes a field twice or writes
-- what is no field of it, or leaves out one whose type would have to be made; one with `..` and no base; a call of a constructor with more or fewer arguments
-- than its struct has fields, unless it is listed as one that doesn't return; a closure, a `match` and so on.
abbrev pub IsUnbuiltForm : Source → ℕ → Type 0
IsUnbuiltForm source e = (is_adjusted source e ≡ true) ⊎ IsUnbuiltExpr source e

-- a statement that isn't built yet: an item, and a `let` without an initializer, with `else`, or of more than a name
abbrev pub IsUnbuiltStatement : Source → Statement → Type 0
IsUnbuiltStatement source (statement.Let pat (Some e) None) = pattern source pat.0 ≡ None
IsUnbuiltStatement source (statement.Expr e has_semi) = ⊥
IsUnbuiltStatement source _ = Unit {0}

-- a path that names something else than a binding
abbrev pub NamesNoBinding : Source → ℕ → Type 0
NamesNoBinding source e = (named : ValueNs) × (named_by source e ≡ Some named) × (local_named named ≡ None)

-- a target of an assignment by a pattern that isn't built yet: the pattern is no path that could be one to a binding, or is resolved to
-- something else
abbrev pub IsUnbuiltTarget : Source → ℕ → Type 0
IsUnbuiltTarget source p =
    (target_path source p ≡ None)
    ⊎ ((named : ValueNs) × (pattern_named_by source p ≡ Some named) × (local_named named ≡ None))

-- a target of a compound assignment, other than a field or an element, that isn't built yet: it is no path that could be one to a binding, or is resolved
-- to something else
abbrev pub IsUnbuiltOperand : Source → ℕ → Type 0
IsUnbuiltOperand source e = (compound_path source e ≡ None) ⊎ NamesNoBinding source e

-- a target of an assignment that isn't built yet; that of an expression isn't where the expression is neither a path nor a field nor an element, or is
-- adjusted
abbrev pub IsUnbuiltAssignee : Source → Assignee → Type 0
IsUnbuiltAssignee source (ByPattern pat) = IsUnbuiltTarget source pat
IsUnbuiltAssignee source (ByPlace e) = is_place (unadjusted source e) ≡ false

-- and one of a compound assignment
abbrev pub IsUnbuiltAssigned : Source → Assigned → Type 0
IsUnbuiltAssigned source (ByPath e) = IsUnbuiltOperand source e
IsUnbuiltAssigned source (ByField base index) = ⊥

-- a call that isn't built yet: it names no function, or one that is given generic arguments, or whose own body a call doesn't enter
abbrev pub IsUnbuiltCall : Source → ℕ → (callee : Option ℕ) → Type 0
IsUnbuiltCall source e callee =
    (function_called source e callee ≡ None)
    ⊎ ((id : FunctionId) × (function_called source e callee ≡ Some id) × (is_direct (function_row source.world id) ≡ false))

-- an expression that isn't built yet: by its form, as a path by what it names, as an assignment by its target, as a block by one
-- of its statements, or as a call by what it calls
abbrev pub IsUnbuilt : Source → ℕ → Option CoreExpr → Type 0
IsUnbuilt source e (Some (expr.Literal l)) = ⊥
IsUnbuilt source e (Some (expr.Path name)) = NamesNoBinding source e
IsUnbuilt source e (Some expr.UnitStruct) = ⊥
IsUnbuilt source e (Some (expr.Field base field)) = ⊥
IsUnbuilt source e (Some (expr.Strict operation operands)) = ⊥
IsUnbuilt source e (Some (expr.Update base id args sources operands)) = ⊥
IsUnbuilt source e (Some (expr.Logic op left right)) = ⊥
IsUnbuilt source e (Some (expr.If condition then_branch else_branch)) = ⊥
IsUnbuilt source e (Some (expr.Assign to value)) = IsUnbuiltAssignee source to
IsUnbuilt source e (Some (expr.Compound op to value)) = IsUnbuiltAssigned source to
IsUnbuilt source e (Some (expr.Block statements tail)) = (one : Statement) × Contains statements one × IsUnbuiltStatement source one
IsUnbuilt source e (Some (expr.Labelled label statements tail)) = (one : Statement) × Contains statements one × IsUnbuiltStatement source one
IsUnbuilt source e (Some (expr.Loop label body)) = ⊥
IsUnbuilt source e (Some (expr.Break label value)) = ⊥
IsUnbuilt source e (Some (expr.Continue label)) = ⊥
IsUnbuilt source e (Some (expr.Return value)) = ⊥
IsUnbuilt source e (Some (expr.Call callee args)) = IsUnbuiltCall source e callee
IsUnbuilt source e None = IsUnbuiltForm source e

-- a name pattern of a binding that the body lacks
abbrev pub BindsNone : Source → ℕ → Type 0
BindsNone source pat = (binding : BindingId) × (pattern source pat ≡ Some binding) × (binding_type source binding.0 ≡ None)

-- a `let` that is built, of a binding that the body lacks
abbrev pub LetBindsNone : Source → Statement → Type 0
LetBindsNone source (statement.Let pat (Some e) None) = BindsNone source pat.0
LetBindsNone source _ = ⊥

-- the target of an assignment names a binding that the body lacks
abbrev pub AssignsNone : Source → ℕ → Type 0
AssignsNone source p = (binding : BindingId) × (target source p ≡ Some binding) × (binding_type source binding.0 ≡ None)

-- the target of a compound assignment names a binding that the body lacks
abbrev pub CombinesNone : Source → ℕ → Type 0
CombinesNone source e = (binding : BindingId) × (compound_target source e ≡ Some binding) × (binding_type source binding.0 ≡ None)

-- a target of an assignment is a path to a binding that the body lacks
abbrev pub AssigneeLacks : Source → Assignee → Type 0
AssigneeLacks source (ByPattern pat) = AssignsNone source pat
AssigneeLacks source (ByPlace e) = ⊥

-- and one of a compound assignment
abbrev pub AssignedLacks : Source → Assigned → Type 0
AssignedLacks source (ByPath e) = CombinesNone source e
AssignedLacks source (ByField base index) = ⊥

-- an expression that names, assigns, or as a block binds, a binding that the body lacks
abbrev pub LacksLocal : Source → ℕ → Option CoreExpr → Type 0
LacksLocal source e (Some (expr.Path name)) = (binding : BindingId) × (named_by source e ≡ Some (LocalBinding binding)) × (binding_type source binding.0 ≡ None)
LacksLocal source e (Some (expr.Assign to value)) = AssigneeLacks source to
LacksLocal source e (Some (expr.Compound op to value)) = AssignedLacks source to
LacksLocal source e (Some (expr.Block statements tail)) = (one : Statement) × Contains statements one × LetBindsNone source one
LacksLocal source e (Some (expr.Labelled label statements tail)) = (one : Statement) × Contains statements one × LetBindsNone source one
LacksLocal source e _ = ⊥

-- the path that an assignment's target is, to which name resolution found nothing
abbrev pub AssigneeIsUnresolved : Source → Assignee → List ℕ → Type 0
AssigneeIsUnresolved source (ByPattern pat) name = (target_path source pat ≡ Some name) × (pattern_named_by source pat ≡ None)
AssigneeIsUnresolved source (ByPlace e) name = ⊥

-- and that of a compound one
abbrev pub AssignedIsUnresolved : Source → Assigned → List ℕ → Type 0
AssignedIsUnresolved source (ByPath e) name = (compound_path source e ≡ Some name) × (named_by source e ≡ None)
AssignedIsUnresolved source (ByField base index) name = ⊥

-- a path, or the path that an assignment's target is, to which name resolution found nothing
abbrev pub IsUnresolved : Source → ℕ → Option CoreExpr → List ℕ → Type 0
IsUnresolved source e (Some (expr.Path given)) name = (given ≡ name) × (named_by source e ≡ None)
IsUnresolved source e (Some (expr.Assign to value)) name = AssigneeIsUnresolved source to name
IsUnresolved source e (Some (expr.Compound op to value)) name = AssignedIsUnresolved source to name
IsUnresolved source e _ name = ⊥

-- an expression stands in no loop and no labelled block of the body
abbrev pub StandsFree : Source → ℕ → Type 0
StandsFree source e = EvaluatesIn source [] (root source) [] e

-- no loop and no labelled block around an expression has this label
abbrev pub LacksLabel : Source → ℕ → LabelId → Type 0
LacksLabel source e label = (outer : List Opened) × EvaluatesIn source [] (root source) outer e × (meant (Some label) outer ≡ None)

-- a `break` or a `continue` with this label
abbrev pub JumpsTo : LabelId → Option CoreExpr → Type 0
JumpsTo label (Some (expr.Break given value)) = given ≡ Some label
JumpsTo label (Some (expr.Continue given)) = given ≡ Some label
JumpsTo label _ = ⊥

-- a literal of a number or of a character, of a type whose layout has more than 16 bytes
abbrev pub IsWideNumber : Source → ℕ → List ℕ → Type 0
IsWideNumber source e text =
    (text ≡ codes "number literal of more than 16 bytes") × IsNumber (node source e)
    × (layout : Layout) × (own_layout source e ≡ Some layout) × (16 < layout.size)

-- an expression that makes an array, whose own type is none
abbrev pub IsNoArray : Source → ℕ → Option CoreExpr → List ℕ → Type 0
IsNoArray source e (Some (expr.Strict MakeArray elements)) text =
    (text ≡ codes "Array expression with non array type") × (HasArrayType source e → ⊥)
IsNoArray source e (Some (expr.Strict Repeat operands)) text =
    (text ≡ codes "Array repeat expression with non array type") × (HasArrayType source e → ⊥)
IsNoArray source e _ text = ⊥

-- the refusal of an expression has its cause there; want of memory needs none
abbrev pub RefusesNode : Source → ℕ → MirLowerError → Type 0
RefusesNode source e (refusal.LayoutError layout_error) =
    IsNumber (node source e) × (own_layout source e ≡ None) × (ty : Ty) × (own_type source e ≡ Some ty) × (layout_error ≡ layout_error_of ty)
RefusesNode source e refusal.IncompleteExpr = LacksPart source e
RefusesNode source e (refusal.UnresolvedName name) = IsUnresolved source e (node source e) name
RefusesNode source e refusal.HasErrors = ⊥
RefusesNode source e (refusal.TypeError text) = IsWideNumber source e text ⊎ IsNoArray source e (node source e) text
RefusesNode source e (refusal.NotSupported text) = (text ≡ codes "form not built") × IsUnbuilt source e (node source e)
RefusesNode source e refusal.ContinueWithoutLoop = (node source e ≡ Some (expr.Continue None)) × StandsFree source e
RefusesNode source e refusal.BreakWithoutLoop = (value : Option ExprId) × (node source e ≡ Some (expr.Break None value)) × StandsFree source e
RefusesNode source e refusal.UnresolvedLabel = (label : LabelId) × JumpsTo label (node source e) × LacksLabel source e label
RefusesNode source e refusal.InaccessibleLocal = LacksLocal source e (node source e)
RefusesNode source e refusal.NoMemory = Unit {0}
