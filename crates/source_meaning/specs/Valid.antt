-- Which sources the theorem speaks of.
use Rattle.std.specs.Prelude.{◌≡◌, ℕ, true, cond, List, [], ◌∷◌, length, flat_map, Contains, All, ◌⊎◌, Option, Some, None, option_and_then, slice_get}
use Rattle.world.specs.declared.adjust.Adjustment.{Adjustment}
use Rattle.world.specs.declared.body.Statement.{Statement}
use Rattle.world.specs.declared.body.Statement.TheVariants as statement
use Rattle.types.specs.declared.ids.BindingId.{BindingId}
use Rattle.types.specs.declared.ids.AdtId.TheVariants as adt
use Rattle.types.specs.declared.ids.ExprId.{ExprId}
use Rattle.types.specs.declared.ids.FieldId.{FieldId}
use Rattle.types.specs.declared.ids.FunctionId.{FunctionId}
use Rattle.types.specs.declared.ids.LabelId.{LabelId}
use Rattle.types.specs.declared.ids.StructId.{StructId}
use Rattle.types.specs.declared.ids.VariantId.TheVariants as variant
use Rattle.world.specs.declared.infer.ValueNs.TheVariants.{LocalBinding}
use Rattle.world.specs.declared.database.HirDatabase.{HirDatabase}
use Rattle.world.specs.declared.items.FieldRow.{FieldRow}
use Rattle.world.specs.declared.items.FieldsShape.TheVariants.{Unit as UnitShape}
use Rattle.world.specs.declared.items.FunctionRow.{FunctionRow}
use Rattle.world.specs.declared.items.StructRow.{StructRow}
use Rattle.world.specs.declared.layout.Layout.{Layout}
use Rattle.types.specs.declared.scalars.Mutability.{Mutability}
use Rattle.types.specs.declared.scalars.UintTy.TheVariants.{Usize}
use Rattle.types.specs.declared.ty.Const.{Const}
use Rattle.types.specs.declared.ty.GenericArgs.{GenericArgs}
use Rattle.types.specs.declared.ty.Ty.TheVariants.{Adt as AdtTy, Array as ArrayTy, Ref as RefTy, Tuple as TupleTy}
use Rattle.types.specs.declared.ty.Ty.{Ty, Bool as BoolTy, Int as IntTy, Uint as UintTy, Char as CharTy, Never as NeverTy}
use Rattle.world.specs.declared.expr.Expr.TheVariants as whole
use Rattle.world.specs.Lookups.{expr_of, fields_of, layout_of, function_row}
use Rattle.check_instances.specs.Ready.{ready_instance}
use Rattle.numbers.specs.Constants.{number_in}
use Rattle.numbers.specs.declared.operator.Operator.{Operator}
use Rattle.numbers.specs.declared.operator.Operator.TheVariants.{Add, Sub, Mul, Div, Rem, BitXor, BitAnd, BitOr, Shl, Shr, Eq, Ne, Lt, Le, Gt, Ge}
use Rattle.source_meaning.specs.Around.{Opened, meant}
use Rattle.source_meaning.specs.Calls.{function_called, source_of, source_called, parameters}
use Rattle.source_meaning.specs.Core as expr
use Rattle.source_meaning.specs.Core.{Assigned, Assignee, ByField, ByPath, ByPattern, ByPlace, CoreExpr, CoreLiteral, Truth, Number, Character, Operation, Negate, Invert, Keep, Convert, Combine, MakeTuple, MakeArray, Repeat, MakeStruct, PlaceElem, Part, FieldOf, ElementAt, is_place, is_truth, IsNoCall}
use Rattle.source_meaning.specs.Source.{Source, adjustments, node, unadjusted, diverges, own_type, node_type, binding_type, pattern, pattern_type, target, compound_target, named_by, root}
use Rattle.source_meaning.specs.Structs.{AreFieldTypes, FieldSource, Written, OfBase, field_type, picked}
use Rattle.source_meaning.specs.Steps.{Step, steps_of, step_part, parts_of}
use Rattle.source_meaning.specs.Steps as step

-- `Evaluates source e f`: `f` is `e`, or is evaluated within it; both branches of an `if` count
pub data Evaluates (source : Source) : ℕ → ℕ → Type 0 where
  itself : {e : ℕ} → Evaluates source e e
  part : {e child f : ℕ} → Contains (parts_of (node source e)) child → Evaluates source child f → Evaluates source e f

abbrev pub IsInteger : Ty → Type 0
IsInteger (IntTy ty) = Unit {0}
IsInteger (UintTy ty) = Unit {0}
IsInteger _ = ⊥

-- an integer or `bool`
abbrev pub IsScalar : Ty → Type 0
IsScalar BoolTy = Unit {0}
IsScalar (IntTy ty) = Unit {0}
IsScalar (UintTy ty) = Unit {0}
IsScalar _ = ⊥

-- an integer, `bool` or `char`
abbrev pub IsNumber : Ty → Type 0
IsNumber BoolTy = Unit {0}
IsNumber (IntTy ty) = Unit {0}
IsNumber (UintTy ty) = Unit {0}
IsNumber CharTy = Unit {0}
IsNumber _ = ⊥

abbrev pub IsChar : Ty → Type 0
IsChar CharTy = Unit {0}
IsChar _ = ⊥

abbrev pub IsBool : Ty → Type 0
IsBool BoolTy = Unit {0}
IsBool _ = ⊥

-- a number literal is of an integer type, a truth value of `bool`, and a character of `char`
abbrev pub IsPlainLiteral : CoreLiteral → Ty → Type 0
IsPlainLiteral (Truth test) ty = IsBool ty
IsPlainLiteral (Number number) ty = IsInteger ty
IsPlainLiteral (Character code) ty = IsChar ty

-- two integers of the result's type
abbrev pub AreIntegers : Ty → Ty → Ty → Type 0
AreIntegers left right ty = IsInteger ty × (left ≡ ty) × (right ≡ ty)

-- two integers or two truth values of the result's type
abbrev pub AreScalars : Ty → Ty → Ty → Type 0
AreScalars left right ty = IsScalar ty × (left ≡ ty) × (right ≡ ty)

-- two integers, the first of the result's type
abbrev pub AreShifted : Ty → Ty → Ty → Type 0
AreShifted left right ty = IsInteger ty × IsInteger right × (left ≡ ty)

-- two integers, two truth values or two characters of one type, and a result of `bool`
abbrev pub AreCompared : Ty → Ty → Ty → Type 0
AreCompared left right ty = IsBool ty × IsNumber left × (right ≡ left)

-- the types of an operator's two operands and of its result fit one another
abbrev pub IsCombined : Operator → Ty → Ty → Ty → Type 0
IsCombined Add left right ty = AreIntegers left right ty
IsCombined Sub left right ty = AreIntegers left right ty
IsCombined Mul left right ty = AreIntegers left right ty
IsCombined Div left right ty = AreIntegers left right ty
IsCombined Rem left right ty = AreIntegers left right ty
IsCombined Shl left right ty = AreShifted left right ty
IsCombined Shr left right ty = AreShifted left right ty
IsCombined BitXor left right ty = AreScalars left right ty
IsCombined BitOr left right ty = AreScalars left right ty
IsCombined BitAnd left right ty = AreScalars left right ty
IsCombined Eq left right ty = AreCompared left right ty
IsCombined Ne left right ty = AreCompared left right ty
IsCombined Lt left right ty = AreCompared left right ty
IsCombined Le left right ty = AreCompared left right ty
IsCombined Gt left right ty = AreCompared left right ty
IsCombined Ge left right ty = AreCompared left right ty

-- an array of as many elements as these types, which are all the element's
pub record IsArrayOf (types : List Ty) (ty : Ty) : Type 0 where
  pub element : Ty
  pub len : Const
  pub is : ty ≡ ArrayTy element len
  pub each : All (λ one. one ≡ element) types
  pub count : number_in len ≡ Some (length types)

-- an array of elements of this type, of a length that is known
pub record IsArrayOfOne (one ty : Ty) : Type 0 where
  pub len : Const
  pub count : ℕ
  pub is : ty ≡ ArrayTy one len
  pub known : number_in len ≡ Some count

-- a struct at these arguments, whose fields are of the operands' types at their places
pub record IsStructOf (world : HirDatabase) (id : StructId) (args : GenericArgs) (places : List ℕ) (types : List Ty) (ty : Ty) : Type 0 where
  pub is : ty ≡ AdtTy (adt.StructId id) args
  pub fields : List FieldRow
  pub found : fields_of world (variant.StructId id) ≡ Some fields
  pub given : List Ty
  pub picks : picked places types ≡ Some given
  pub each : AreFieldTypes world args fields given

-- a value of a unit struct
pub record IsUnitOf (world : HirDatabase) (ty : Ty) : Type 0 where
  pub id : StructId
  pub args : GenericArgs
  pub is : ty ≡ AdtTy (adt.StructId id) args
  pub row : StructRow
  pub found : slice_get world.structs id.0 ≡ Some row
  pub shape : row.shape ≡ UnitShape

-- The types of an operation's operands and of its result fit one another: `-` is on an integer, `!` on an integer or
-- `bool`, and gives a value of the same type. A cast that is a coercion keeps its type, and any other one is between integers, `bool` and
-- `char`. A tuple has the types of its parts, an array that of its elements, and as many as its type says, and a struct those of its fields.
abbrev pub IsTyped : HirDatabase → Operation → List Ty → Ty → Type 0
IsTyped world Negate (one ∷ []) ty = IsInteger ty × (one ≡ ty)
IsTyped world Invert (one ∷ []) ty = IsScalar ty × (one ≡ ty)
IsTyped world Keep (one ∷ []) ty = one ≡ ty
IsTyped world Convert (one ∷ []) ty = IsNumber one × IsNumber ty
IsTyped world (Combine op) (left ∷ right ∷ []) ty = IsCombined op left right ty
IsTyped world MakeTuple types ty = ty ≡ TupleTy types
IsTyped world MakeArray types ty = IsArrayOf types ty
IsTyped world (MakeStruct id args places) types ty = IsStructOf world id args places types ty
IsTyped world Repeat (one ∷ []) ty = IsArrayOfOne one ty
IsTyped world _ _ ty = ⊥

-- operands have these types, one each
abbrev pub HaveTypes : Source → List ℕ → List Ty → Type 0
HaveTypes source [] [] = Unit {0}
HaveTypes source (e ∷ rest) (ty ∷ others) = (node_type source e ≡ Some ty) × HaveTypes source rest others
HaveTypes source _ _ = ⊥

-- the operands of a strict form have types that fit its operation, and its own type
pub record IsPlainStrict (source : Source) (operation : Operation) (operands : List ℕ) (ty : Ty) : Type 0 where
  pub types : List Ty
  pub operands_have : HaveTypes source operands types
  pub typed : IsTyped source.world operation types ty

-- a name pattern binds a binding of its type, which is the initializer's
pub record IsPlainLet (source : Source) (pat e : ℕ) : Type 0 where
  pub binding : BindingId
  pub ty : Ty
  pub binds : pattern source pat ≡ Some binding
  pub pattern_has : pattern_type source pat ≡ Some ty
  pub binding_has : binding_type source binding.0 ≡ Some ty
  pub initializer_has : node_type source e ≡ Some ty

-- a `let` with an initializer and without `else`, or an expression statement
abbrev pub IsPlainStatement : Source → Statement → Type 0
IsPlainStatement source (statement.Let pat (Some e) None) = IsPlainLet source pat.0 e.0
IsPlainStatement source (statement.Expr e has_semi) = Unit {0}
IsPlainStatement source _ = ⊥

-- the tail of a block and the second branch of an `if`, where there is one, have the type of the whole
abbrev pub IsPlainTail : Source → Option ExprId → Ty → Type 0
IsPlainTail source (Some e) ty = node_type source e.0 ≡ Some ty
IsPlainTail source None ty = Unit {0}

-- the operands of `&&` and `||` are of type `bool`, and so is the whole
pub record IsPlainLogic (source : Source) (left right : ℕ) (ty : Ty) : Type 0 where
  pub left_has : node_type source left ≡ Some BoolTy
  pub right_has : node_type source right ≡ Some BoolTy
  pub typed : ty ≡ BoolTy

-- the condition of an `if` is of type `bool`, and each branch has the type of the whole
pub record IsPlainIf (source : Source) (condition then_branch : ℕ) (else_branch : Option ExprId) (ty : Ty) : Type 0 where
  pub condition_has : node_type source condition ≡ Some BoolTy
  pub then_has : node_type source then_branch ≡ Some ty
  pub else_has : IsPlainTail source else_branch ty

-- the path that a pattern is names a binding of the pattern's type
pub record IsPlainTarget (source : Source) (pat : ℕ) (ty : Ty) : Type 0 where
  pub binding : BindingId
  pub names : target source pat ≡ Some binding
  pub target_has : pattern_type source pat ≡ Some ty
  pub binding_has : binding_type source binding.0 ≡ Some ty

-- an expression of a type is a path, a field or an element, and isn't adjusted
pub record IsPlainPlace (source : Source) (e : ℕ) (ty : Ty) : Type 0 where
  pub place : is_place (unadjusted source e) ≡ true
  pub has : node_type source e ≡ Some ty

-- the target of an assignment is a place of a type
abbrev pub IsPlainAssignee : Source → Assignee → Ty → Type 0
IsPlainAssignee source (ByPattern pat) ty = IsPlainTarget source pat ty
IsPlainAssignee source (ByPlace e) ty = IsPlainPlace source e ty

-- the target of an assignment is a place of the value's type
pub record IsPlainAssign (source : Source) (to : Assignee) (value : ℕ) : Type 0 where
  pub ty : Ty
  pub assignee : IsPlainAssignee source to ty
  pub value_has : node_type source value ≡ Some ty

-- the path that the target of a compound assignment is names a binding of a type
pub record IsPlainNamed (source : Source) (e : ℕ) (ty : Ty) : Type 0 where
  pub binding : BindingId
  pub names : compound_target source e ≡ Some binding
  pub binding_has : binding_type source binding.0 ≡ Some ty

-- a path names a binding of its type
pub record IsPlainPath (source : Source) (e : ℕ) (ty : Ty) : Type 0 where
  pub binding : BindingId
  pub named : named_by source e ≡ Some (LocalBinding binding)
  pub binding_has : binding_type source binding.0 ≡ Some ty

-- a tuple that has a part of a type at an index
pub record HasPart (index : ℕ) (base ty : Ty) : Type 0 where
  pub parts : List Ty
  pub is : base ≡ TupleTy parts
  pub part_has : slice_get parts index ≡ Some ty

-- a struct that has a field of a type at its generic arguments, which needn't be made
pub record HasField (world : HirDatabase) (field : FieldId) (base ty : Ty) : Type 0 where
  pub id : StructId
  pub parent : field.parent ≡ variant.StructId id
  pub args : GenericArgs
  pub is : base ≡ AdtTy (adt.StructId id) args
  pub fields : List FieldRow
  pub found : fields_of world (variant.StructId id) ≡ Some fields
  pub row : FieldRow
  pub there : slice_get fields field.local_id ≡ Some row
  pub ready : ready_instance args row.ty ≡ Some ty
  pub field_has : field_type world args row ≡ Some ty

-- an array of elements of a type, of a length that is known
pub record HasElements (base ty : Ty) : Type 0 where
  pub len : Const
  pub count : ℕ
  pub is : base ≡ ArrayTy ty len
  pub known : number_in len ≡ Some count

-- a type has what an element leads to, of a type
abbrev pub HasElem : HirDatabase → PlaceElem → (base ty : Ty) → Type 0
HasElem world (Part index) base ty = HasPart index base ty
HasElem world (FieldOf field) base ty = HasField world field base ty
HasElem world (ElementAt e index) base ty = HasElements base ty

-- the index that leads to an element is a `usize`
abbrev pub HasPlainIndex : Source → PlaceElem → Type 0
HasPlainIndex source (ElementAt e index) = node_type source index ≡ Some (UintTy Usize)
HasPlainIndex source _ = Unit {0}

-- an adjustment of an index's base leads to the type that the base has, or to a reference to it
abbrev pub LeadsToBase : (base : Ty) → Adjustment → Type 0
LeadsToBase base step = (step.target ≡ base) ⊎ ((mutability : Mutability) × (step.target ≡ RefTy base mutability))

-- and so does each adjustment that it has
abbrev pub HasPlainBase : Source → PlaceElem → (base : ℕ) → (ty : Ty) → Type 0
HasPlainBase source (ElementAt e index) base ty = (steps : List Adjustment) → adjustments source base ≡ Some steps → All (LeadsToBase ty) steps
HasPlainBase source _ base ty = Unit {0}

-- what gives a field has a type that the field has at generic arguments: a written operand's, or that of a field of the base
abbrev pub IsGiven : HirDatabase → GenericArgs → (base : Ty) → (types : List Ty) → FieldRow → FieldSource → Type 0
IsGiven world args base types row (Written place) = (ty : Ty) × (slice_get types place ≡ Some ty) × (field_type world args row ≡ Some ty)
IsGiven world args base types row (OfBase field) = (ty : Ty) × HasField world field base ty × (field_type world args row ≡ Some ty)

-- and so has what gives each field
abbrev pub AreGiven : HirDatabase → GenericArgs → (base : Ty) → (types : List Ty) → List FieldRow → List FieldSource → Type 0
AreGiven world args base types [] [] = Unit {0}
AreGiven world args base types (row ∷ rows) (source ∷ sources) = IsGiven world args base types row source × AreGiven world args base types rows sources
AreGiven world args base types _ _ = ⊥

-- A struct literal with a base has the type of its struct, and so has the base. Each field of the struct, in the order of its row, is given a value of
-- its type by the source at its place in the list (`field_sources`).
pub record IsPlainUpdate (source : Source) (base : ℕ) (id : StructId) (args : GenericArgs) (sources : List FieldSource) (operands : List ℕ) (ty : Ty) : Type 0 where
  pub is : ty ≡ AdtTy (adt.StructId id) args
  pub base_has : node_type source base ≡ Some ty
  pub fields : List FieldRow
  pub found : fields_of source.world (variant.StructId id) ≡ Some fields
  pub types : List Ty
  pub operands_have : HaveTypes source operands types
  pub each : AreGiven source.world args ty types fields sources

-- the type of a field's base has what inference resolved the field to, of the field's type; the base of an index is an array of elements of the index
-- expression's type, an adjustment of the base leads to that array's type or to a reference to it, and the index is a `usize`
pub record IsPlainField (source : Source) (base : ℕ) (elem : PlaceElem) (ty : Ty) : Type 0 where
  pub base_ty : Ty
  pub base_has : node_type source base ≡ Some base_ty
  pub has_elem : HasElem source.world elem base_ty ty
  pub has_index : HasPlainIndex source elem
  pub base_leads : HasPlainBase source elem base base_ty

-- the target of a compound assignment is a place of a type
abbrev pub IsPlainAssigned : Source → Assigned → Ty → Type 0
IsPlainAssigned source (ByPath e) ty = IsPlainNamed source e ty
IsPlainAssigned source (ByField base elem) ty = IsPlainField source base elem ty

-- The target of a compound assignment is a place of a type whose values the operator takes as its left operands and gives as results. The
-- value has the type of its right operand.
pub record IsPlainCompound (source : Source) (op : Operator) (to : Assigned) (value : ℕ) : Type 0 where
  pub ty : Ty
  pub other : Ty
  pub assigned : IsPlainAssigned source to ty
  pub value_has : node_type source value ≡ Some other
  pub typed : IsCombined op ty other ty

-- the value of a `return`, where there is one, has the type of the body's result
pub record HasPlainReturn (source : Source) (value : Option ExprId) : Type 0 where
  pub ty : Ty
  pub result_has : node_type source (root source) ≡ Some ty
  pub value_has : IsPlainTail source value ty

-- bindings of a body have these types, one each
abbrev pub AreBound : Source → List ℕ → List Ty → Type 0
AreBound source [] [] = Unit {0}
AreBound source (b ∷ rest) (ty ∷ others) = (binding_type source b ≡ Some ty) × AreBound source rest others
AreBound source _ _ = ⊥

-- a callee is a path; a method call has none
abbrev pub IsNamedByPath : Source → (callee : Option ℕ) → Type 0
IsNamedByPath source (Some callee) = (name : List ℕ) × (expr_of source.body callee ≡ Some (whole.Path name))
IsNamedByPath source None = Unit {0}

-- A call of a function that has a body, has no generics, is declared by no trait and isn't special, as an intrinsic is, and whose
-- parameters are plain names: its callee is a path of the function's type, or it is a method call that is resolved to it. There are as
-- many arguments as parameters, each of its parameter's type, and the call and the callee's body have the type of the function's result.
pub record IsPlainCall (source : Source) (e : ℕ) (callee : Option ℕ) (args : List ℕ) (ty : Ty) : Type 0 where
  pub by_path : IsNamedByPath source callee
  pub id : FunctionId
  pub names : function_called source e callee ≡ Some id
  pub row : FunctionRow
  pub found : function_row source.world id ≡ Some row
  pub no_generics : row.generics ≡ []
  pub no_trait : row.in_trait ≡ None
  pub not_special : row.special ≡ None
  pub called : Source
  pub has_body : source_of source.world id ≡ Some called
  pub bound : List ℕ
  pub binds : parameters called ≡ Some bound
  pub arguments_have : HaveTypes source args row.sig.params
  pub parameters_have : AreBound called bound row.sig.params
  pub typed : ty ≡ row.sig.ret
  pub body_has : node_type called (root called) ≡ Some row.sig.ret

-- a form that has a meaning, at types that fit it
abbrev pub HasPlainForm : Source → ℕ → Option CoreExpr → Ty → Type 0
HasPlainForm source e (Some (expr.Literal l)) ty = IsPlainLiteral l ty
HasPlainForm source e (Some (expr.Path name)) ty = IsPlainPath source e ty
HasPlainForm source e (Some expr.UnitStruct) ty = IsUnitOf source.world ty
HasPlainForm source e (Some (expr.Field base elem)) ty = IsPlainField source base elem ty
HasPlainForm source e (Some (expr.Strict operation operands)) ty = IsPlainStrict source operation operands ty
HasPlainForm source e (Some (expr.Update base id args sources operands)) ty = IsPlainUpdate source base id args sources operands ty
HasPlainForm source e (Some (expr.Logic op left right)) ty = IsPlainLogic source left right ty
HasPlainForm source e (Some (expr.If condition then_branch else_branch)) ty = IsPlainIf source condition then_branch else_branch ty
HasPlainForm source e (Some (expr.Assign to value)) ty = IsPlainAssign source to value
HasPlainForm source e (Some (expr.Compound op to value)) ty = IsPlainCompound source op to value
HasPlainForm source e (Some (expr.Block statements tail)) ty = All (IsPlainStatement source) statements × IsPlainTail source tail ty
HasPlainForm source e (Some (expr.Labelled label statements tail)) ty = All (IsPlainStatement source) statements × IsPlainTail source tail ty
HasPlainForm source e (Some (expr.Loop label body)) ty = Unit {0}
HasPlainForm source e (Some (expr.Break label value)) ty = Unit {0}
HasPlainForm source e (Some (expr.Continue label)) ty = Unit {0}
HasPlainForm source e (Some (expr.Return value)) ty = HasPlainReturn source value
HasPlainForm source e (Some (expr.Call callee args)) ty = IsPlainCall source e callee args ty
HasPlainForm source e None ty = ⊥

-- an expression itself has a plain form, at its own type, which is `!` where `NeverToAny` adjusts it
pub record IsPlainNode (source : Source) (e : ℕ) : Type 0 where
  pub ty : Ty
  pub has_type : own_type source e ≡ Some ty
  pub form : HasPlainForm source e (node source e) ty
  pub never : diverges source e ≡ true → ty ≡ NeverTy

-- each expression that is evaluated where one is has a plain form
abbrev pub IsPlainFrom : Source → ℕ → Type 0
IsPlainFrom source e = (f : ℕ) → Evaluates source e f → IsPlainNode source f

-- the loops and labelled blocks that are open in an expression's parts: those around it, and itself where it is one
abbrev pub opened_in : ℕ → Option CoreExpr → List Opened → List Opened
opened_in e (Some (expr.Labelled label statements tail)) outer = record { node = e; label = Some label } ∷ outer
opened_in e (Some (expr.Loop label body)) outer = record { node = e; label = label } ∷ outer
opened_in e _ outer = outer

-- `EvaluatesIn source outer e inner f`: `f` is `e`, or is evaluated within it; where the loops and labelled blocks of `outer` are
-- open around `e`, those of `inner` are open around `f`
pub data EvaluatesIn (source : Source) : List Opened → ℕ → List Opened → ℕ → Type 0 where
  itself_in : {outer : List Opened} {e : ℕ} → EvaluatesIn source outer e outer e
  part_in : {outer inner : List Opened} {e child f : ℕ} → Contains (parts_of (node source e)) child →
      EvaluatesIn source (opened_in e (node source e) outer) child inner f → EvaluatesIn source outer e inner f

-- a `break` means a loop or a labelled block that is open, and its value, where there is one, has the own type of that
pub record HasPlainTarget (source : Source) (open_around : List Opened) (label : Option LabelId) (value : Option ExprId) : Type 0 where
  pub target : Opened
  pub means : meant label open_around ≡ Some target
  pub ty : Ty
  pub target_has : own_type source target.node ≡ Some ty
  pub value_has : IsPlainTail source value ty

-- a `continue` means a loop or a labelled block that is open
pub record HasOpenTarget (open_around : List Opened) (label : Option LabelId) : Type 0 where
  pub target : Opened
  pub means : meant label open_around ≡ Some target

-- what is asked of an expression by what stands around it: a `break` or a `continue` has a target
abbrev pub FitsAround : Source → List Opened → Option CoreExpr → Type 0
FitsAround source open_around (Some (expr.Break label value)) = HasPlainTarget source open_around label value
FitsAround source open_around (Some (expr.Continue label)) = HasOpenTarget open_around label
FitsAround source open_around _ = Unit {0}

-- each `break` and each `continue` that is evaluated where an expression is has a target
abbrev pub JumpsFit : Source → List Opened → ℕ → Type 0
JumpsFit source outer e = (inner : List Opened) (f : ℕ) → EvaluatesIn source outer e inner f → FitsAround source inner (node source f)

-- each expression that is evaluated has a plain form, and each `break` and each `continue` has a target in the body
pub record IsPlain (source : Source) : Type 0 where
  pub nodes : IsPlainFrom source (root source)
  pub jumps : JumpsFit source [] (root source)

-- a type has a layout
pub record IsLaidOut (source : Source) (ty : Option Ty) : Type 0 where
  pub layout : Layout
  pub found : option_and_then (layout_of source.world) ty ≡ Some layout

-- a type has a layout, and a size
pub record HasSizedLayout (source : Source) (ty : Option Ty) : Type 0 where
  pub layout : Layout
  pub found : option_and_then (layout_of source.world) ty ≡ Some layout
  pub sized : layout.sized ≡ true

-- the types of an expression, before and after its adjustment, have layouts
pub record IsLaidOutNode (source : Source) (e : ℕ) : Type 0 where
  pub of_itself : IsLaidOut source (own_type source e)
  pub of_value : IsLaidOut source (node_type source e)

-- and these have sizes
pub record IsSizedNode (source : Source) (e : ℕ) : Type 0 where
  pub of_itself : HasSizedLayout source (own_type source e)
  pub of_value : HasSizedLayout source (node_type source e)

-- Each expression that is evaluated, and each binding that no closure owns, has types with a size: else the cost of
-- the body is undefined.
pub record HasDefinedCost (source : Source) : Type 0 where
  pub nodes : (e : ℕ) → Evaluates source (root source) e → IsSizedNode source e
  pub bindings : (b : ℕ) (ty : Ty) → binding_type source b ≡ Some ty → HasSizedLayout source (Some ty)

-- the part that a step evaluates, where it needs a layout: a truth value as an operand is one byte without any
abbrev pub sized_part : Source → Step → List ℕ
sized_part source (step.Operand e) = cond (is_truth (unadjusted source e)) [] (e ∷ [])
sized_part source other = step_part other

abbrev pub sized_parts : Source → Option CoreExpr → List ℕ
sized_parts source (Some form) = flat_map (sized_part source) (steps_of form)
sized_parts source None = []

-- An expression needs a layout where another is evaluated into a place: the other itself, and what is evaluated there,
-- but for truth values that are operands.
pub data NeedsLayout (source : Source) : ℕ → ℕ → Type 0 where
  own : {e : ℕ} → NeedsLayout source e e
  inside : {e child f : ℕ} → Contains (sized_parts source (node source e)) child → NeedsLayout source child f → NeedsLayout source e f

-- each expression that needs a layout, and each binding that no closure owns, has types with layouts
pub record AreLaidOut (source : Source) : Type 0 where
  pub nodes : (e : ℕ) → NeedsLayout source (root source) e → IsLaidOutNode source e
  pub bindings : (b : ℕ) (ty : Ty) → binding_type source b ≡ Some ty → IsLaidOut source (Some ty)

-- an expression that is evaluated in a source is a call of the function whose source is another
pub record Calls (source called : Source) : Type 0 where
  pub e : ℕ
  pub evaluated : Evaluates source (root source) e
  pub callee : Option ℕ
  pub args : List ℕ
  pub is_call : node source e ≡ Some (expr.Call callee args)
  pub enters : source_called source e callee ≡ Some called

-- `Reaches source reached`: `reached` is `source`, or is called in what `source` reaches
pub data Reaches : Source → Source → Type 0 where
  at_once : {source : Source} → Reaches source source
  through : {source called reached : Source} → Calls source called → Reaches called reached → Reaches source reached

-- each source that is reached is plain
pub record IsPlainThroughout (source : Source) : Type 0 where
  pub each : (reached : Source) → Reaches source reached → IsPlain reached

-- no expression that is evaluated is a call of a function, so that a source reaches itself alone
abbrev pub HasNoCalls : Source → Type 0
HasNoCalls source = (e : ℕ) → Evaluates source (root source) e → IsNoCall (node source e)
