-- What the operations of strict forms are in the graph.
use Rattle.std.specs.Prelude.{◌≡◌, ℕ, List, [], ◌∷◌, Some}
use Rattle.types.specs.declared.ids.StructId.{StructId}
use Rattle.types.specs.declared.ids.VariantId.TheVariants as variant
use Rattle.types.specs.declared.ty.Const.{Const}
use Rattle.types.specs.declared.ty.GenericArgs.{GenericArgs}
use Rattle.types.specs.declared.ty.Ty.{Ty}
use Rattle.types.specs.declared.ty.Ty.TheVariants.{Array as ArrayTy}
use Rattle.source_meaning.specs.Core.{Operation, Negate, Invert, Keep, Convert, Combine, MakeTuple, MakeArray, Repeat, MakeStruct}
use Rattle.source_meaning.specs.Source.{Source, own_type}
use Rattle.source_meaning.specs.Structs.{picked}
use Rattle.mir.specs.declared.operand.AggregateKind.{AggregateKind}
use Rattle.mir.specs.declared.operand.AggregateKind.TheVariants as kind
use Rattle.mir.specs.declared.operand.CastKind.TheVariants.{IntToInt}
use Rattle.mir.specs.declared.operand.Operand.{Operand}
use Rattle.mir.specs.declared.operand.Rvalue.{Rvalue}
use Rattle.mir.specs.declared.operand.Rvalue.TheVariants as rvalue
use Rattle.mir.specs.declared.operand.UnOp.TheVariants as one
use Rattle.body_forms.specs.Form.{operation_of}
use Rattle.body_forms.specs.declared.operation.Several.{Several}
use Rattle.body_forms.specs.declared.operation.Several.TheVariants as several
use Rattle.body_forms.specs.declared.operation.Single.{Single}
use Rattle.body_forms.specs.declared.operation.Single.TheVariants as single

-- the operation on one operand
abbrev pub single_operation : Single → Operation
single_operation (single.Unary op) = operation_of op
single_operation single.Coercion = Keep
single_operation single.Cast = Convert
single_operation single.Repeat = Repeat

-- the operation on any number of operands
abbrev pub several_operation : Several → Operation
several_operation several.Tuple = MakeTuple
several_operation several.Array = MakeArray

-- a cast to the type of the expression that it is
pub record IsCast (source : Source) (e : ℕ) (x : Operand) (r : Rvalue) : Type 0 where
  pub ty : Ty
  pub typed : own_type source e ≡ Some ty
  pub is : r ≡ rvalue.Cast IntToInt x ty

-- an operand as often as the type of the array says that an expression is
pub record IsRepeat (source : Source) (e : ℕ) (x : Operand) (r : Rvalue) : Type 0 where
  pub element : Ty
  pub len : Const
  pub typed : own_type source e ≡ Some (ArrayTy element len)
  pub is : r ≡ rvalue.Repeat x len

-- a tuple of the type of the expression that it is
pub record IsTuple (source : Source) (e : ℕ) (given : AggregateKind) : Type 0 where
  pub ty : Ty
  pub typed : own_type source e ≡ Some ty
  pub is : given ≡ kind.Tuple ty

-- an array of elements of the type that the type of the expression says that it is
pub record IsArray (source : Source) (e : ℕ) (given : AggregateKind) : Type 0 where
  pub element : Ty
  pub len : Const
  pub typed : own_type source e ≡ Some (ArrayTy element len)
  pub is : given ≡ kind.Array element

-- an aggregate is what an expression makes
abbrev pub IsKindOf : Source → ℕ → Several → AggregateKind → Type 0
IsKindOf source e several.Tuple given = IsTuple source e given
IsKindOf source e several.Array given = IsArray source e given

-- an aggregate of operands
pub record IsMade (IsOf : AggregateKind → Type 0) (operands : List Operand) (r : Rvalue) : Type 0 where
  pub given : AggregateKind
  pub of : IsOf given
  pub is : r ≡ rvalue.Aggregate given operands

-- a struct at these arguments of the operands that are at places, in the order of the places
pub record IsStruct (id : StructId) (args : GenericArgs) (places : List ℕ) (operands : List Operand) (r : Rvalue) : Type 0 where
  pub fields : List Operand
  pub picks : picked places operands ≡ Some fields
  pub is : r ≡ rvalue.Aggregate (kind.Adt (variant.StructId id) args) fields

-- an rvalue is what an operation of an expression makes of operands
abbrev pub IsRvalueOf : Source → ℕ → Operation → List Operand → Rvalue → Type 0
IsRvalueOf source e Negate (x ∷ []) r = r ≡ rvalue.UnaryOp one.Neg x
IsRvalueOf source e Invert (x ∷ []) r = r ≡ rvalue.UnaryOp one.Not x
IsRvalueOf source e Keep (x ∷ []) r = r ≡ rvalue.Use x
IsRvalueOf source e Convert (x ∷ []) r = IsCast source e x r
IsRvalueOf source e (Combine op) (x ∷ y ∷ []) r = r ≡ rvalue.CheckedBinaryOp op x y
IsRvalueOf source e MakeTuple operands r = IsMade (IsTuple source e) operands r
IsRvalueOf source e MakeArray operands r = IsMade (IsArray source e) operands r
IsRvalueOf source e (MakeStruct id args places) operands r = IsStruct id args places operands r
IsRvalueOf source e Repeat (x ∷ []) r = IsRepeat source e x r
IsRvalueOf source e _ _ r = ⊥
