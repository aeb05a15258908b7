-- The callee of a call as an operand of the graph.
use Rattle.std.specs.Prelude.{◌≡◌, ℕ, [], Option, Some, None}
use Rattle.types.specs.declared.ids.ExprId.{ExprId}
use Rattle.types.specs.declared.ty.Const.{Const}
use Rattle.types.specs.declared.ty.Ty.{Ty}
use Rattle.mir.specs.declared.operand.OperandKind.{OperandKind}
use Rattle.mir.specs.declared.operand.OperandKind.TheVariants.{Constant}
use Rattle.mir.specs.Run.{constant_bytes}
use Rattle.source_meaning.specs.Calls.{function_called, function_in}
use Rattle.source_meaning.specs.Source.{Source}

-- the number of a call's callee, where it has one
abbrev pub callee_number : Option ExprId → Option ℕ
callee_number (Some callee) = Some callee.0
callee_number None = None

-- an operand is a constant of no bytes, whose type is that of the function that a call names
pub record IsCalleeOperand (source : Source) (e : ℕ) (callee : Option ℕ) (operand : OperandKind) : Type 0 where
  pub konst : Const
  pub ty : Ty
  pub is : operand ≡ Constant konst ty
  pub empty : constant_bytes konst ≡ Some []
  pub names : function_in ty ≡ function_called source e callee
