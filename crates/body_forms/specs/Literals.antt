-- A literal as an operand of the graph.
use Rattle.std.specs.Prelude.{◌≡◌, ℕ, ◌≤◌, List, take, Some}
use Rattle.source_meaning.specs.Core.{CoreLiteral, Truth, Number, Character}
use Rattle.world.specs.declared.layout.Layout.{Layout}
use Rattle.types.specs.declared.ty.Const.{Const}
use Rattle.types.specs.declared.ty.Ty.{Ty}
use Rattle.mir.specs.declared.operand.OperandKind.{OperandKind}
use Rattle.mir.specs.declared.operand.OperandKind.TheVariants.{Constant}
use Rattle.mir.specs.Run.{constant_bytes}
use Rattle.source_meaning.specs.Meaning.{literal_bytes}
use Rattle.source_meaning.specs.Source.{Source, own_type, own_layout}

-- an operand is a constant of an expression's own type, with these bytes
pub record IsConstantOf (source : Source) (e : ℕ) (bytes : List ℕ) (operand : OperandKind) : Type 0 where
  pub konst : Const
  pub ty : Ty
  pub is_constant : operand ≡ Constant konst ty
  pub bytes_are : constant_bytes konst ≡ Some bytes
  pub typed : own_type source e ≡ Some ty

-- an operand is a constant with as many of these bytes as the expression's type has
pub record IsNumberOf (source : Source) (e : ℕ) (bytes : List ℕ) (operand : OperandKind) : Type 0 where
  pub layout : Layout
  pub found : own_layout source e ≡ Some layout
  pub small : layout.size ≤ 16
  pub is_constant : IsConstantOf source e (take layout.size bytes) operand

-- an operand is a constant with a literal's bytes and type
pub record IsLiteral (source : Source) (e : ℕ) (literal : CoreLiteral) (operand : OperandKind) : Type 0 where
  pub bytes : List ℕ
  pub has_bytes : literal_bytes source e literal ≡ Some bytes
  pub is_constant : IsConstantOf source e bytes operand

-- the type of a number literal, or of a character, has a layout of at most 16 bytes
pub record HasNumberLayout (source : Source) (e : ℕ) : Type 0 where
  pub layout : Layout
  pub found : own_layout source e ≡ Some layout
  pub narrow : layout.size ≤ 16

-- a literal that is lowered: a truth value, or a number or a character with a layout
abbrev pub IsBuiltLiteral : Source → ℕ → CoreLiteral → Type 0
IsBuiltLiteral source e (Truth test) = Unit {0}
IsBuiltLiteral source e (Number number) = HasNumberLayout source e
IsBuiltLiteral source e (Character code) = HasNumberLayout source e
