-- What the rows of a body say of its statements and terminators.
use Rattle.std.specs.Prelude.{◌≡◌, ℕ, Bool, true, false, List, [], ◌∷◌, take, Option, Some, None, slice_get, option_and_then}
use Rattle.numbers.specs.Operators.{kind_of}
use Rattle.numbers.specs.declared.operator.Kind.{Kind}
use Rattle.types.specs.declared.ty.Ty.{Ty}
use Rattle.world.specs.Checked.{fixed_size}
use Rattle.mir.specs.declared.body.BasicBlock.{BasicBlock}
use Rattle.mir.specs.declared.body.Terminator.{Terminator}
use Rattle.mir.specs.declared.body.TerminatorKind.{TerminatorKind}
use Rattle.mir.specs.declared.body.TerminatorKind.TheVariants as ends
use Rattle.mir.specs.declared.operand.OperandKind.{OperandKind}
use Rattle.mir.specs.declared.operand.OperandKind.TheVariants as operand
use Rattle.mir.specs.declared.operand.Rvalue.TheVariants.{Use, Cast, CheckedBinaryOp}
use Rattle.mir.specs.declared.statement.Statement.{Statement}
use Rattle.mir.specs.declared.statement.StatementKind.{StatementKind}
use Rattle.mir.specs.declared.statement.StatementKind.TheVariants.{Assign, FakeRead, StorageLive, StorageDead}
use Rattle.mir.specs.Run.{constant_bytes, operand_type}
use Rattle.mir_rows.specs.declared.row.Action.{Action}
use Rattle.mir_rows.specs.declared.row.Action.TheVariants as action
use Rattle.mir_rows.specs.declared.row.BlockRows.{BlockRows}
use Rattle.mir_rows.specs.declared.row.Row.{Row}
use Rattle.mir_rows.specs.declared.row.Short.{Short}
use Rattle.mir_rows.specs.declared.row.Source.{Source}
use Rattle.mir_rows.specs.declared.row.Source.TheVariants as source
use Rattle.mir_rows.specs.declared.row.Way.{Way}
use Rattle.mir_rows.specs.declared.row.Way.TheVariants as way
use Rattle.mir_rows.specs.declared.spots.Spot.TheVariants as spot
use Rattle.mir_rows.specs.Spots.{IsSpot, LiesAt, Prepared}

-- whether a statement does nothing when it runs
abbrev pub is_idle : StatementKind → Bool
is_idle (Assign place rvalue) = false
is_idle (FakeRead place) = true
is_idle (StorageLive local) = true
is_idle (StorageDead local) = true

-- the bytes that are kept of a constant
abbrev pub short_bytes : Short → List ℕ
short_bytes short = take short.count short.room

-- the bytes of an operand that is a constant with a value
abbrev pub constant_in : OperandKind → Option (List ℕ)
constant_in (operand.Copy place) = None
constant_in (operand.Constant konst ty) = constant_bytes konst

-- a source is what an operand says
abbrev pub IsSource : Prepared → Source → OperandKind → Type 0
IsSource code (source.Whole local) kind = LiesAt code (spot.Whole local) kind
IsSource code (source.Constant short) kind = constant_in kind ≡ Some (short_bytes short)
IsSource code (source.At spot) kind = LiesAt code spot kind

-- two sources are what two operands say, and the bytes of each are of a kind
pub record AreOperands (code : Prepared) (kind other_kind : Kind) (first second : Source) (one other : OperandKind) : Type 0 where
  pub left : IsSource code first one
  pub right : IsSource code second other
  pub left_kind : option_and_then kind_of (operand_type code.world code.body one) ≡ Some kind
  pub right_kind : option_and_then kind_of (operand_type code.world code.body other) ≡ Some other_kind

-- a source is what an operand says that is cast to a type: its bytes are of a kind, and the type has a size
pub record IsCast (code : Prepared) (kind : Kind) (size : ℕ) (from : Source) (one : OperandKind) (ty : Ty) : Type 0 where
  pub source : IsSource code from one
  pub own_kind : option_and_then kind_of (operand_type code.world code.body one) ≡ Some kind
  pub own_size : fixed_size ty ≡ Some size

-- an action is what a statement of a body does, by the layouts of a world
abbrev pub Says : Prepared → Action → StatementKind → Type 0
Says code (action.Combine op kind other_kind guess to left right) (Assign place (CheckedBinaryOp operator one other)) = IsSpot code place to × (operator ≡ op) × AreOperands code kind other_kind left right one.kind other.kind
Says code (action.Cast kind size to from) (Assign place (Cast cast operand ty)) = IsSpot code place to × IsCast code kind size from operand.kind ty
Says code (action.Copy to from) (Assign place (Use operand)) = IsSpot code place to × LiesAt code from operand.kind
Says code (action.Put to value) (Assign place (Use operand)) = IsSpot code place to × IsSource code (source.Constant value) operand.kind
Says code action.Other statement = Unit {0}
Says code _ _ = ⊥

-- a row is that of a statement, which stands at its place among those of its block
pub record IsRow (code : Prepared) (block : List Statement) (statement : Statement) (row : Row) : Type 0 where
  pub stands : slice_get block row.place ≡ Some statement
  pub says : Says code row.action statement.kind

-- the first of these rows is that of a statement, unless it does nothing (`idle`), and `Rest` holds of the others
abbrev pub RowsFrom : Prepared → (block : List Statement) → Statement → (idle : Bool) → (Rest : List Row → Type 0) → List Row → Type 0
RowsFrom code block statement true Rest rows = Rest rows
RowsFrom code block statement false Rest [] = ⊥
RowsFrom code block statement false Rest (row ∷ rows) = IsRow code block statement row × Rest rows

-- rows are those of the statements that do something, in order; `block`: all statements of the block that they stand in
abbrev pub AreRows : Prepared → (block : List Statement) → List Statement → List Row → Type 0
AreRows code block [] [] = Unit {0}
AreRows code block [] (row ∷ rows) = ⊥
AreRows code block (statement ∷ statements) rows = RowsFrom code block statement (is_idle statement.kind) (AreRows code block statements) rows

-- a way is where a terminator leads
abbrev pub Leads : Prepared → Way → TerminatorKind → Type 0
Leads code (way.Goto block) (ends.Goto target) = target ≡ block
Leads code (way.Goto block) (ends.Drop place target unwind) = target ≡ block
Leads code (way.Branch spot value then otherwise) (ends.SwitchInt discr targets) = LiesAt code spot discr.kind × (targets ≡ ((value, then) ∷ [], otherwise))
Leads code way.Other kind = Unit {0}
Leads code _ _ = ⊥

-- so it is how a block ends
abbrev pub IsWay : Prepared → Way → Option Terminator → Type 0
IsWay code taken (Some terminator) = Leads code taken terminator.kind
IsWay code taken None = taken ≡ way.Other

-- a block's rows
pub record IsBlock (code : Prepared) (block : BasicBlock) (rows : BlockRows) : Type 0 where
  pub statements : AreRows code block.statements block.statements rows.rows.items
  pub terminator : IsWay code rows.way block.terminator

-- the rows of blocks of a body, one for each
abbrev pub AreBlocks : Prepared → List BasicBlock → List BlockRows → Type 0
AreBlocks code [] [] = Unit {0}
AreBlocks code (block ∷ blocks) (rows ∷ others) = IsBlock code block rows × AreBlocks code blocks others
AreBlocks code _ _ = ⊥

-- a block that a body has at a place has these rows
pub record HasRows (code : Prepared) (place : ℕ) (rows : BlockRows) : Type 0 where
  pub block : BasicBlock
  pub found : slice_get code.body.basic_blocks place ≡ Some block
  pub are : IsBlock code block rows
