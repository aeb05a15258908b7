-- Whether the blocks, locals and projections that a body names are its own.
use Rattle.std.specs.Prelude.{◌<◌, length, IfSome}
use Rattle.std.specs.List.{All}
use Rattle.mir.specs.declared.body.BasicBlock.{BasicBlock}
use Rattle.mir.specs.declared.body.MirBody.{MirBody}
use Rattle.mir.specs.declared.body.TerminatorKind.{TerminatorKind}
use Rattle.mir.specs.declared.body.TerminatorKind.TheVariants.{Goto, SwitchInt, Return, Drop, Call}
use Rattle.mir.specs.declared.ids.BasicBlockId.{BasicBlockId}
use Rattle.mir.specs.declared.ids.LocalId.{LocalId}
use Rattle.mir.specs.declared.operand.OperandKind.{OperandKind}
use Rattle.mir.specs.declared.operand.OperandKind.TheVariants.{Copy, Constant}
use Rattle.mir.specs.declared.operand.Place.{Place}
use Rattle.mir.specs.declared.operand.Rvalue.{Rvalue}
use Rattle.mir.specs.declared.operand.Rvalue.TheVariants.{Use, Repeat, Cast, CheckedBinaryOp, UnaryOp, Aggregate}
use Rattle.mir.specs.declared.statement.StatementKind.{StatementKind}
use Rattle.mir.specs.declared.statement.StatementKind.TheVariants.{Assign, FakeRead, StorageLive, StorageDead}
use Rattle.mir.specs.Projections.{HasId}
use Rattle.mir.specs.Switches.{all_targets_of}

-- the body has the local
abbrev pub HasLocal : MirBody → LocalId → Type 0
HasLocal body local = local.0 < length body.locals

-- the body has the place's local, and its store the projection
abbrev pub HasPlace : MirBody → Place → Type 0
HasPlace body place = HasLocal body place.local × HasId body.projection_store.projections place.projection

-- the body has the block
abbrev pub HasBlock : MirBody → BasicBlockId → Type 0
HasBlock body block = block.0 < length body.basic_blocks

-- the place that an operand reads is the body's
abbrev pub IsClosedOperand : MirBody → OperandKind → Type 0
IsClosedOperand body (Copy place) = HasPlace body place
IsClosedOperand body (Constant konst ty) = Unit {0}

-- each operand of a value that is computed is closed
abbrev pub IsClosedRvalue : MirBody → Rvalue → Type 0
IsClosedRvalue body (Use operand) = IsClosedOperand body operand.kind
IsClosedRvalue body (Repeat operand len) = IsClosedOperand body operand.kind
IsClosedRvalue body (Cast kind operand ty) = IsClosedOperand body operand.kind
IsClosedRvalue body (CheckedBinaryOp op left right) = IsClosedOperand body left.kind × IsClosedOperand body right.kind
IsClosedRvalue body (UnaryOp op operand) = IsClosedOperand body operand.kind
IsClosedRvalue body (Aggregate kind operands) = All (λ operand. IsClosedOperand body operand.kind) operands

-- each place and each local that a statement names is the body's
abbrev pub IsClosedStatement : MirBody → StatementKind → Type 0
IsClosedStatement body (Assign place rvalue) = HasPlace body place × IsClosedRvalue body rvalue
IsClosedStatement body (FakeRead place) = HasPlace body place
IsClosedStatement body (StorageLive local) = HasLocal body local
IsClosedStatement body (StorageDead local) = HasLocal body local

-- each place that a terminator names, and each block that it can lead to, is the body's
abbrev pub IsClosedTerminator : MirBody → TerminatorKind → Type 0
IsClosedTerminator body (Goto target) = HasBlock body target
IsClosedTerminator body (SwitchInt discr targets) = IsClosedOperand body discr.kind × All (HasBlock body) (all_targets_of targets)
IsClosedTerminator body Return = Unit {0}
IsClosedTerminator body (Drop place target unwind) = HasPlace body place × HasBlock body target × IfSome unwind (HasBlock body)
IsClosedTerminator body (Call func args destination target cleanup from_hir_call) =
    IsClosedOperand body func.kind × All (λ operand. IsClosedOperand body operand.kind) args × HasPlace body destination
    × IfSome target (HasBlock body) × IfSome cleanup (HasBlock body)

-- each statement of a block, and its terminator if it has one, is closed
pub record IsClosedBlock (body : MirBody) (block : BasicBlock) : Type 0 where
  pub statements : All (λ statement. IsClosedStatement body statement.kind) block.statements
  pub terminator : IfSome block.terminator (λ terminator. IsClosedTerminator body terminator.kind)

-- the body has a return slot, and each block and local that it names, those of its parameters among them
pub record IsClosed (body : MirBody) : Type 0 where
  pub return_slot : HasLocal body (record { 0 = 0 })
  pub start_block : HasBlock body body.start_block
  pub basic_blocks : All (IsClosedBlock body) body.basic_blocks
  pub param_locals : All (HasLocal body) body.param_locals
