-- What a frame does that doesn't look at the answers of its run: with other answers it reads, writes and fills the same.
use Rattle.std.proofs.Common.{◌≡◌, List, [], ◌∷◌, refl, ap}
use Rattle.std.specs.Prelude.{slice_get, Result, Ok, Err}
use Rattle.numbers.specs.Constants.{number_in}
use Rattle.mir.specs.declared.address.Interval.{Interval}
use Rattle.mir.specs.Memory.{Memory, number_held}
use Rattle.mir.specs.Run.{Frame, read, repeats, aggregated, operand_bytes, operands_bytes, rvalue_bytes, assigned, assigns_out, cell_now, copied, after_statement, after_statements, filled}
use Rattle.mir.specs.declared.answers.Answer.{Answer}
use Rattle.mir.specs.declared.answers.Query.{Query}
use Rattle.mir.specs.declared.errors.MirEvalError.{MirEvalError}
use Rattle.mir.specs.declared.ids.LocalId.{LocalId}
use Rattle.mir.specs.declared.operand.Operand.{Operand}
use Rattle.mir.specs.declared.operand.OperandKind.{OperandKind}
use Rattle.mir.specs.declared.operand.OperandKind.TheVariants.{Copy, Constant}
use Rattle.mir.specs.declared.operand.Rvalue.{Rvalue}
use Rattle.mir.specs.declared.operand.Rvalue.TheVariants.{Use, Repeat, Cast, CheckedBinaryOp, UnaryOp, Aggregate}
use Rattle.mir.specs.declared.statement.Statement.{Statement}
use Rattle.mir.specs.declared.statement.StatementKind.{StatementKind}
use Rattle.mir.specs.declared.statement.StatementKind.TheVariants.{Assign, FakeRead, StorageLive, StorageDead}
use Rattle.mir_laws.specs.Questions.{telling}

-- where two ways to go on agree from each memory, so do they from a result
rest_agrees : (first second : Memory → Result Memory MirEvalError) → ((memory : Memory) → first memory ≡ second memory) → (after : Result Memory MirEvalError) →
    ◌≡◌ {A = Result Memory MirEvalError} (elim after [ Ok memory ↦ first memory | Err e ↦ Err e ]) (elim after [ Ok memory ↦ second memory | Err e ↦ Err e ])
rest_agrees first second same (Ok memory) = same memory
rest_agrees first second same (Err e) = refl

module _ (later : List (Query × Answer)) (frame : Frame) where
  pub same_operand : (memory : Memory) (kind : OperandKind) → operand_bytes (telling later frame) memory kind ≡ operand_bytes frame memory kind
  unfolding operand_bytes
  same_operand memory (Copy place) = refl
  same_operand memory (Constant konst ty) = refl

  same_operands : (memory : Memory) (operands : List Operand) → operands_bytes (telling later frame) memory operands ≡ operands_bytes frame memory operands
  unfolding operands_bytes
  same_operands memory [] = refl
  same_operands memory (operand ∷ rest) = rw (same_operand memory operand.kind, same_operands memory rest)

  same_rvalue : (memory : Memory) (rvalue : Rvalue) → rvalue_bytes (telling later frame) memory rvalue ≡ rvalue_bytes frame memory rvalue
  unfolding rvalue_bytes
  same_rvalue memory (Use operand) = ap read (same_operand memory operand.kind)
  same_rvalue memory (Repeat operand len) = ap (repeats (number_in len)) (same_operand memory operand.kind)
  same_rvalue memory (Cast kind operand ty) = rw (same_operand memory operand.kind)
  same_rvalue memory (CheckedBinaryOp op left right) = rw (same_operand memory left.kind, same_operand memory right.kind)
  same_rvalue memory (UnaryOp op operand) = rw (same_operand memory operand.kind)
  same_rvalue memory (Aggregate kind operands) = ap (aggregated frame.program.world kind) (same_operands memory operands)

  same_statement : (memory : Memory) (kind : StatementKind) → after_statement (telling later frame) memory kind ≡ after_statement frame memory kind
  unfolding after_statement
  same_statement memory (Assign place rvalue) = ap (assigned (assigns_out frame.program.world frame.body (number_held memory frame.cells) place rvalue) memory (cell_now frame memory place)) (same_rvalue memory rvalue)
  same_statement memory (FakeRead place) = refl
  same_statement memory (StorageLive local) = refl
  same_statement memory (StorageDead local) = refl

  pub same_statements : (statements : List Statement) (memory : Memory) → after_statements (telling later frame) statements memory ≡ after_statements frame statements memory
  unfolding after_statements
  same_statements [] memory = refl
  same_statements (statement ∷ statements) memory =
      rw (same_statement memory statement.kind, after_statements) (rest_agrees _ _ (same_statements statements) (after_statement frame memory statement.kind))

  pub same_filled : (cells : List Interval) (params : List LocalId) (args : List Operand) (memory : Memory) → filled (telling later frame) cells params args memory ≡ filled frame cells params args memory
  unfolding filled
  same_filled cells [] [] memory = refl
  same_filled cells (param ∷ params) (arg ∷ args) memory =
      rw (same_operand memory arg.kind, filled)
      (rest_agrees _ _ (same_filled cells params args) (copied memory (slice_get cells param.0) (read (operand_bytes frame memory arg.kind))))
  same_filled cells [] (arg ∷ args) memory = refl
  same_filled cells (param ∷ params) [] memory = refl
