-- What can be read or written isn't out of bounds, so an assignment that computes does what it computes; and what is out of bounds is so in the meaning
-- too.
use Rattle.std.proofs.Common.{◌≡◌, ℕ, Bool, true, false, ◌||◌, List, [], ◌∷◌, map, Option, Some, None, Result, Ok, Err, refl, sym, ap, ◌∙◌, subst}
use Rattle.std.proofs.lemmas.Option.{option_and_then_some}
use Rattle.types.specs.declared.ty.Ty.{Ty}
use Rattle.numbers.specs.Constants.{number_in}
use Rattle.numbers.specs.declared.operator.Operator.{Operator}
use Rattle.mir.specs.declared.address.Interval.{Interval}
use Rattle.mir.specs.declared.errors.MirEvalError.{MirEvalError}
use Rattle.mir.specs.declared.errors.MirEvalError as error
use Rattle.mir.specs.declared.operand.AggregateKind.{AggregateKind}
use Rattle.mir.specs.declared.operand.AggregateKind.TheVariants.{Array, Tuple, Adt}
use Rattle.mir.specs.declared.operand.Operand.{Operand}
use Rattle.mir.specs.declared.operand.OperandKind.{OperandKind}
use Rattle.mir.specs.declared.operand.OperandKind.TheVariants.{Copy, Constant}
use Rattle.mir.specs.declared.operand.Place.{Place}
use Rattle.mir.specs.declared.operand.Rvalue.{Rvalue}
use Rattle.mir.specs.declared.operand.Rvalue.TheVariants.{Use, Repeat, Cast, CheckedBinaryOp, UnaryOp, Aggregate}
use Rattle.mir.specs.declared.statement.StatementKind.TheVariants.{Assign}
use Rattle.mir.specs.Memory.{Memory, cell_bytes, number_held}
use Rattle.mir.specs.Places.{is_out_of_bounds}
use Rattle.mir.specs.Projections.{empty_id}
use Rattle.mir.specs.Run.{Calling, Frame, after_statement, aggregated, assigned, before, calls_out, cast_to, cell_now, copied, operand_bytes, operand_out, operand_type, operands_bytes, operated, operated_on, out_of_bounds, read, reads_out, repeats, rvalue_bytes, some_out}
use Rattle.mir.proofs.Bounds.{cell-within}
use Rattle.mir.proofs.WholePlaces.{whole-within}
use Rattle.source_meaning.specs.Places.{operand_out as source_out, some_out as some_source_out}
use Rattle.source_meaning.specs.Source.{Source, Store, Operand as SourceOperand}
use Rattle.mir_lower.specs.Does.{Holds, FitAll}
use Rattle.mir_graph.specs.Graph.{Shape}

-- whether a result was computed of what was read: bytes, or a panic
abbrev pub IsComputed : Result (List ℕ) MirEvalError → Type 0
IsComputed (Ok bytes) = Unit {0}
IsComputed (Err (error.Panic word)) = Unit {0}
IsComputed (Err _) = ⊥

pub either-false : (one other : Bool) → one ≡ false → other ≡ false → (one || other) ≡ false
either-false false other first second = second
either-false true other first second = absurd cc

pub either-true : (one other : Bool) → other ≡ true → (one || other) ≡ true
either-true false other second = second
either-true true other second = refl

-- operands are out of bounds where those of the source are that they fit, one each
pub some-out-same : (source : Source) (whole : Shape) (frame : Frame) (store : Store) (memory : Memory) → Holds whole frame store memory → (operands : List Operand) (values : List SourceOperand) → FitAll source (map (λ (operand : Operand). operand.kind) operands) whole frame values →
    some_out frame.program.world frame.body (number_held memory frame.cells) operands ≡ some_source_out source store values
unfolding some_out some_source_out
some-out-same source whole frame store memory holds [] [] fit = refl
some-out-same source whole frame store memory holds [] (value ∷ values) fit = absurd fit
some-out-same source whole frame store memory holds (operand ∷ operands) [] fit = absurd fit
some-out-same source whole frame store memory holds (operand ∷ operands) (value ∷ values) fit =
    ap (λ (out : Bool). out || some_out frame.program.world frame.body (number_held memory frame.cells) operands) (fit.0.out store memory holds)
    ∙ ap (λ (out : Bool). source_out source store value || out) (some-out-same source whole frame store memory holds operands values fit.1)

module _ (frame : Frame) (memory : Memory) where
  abbrev Out : OperandKind → Bool
  Out kind = operand_out frame.program.world frame.body (number_held memory frame.cells) kind

  abbrev SomeOut : List Operand → Bool
  SomeOut operands = some_out frame.program.world frame.body (number_held memory frame.cells) operands

  -- an operand that can be read
  pub read-within : (kind : OperandKind) (bytes : List ℕ) → operand_bytes frame memory kind ≡ Some bytes → Out kind ≡ false
  unfolding operand_bytes operand_out
  read-within (Copy place) bytes is =
      option_and_then_some (cell_bytes memory) (cell_now frame memory place) bytes is
      (λ cell there found. cell-within frame.program.world (number_held memory frame.cells) frame.body frame.cells place cell there)
  read-within (Constant konst ty) bytes is = refl

  pub more-within : (operand : Operand) (rest : List Operand) → Out operand.kind ≡ false → SomeOut rest ≡ false → SomeOut (operand ∷ rest) ≡ false
  unfolding some_out
  more-within operand rest first others = either-false (Out operand.kind) (SomeOut rest) first others

  pub none-out : SomeOut [] ≡ false
  unfolding some_out
  none-out = refl

  -- operands that can be read
  pub all-within : (operands : List Operand) (parts : List (List ℕ)) → operands_bytes frame memory operands ≡ Some parts → SomeOut operands ≡ false
  unfolding operands_bytes
  all-within [] parts is = none-out
  all-within (operand ∷ rest) parts is = by (operand_bytes frame memory operand.kind) refl (operands_bytes frame memory rest) (λ others found. all-within rest others found) is where
    by : (first : Option (List ℕ)) → operand_bytes frame memory operand.kind ≡ first → (others : Option (List (List ℕ))) → ((found : List (List ℕ)) → others ≡ Some found → SomeOut rest ≡ false) → before first others ≡ Some parts → SomeOut (operand ∷ rest) ≡ false
    by (Some bytes) first (Some found) others same = more-within operand rest (read-within operand.kind bytes first) (others found refl)
    by (Some bytes) first None others same = absurd cc
    by None first others within same = absurd cc

  one-read : (operand : Operand) (made : Option (List ℕ) → Result (List ℕ) MirEvalError) → (IsComputed (made None) → ⊥) → IsComputed (made (operand_bytes frame memory operand.kind)) → Out operand.kind ≡ false
  one-read operand made fails is = by (operand_bytes frame memory operand.kind) refl is where
    by : (bytes : Option (List ℕ)) → operand_bytes frame memory operand.kind ≡ bytes → IsComputed (made bytes) → Out operand.kind ≡ false
    by (Some bytes) found done = read-within operand.kind bytes found
    by None found done = absurd (fails done)

  repeated-read : (operand : Operand) (count : Option ℕ) → IsComputed (repeats count (operand_bytes frame memory operand.kind)) → Out operand.kind ≡ false
  unfolding repeats
  repeated-read operand (Some count) is = one-read operand (repeats (Some count)) (λ done. done) is
  repeated-read operand None is = absurd is

  both-read : (op : Operator) (one other : Operand) (first second : Option Ty) → IsComputed (operated op first second (operand_bytes frame memory one.kind) (operand_bytes frame memory other.kind)) → (Out one.kind || Out other.kind) ≡ false
  unfolding operated
  both-read op one other first second is = by (operand_bytes frame memory one.kind) refl (operand_bytes frame memory other.kind) refl is where
    by : (left : Option (List ℕ)) → operand_bytes frame memory one.kind ≡ left → (right : Option (List ℕ)) → operand_bytes frame memory other.kind ≡ right → IsComputed (operated op first second left right) → (Out one.kind || Out other.kind) ≡ false
    by (Some left) found (Some right) beside done = either-false (Out one.kind) (Out other.kind) (read-within one.kind left found) (read-within other.kind right beside)
    by (Some left) found None beside done = absurd done
    by None found right beside done = absurd done

  parts-read : (kind : AggregateKind) (operands : List Operand) (parts : Option (List (List ℕ))) → operands_bytes frame memory operands ≡ parts → IsComputed (aggregated frame.program.world kind parts) → SomeOut operands ≡ false
  unfolding aggregated
  parts-read kind operands (Some parts) found is = all-within operands parts found
  parts-read (Array ty) operands None found is = absurd is
  parts-read (Tuple ty) operands None found is = absurd is
  parts-read (Adt id args) operands None found is = absurd is

  -- what an assignment reads that computes
  pub computed-within : (rvalue : Rvalue) → IsComputed (rvalue_bytes frame memory rvalue) → reads_out frame.program.world frame.body (number_held memory frame.cells) rvalue ≡ false
  unfolding rvalue_bytes reads_out cast_to operated_on
  computed-within (Use operand) is = one-read operand read (λ done. done) is
  computed-within (Repeat operand len) is = repeated-read operand (number_in len) is
  computed-within (Cast kind operand ty) is = one-read operand (cast_to ty (operand_type frame.program.world frame.body operand.kind)) (λ done. done) is
  computed-within (CheckedBinaryOp op left right) is = both-read op left right (operand_type frame.program.world frame.body left.kind) (operand_type frame.program.world frame.body right.kind) is
  computed-within (UnaryOp op operand) is = one-read operand (operated_on op (operand_type frame.program.world frame.body operand.kind)) (λ done. done) is
  computed-within (Aggregate kind operands) is = parts-read kind operands (operands_bytes frame memory operands) refl is

  -- an assignment that computes, to a place that lies somewhere
  pub does-assign : (place : Place) (rvalue : Rvalue) (cell : Interval) → cell_now frame memory place ≡ Some cell → IsComputed (rvalue_bytes frame memory rvalue) → after_statement frame memory (Assign place rvalue) ≡ copied memory (Some cell) (rvalue_bytes frame memory rvalue)
  unfolding after_statement
  does-assign place rvalue cell there computes =
      ap (λ (out : Bool). assigned out memory (cell_now frame memory place) (rvalue_bytes frame memory rvalue))
      (either-false (is_out_of_bounds frame.program.world frame.body (number_held memory frame.cells) place) (reads_out frame.program.world frame.body (number_held memory frame.cells) rvalue)
      (cell-within frame.program.world (number_held memory frame.cells) frame.body frame.cells place cell there) (computed-within rvalue computes))
      ∙ ap (λ (o : Option Interval). copied memory o (rvalue_bytes frame memory rvalue)) there

  pub assigns-bytes : (place : Place) (rvalue : Rvalue) (cell : Interval) (bytes : List ℕ) → cell_now frame memory place ≡ Some cell → rvalue_bytes frame memory rvalue ≡ Ok bytes → after_statement frame memory (Assign place rvalue) ≡ copied memory (Some cell) (Ok bytes)
  assigns-bytes place rvalue cell bytes there computes = does-assign place rvalue cell there (subst IsComputed (sym computes) tt) ∙ ap (copied memory (Some cell)) computes

  pub assigns-panic : (place : Place) (rvalue : Rvalue) (cell : Interval) (word : List ℕ) → cell_now frame memory place ≡ Some cell → rvalue_bytes frame memory rvalue ≡ Err (error.Panic word) → after_statement frame memory (Assign place rvalue) ≡ Err (error.Panic word)
  unfolding copied
  assigns-panic place rvalue cell word there computes = does-assign place rvalue cell there (subst IsComputed (sym computes) tt) ∙ ap (copied memory (Some cell)) computes

  -- an assignment that reads what is out of bounds
  pub assigns-out : (place : Place) (rvalue : Rvalue) → reads_out frame.program.world frame.body (number_held memory frame.cells) rvalue ≡ true → after_statement frame memory (Assign place rvalue) ≡ Err out_of_bounds
  unfolding after_statement
  assigns-out place rvalue reads =
      ap (λ (out : Bool). assigned out memory (cell_now frame memory place) (rvalue_bytes frame memory rvalue))
      (either-true (is_out_of_bounds frame.program.world frame.body (number_held memory frame.cells) place) (reads_out frame.program.world frame.body (number_held memory frame.cells) rvalue) reads)

  -- a call of which an argument is out of bounds
  pub call-out : (call : Calling) → SomeOut call.args ≡ true → calls_out frame.program.world frame.body (number_held memory frame.cells) call ≡ true
  call-out call args = either-true (is_out_of_bounds frame.program.world frame.body (number_held memory frame.cells) call.destination) (SomeOut call.args) args

  -- a call whose destination is a whole local, and whose arguments are within
  pub call-within : (call : Calling) → call.destination.projection ≡ empty_id → SomeOut call.args ≡ false → calls_out frame.program.world frame.body (number_held memory frame.cells) call ≡ false
  call-within call is-whole args =
      either-false (is_out_of_bounds frame.program.world frame.body (number_held memory frame.cells) call.destination) (SomeOut call.args)
      (whole-within frame.program.world frame.body (number_held memory frame.cells) call.destination is-whole) args
