-- Rows that run: what the statements that they are those of do.
use Rattle.std.proofs.Common.{◌≡◌, ℕ, suc, drop, drop-cons, get_or, ◌+◌, ◌<◌, ◌≤◌, Bool, true, false, List, [], ◌∷◌, length, Result, Ok, Err, refl, sym, ap, ◌∙◌, subst, arith, inl, inr, ⊎_elim}
use Rattle.std.proofs.lemmas.Bool.{false≢true}
use Rattle.std.proofs.lemmas.List.{drop_all}
use Rattle.mir.specs.declared.errors.MirEvalError.{MirEvalError}
use Rattle.mir.specs.declared.statement.Statement.{Statement}
use Rattle.mir.specs.declared.statement.StatementKind.{StatementKind}
use Rattle.mir.specs.declared.statement.StatementKind.TheVariants.{Assign, FakeRead, StorageLive, StorageDead}
use Rattle.mir.specs.Memory.{Memory}
use Rattle.mir.specs.Run.{Frame, after_statement, after_statements}
use Rattle.mir_eval.specs.declared.faults.Fault.{Fault}
use Rattle.mir_eval.specs.Steps.{OrNoMemory, error_of, left_with}
use Rattle.mir_eval.proofs.Memoryless.{is-said}
use Rattle.mir_rows.specs.declared.row.Row.{Row}
use Rattle.mir_rows.specs.Rows.{AreRows, IsRow, RowsFrom, is_idle}
use Rattle.mir_rows.specs.Spots.{Prepared}

module _ (frame : Frame) where
  idle-does-nothing : (memory : Memory) (kind : StatementKind) → is_idle kind ≡ true → after_statement frame memory kind ≡ Ok memory
  unfolding after_statement
  idle-does-nothing memory (Assign place rvalue) h = absurd (false≢true h)
  idle-does-nothing memory (FakeRead place) h = refl
  idle-does-nothing memory (StorageLive local) h = refl
  idle-does-nothing memory (StorageDead local) h = refl

  -- how the statements go on after one of them
  abbrev Then : List Statement → Result Memory MirEvalError → Result Memory MirEvalError
  Then rest result = elim result [ Ok after ↦ after_statements frame rest after | Err e ↦ Err e ]

  one-then : (memory : Memory) (statement : Statement) (rest : List Statement) → after_statements frame (statement ∷ rest) memory ≡ Then rest (after_statement frame memory statement.kind)
  unfolding after_statements
  one-then memory statement rest = refl

  none-left : (memory : Memory) → after_statements frame [] memory ≡ Ok memory
  unfolding after_statements
  none-left memory = refl

  -- an idle statement changes nothing
  skip : (memory : Memory) (statement : Statement) (rest : List Statement) → is_idle statement.kind ≡ true → after_statements frame (statement ∷ rest) memory ≡ after_statements frame rest memory
  skip memory statement rest idle = one-then memory statement rest ∙ ap (Then rest) (idle-does-nothing memory statement.kind idle)

  module _ (code : Prepared) (block : List Statement) where
    -- statements without rows are idle
    idle-rest : (memory : Memory) (statements : List Statement) → AreRows code block statements [] → after_statements frame statements memory ≡ Ok memory
    idle-rest memory [] are = none-left memory
    idle-rest memory (statement ∷ rest) are = by (is_idle statement.kind) refl are (idle-rest memory rest) where
      by : (idle : Bool) → is_idle statement.kind ≡ idle → RowsFrom code block statement idle (AreRows code block rest) [] → (AreRows code block rest [] → after_statements frame rest memory ≡ Ok memory) → after_statements frame (statement ∷ rest) memory ≡ Ok memory
      by true is none others = skip memory statement rest is ∙ others none
      by false is none others = absurd none

    -- the statement of the first row, and those behind it
    pub record FirstRow (statements : List Statement) (row : Row) (rows : List Row) : Type 0 where
      pub statement : Statement
      pub rest : List Statement
      pub is_row : IsRow code block statement row
      pub others : AreRows code block rest rows
      pub same : (memory : Memory) → after_statements frame statements memory ≡ Then rest (after_statement frame memory statement.kind)

    first-row : (statements : List Statement) (row : Row) (rows : List Row) → AreRows code block statements (row ∷ rows) → FirstRow statements row rows
    first-row [] row rows are = absurd are
    first-row (statement ∷ rest) row rows are = by (is_idle statement.kind) refl are (first-row rest row rows) where
      by : (idle : Bool) → is_idle statement.kind ≡ idle → RowsFrom code block statement idle (AreRows code block rest) (row ∷ rows) → (AreRows code block rest (row ∷ rows) → FirstRow rest row rows) → FirstRow (statement ∷ rest) row rows
      by true is others later =
          let next = later others in
          record { statement = next.statement; rest = next.rest; is_row = next.is_row; others = next.others; same = λ memory. skip memory statement rest is ∙ next.same memory }
      by false is others later = record { statement = statement; rest = rest; is_row = others.0; others = others.1; same = λ memory. one-then memory statement rest }

    -- rows that are left, and what the whole block does
    pub record Left (rows : List Row) (memory : Memory) (whole : Result Memory MirEvalError) : Type 0 where
      pub statements : List Statement
      pub are : AreRows code block statements rows
      pub same : after_statements frame statements memory ≡ whole

    module _ (rows : List Row) (i : ℕ) (row : Row) (memory : Memory) (whole : Result Memory MirEvalError) (less : i < length rows) (is : row ≡ get_or rows i row) (left : Left (drop i rows) memory whole) where
      split : drop i rows ≡ row ∷ drop (i + 1) rows
      split =
          let next : suc i ≡ i + 1 = omega arith in
          drop-cons rows i row less ∙ ap (λ (n : ℕ). get_or rows i row ∷ drop n rows) next ∙ ap (λ (x : Row). x ∷ drop (i + 1) rows) (sym is)

      pub first : FirstRow left.statements row (drop (i + 1) rows)
      first = first-row left.statements row (drop (i + 1) rows) (subst (λ (rest : List Row). AreRows code block left.statements rest) split left.are)

      -- the row is that of a statement
      pub has-statement : (statement : Statement) × IsRow code block statement row
      has-statement = (first.statement, first.is_row)

      -- its statement ran
      pub ran : (result : Result (Unit {0}) Fault) (after : Memory) → result ≡ Ok tt → ((statement : Statement) → IsRow code block statement row → OrNoMemory result (left_with after result ≡ after_statement frame memory statement.kind)) → Left (drop (i + 1) rows) after whole
      ran result after done does =
          let said = is-said result tt (left_with after result ≡ after_statement frame memory first.statement.kind) done (does first.statement first.is_row) in
          let does_so : Ok after ≡ after_statement frame memory first.statement.kind = sym (ap (left_with after) done) ∙ said in
          record {
            statements = first.rest;
            are = first.others;
            same = ap (Then first.rest) does_so ∙ sym (first.same memory) ∙ left.same;
          }

      -- its statement faulted
      pub faulted : (e : Fault) → ((statement : Statement) → IsRow code block statement row → OrNoMemory {A = Unit {0}} (Err e) (Err (error_of e) ≡ after_statement frame memory statement.kind)) → OrNoMemory {A = Unit {0}} (Err e) (Err (error_of e) ≡ whole)
      faulted e does = ⊎_elim (λ said. inl (ap (Then first.rest) said ∙ sym (first.same memory) ∙ left.same)) inr (does first.statement first.is_row)

    -- no row is left
    pub all-ran : (rows : List Row) (i : ℕ) (memory : Memory) (whole : Result Memory MirEvalError) → length rows ≤ i → Left (drop i rows) memory whole → Ok memory ≡ whole
    all-ran rows i memory whole none left =
        sym (idle-rest memory left.statements (subst (λ (rest : List Row). AreRows code block left.statements rest) (drop_all i rows none) left.are)) ∙ left.same
