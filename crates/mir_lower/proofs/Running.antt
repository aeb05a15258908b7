-- One statement of the open block, run.
use Rattle.std.proofs.Common.{◌≡◌, ℕ, suc, ◌+◌, ◌<◌, List, [], ◌∷◌, ◌++◌, length, Option, Some, Ok, Err, refl, sym, ap, ◌∙◌, arith, length-append, drop}
use Rattle.std.specs.Prelude.{slice_get, slice_set, option_map, option_and_then, unwrap_or}
use Rattle.std.proofs.lemmas.Option.{option_and_then_some}
use Rattle.mir.specs.declared.body.BasicBlock.{BasicBlock}
use Rattle.mir.specs.declared.errors.MirEvalError.{MirEvalError}
use Rattle.mir.specs.declared.statement.Statement.{Statement}
use Rattle.mir.specs.Memory.{Memory}
use Rattle.mir.specs.Run.{Frame, Faulted, trail_of, faults, after_statement, after_statements, terminated, next_from, going_on, running}
use Rattle.mir_lower.specs.Does.{here, IsFrameOf}
use Rattle.mir_graph.specs.Graph.{Shape, more_of, with_statement}
use Rattle.mir_lower.specs.Growth.{statement_at, count_at, Grows, IsOpen}
use Rattle.mir_lower.specs.Runs.{KeepsOthers, Point, Within, run_from, Comes, IsFault, EndsAfter}
use Rattle.mir_lower.proofs.Growing.{current_of, with_statement-is}
use Rattle.mir_graph.proofs.Lists.{slice_get-last, slice_get-set_same, drop-at}
use Rattle.mir_lower.proofs.Taking.{statement-takes-none}

-- the rest of a block after one of its statements
after-first : (frame : Frame) (memory later : Memory) (statement : Statement) (rest : List Statement) → after_statement frame memory statement.kind ≡ Ok later → after_statements frame (statement ∷ rest) memory ≡ after_statements frame rest later
unfolding after_statements
after-first frame memory later statement rest ok =
    ap (λ r. elim r [ Ok after ↦ after_statements frame rest after | Err e ↦ Err e ]) ok

after-fault : (frame : Frame) (memory : Memory) (statement : Statement) (rest : List Statement) (e : MirEvalError) → after_statement frame memory statement.kind ≡ Err e → after_statements frame (statement ∷ rest) memory ≡ Err e
unfolding after_statements
after-fault frame memory statement rest e err =
    ap (λ r. elim r [ Ok after ↦ after_statements frame rest after | Err e ↦ Err e ]) err

next-statement : (frame : Frame) (memory later : Memory) (block : BasicBlock) (i : ℕ) (statement : Statement) → slice_get block.statements i ≡ Some statement → after_statement frame memory statement.kind ≡ Ok later → next_from frame memory (Some block) i ≡ next_from frame later (Some block) (suc i)
unfolding next_from
next-statement frame memory later block i statement found ok =
    ap (λ r. elim r [ Ok after ↦ terminated frame after block.terminator | Err e ↦ faults frame e ])
    (ap (λ (statements : List Statement). after_statements frame statements memory) (drop-at block.statements i statement found)
    ∙ after-first frame memory later statement (drop (suc i) block.statements) ok)

next-fault : (frame : Frame) (memory : Memory) (block : BasicBlock) (i : ℕ) (statement : Statement) (e : MirEvalError) → slice_get block.statements i ≡ Some statement → after_statement frame memory statement.kind ≡ Err e → next_from frame memory (Some block) i ≡ faults frame e
unfolding next_from
next-fault frame memory block i statement e found err =
    ap (λ r. elim r [ Ok after ↦ terminated frame after block.terminator | Err e ↦ faults frame e ])
    (ap (λ (statements : List Statement). after_statements frame statements memory) (drop-at block.statements i statement found)
    ∙ after-fault frame memory statement (drop (suc i) block.statements) e err)

-- a statement at a place of a block of the frame's body
pub statement-block : (s : Shape) (b i : ℕ) (statement : Statement) → statement_at s b i ≡ Some statement → (block : BasicBlock) × (slice_get s.blocks b ≡ Some block) × (slice_get block.statements i ≡ Some statement)
unfolding statement_at
statement-block s b i statement there = option_and_then_some (λ block. slice_get block.statements i) (slice_get s.blocks b) statement there (λ block found at. (block, found, at))

-- the run goes on behind a statement that doesn't fault
pub run-statement : (s : Shape) (frame : Frame) (memory later : Memory) (b i : ℕ) (statement : Statement) → frame.body.basic_blocks ≡ s.blocks → statement_at s b i ≡ Some statement → after_statement frame memory statement.kind ≡ Ok later → (budget : ℕ) → running budget frame memory b i ≡ running budget frame later b (suc i)
unfolding running
run-statement s frame memory later b i statement same there ok budget =
    let at = statement-block s b i statement there in
    let found : slice_get frame.body.basic_blocks b ≡ Some at.0 = ap (λ (blocks : List BasicBlock). slice_get blocks b) same ∙ at.1 in
    ap (λ o. going_on budget (next_from frame memory o i)) found
    ∙ ap (going_on budget) (next-statement frame memory later at.0 i statement at.2 ok)
    ∙ ap (λ o. going_on budget (next_from frame later o (suc i))) (sym found)

-- and ends at one that does
pub run-fault : (s : Shape) (frame : Frame) (memory : Memory) (b i : ℕ) (statement : Statement) (e : MirEvalError) → frame.body.basic_blocks ≡ s.blocks → statement_at s b i ≡ Some statement → after_statement frame memory statement.kind ≡ Err e → (budget : ℕ) → running budget frame memory b i ≡ record { ending = Faulted e (trail_of frame); left = budget }
unfolding running going_on
run-fault s frame memory b i statement e same there err budget =
    let at = statement-block s b i statement there in
    let found : slice_get frame.body.basic_blocks b ≡ Some at.0 = ap (λ (blocks : List BasicBlock). slice_get blocks b) same ∙ at.1 in
    ap (λ o. going_on budget (next_from frame memory o i)) found
    ∙ ap (going_on budget) (next-fault frame memory at.0 i statement e at.2 err)

-- where the open block ends
pub here-is : (s : Shape) (block : BasicBlock) → slice_get s.blocks s.current ≡ Some block → here s ≡ Within s.current (length block.statements)
unfolding count_at
here-is s block found = ap (λ (o : Option BasicBlock). Within s.current (unwrap_or (option_map (λ (b : BasicBlock). length b.statements) o) 0)) found

pub here-with_statement : (statement : Statement) (s : Shape) (block : BasicBlock) → slice_get s.blocks s.current ≡ Some block → s.current < length s.blocks → here (with_statement statement s) ≡ Within s.current (suc (length block.statements))
here-with_statement statement s block found within =
    ap here (with_statement-is statement s block found)
    ∙ here-is (record s { blocks = slice_set s.blocks s.current (more_of statement block) }) (more_of statement block) (slice_get-set_same s.blocks s.current (more_of statement block) within)
    ∙ (let long : length (block.statements ++ statement ∷ []) ≡ suc (length block.statements) = (let n = length-append block.statements (statement ∷ []) in omega arith) in
    ap (Within s.current) long)

pub statement-added : (statement : Statement) (s : Shape) (block : BasicBlock) → slice_get s.blocks s.current ≡ Some block → s.current < length s.blocks → statement_at (with_statement statement s) s.current (length block.statements) ≡ Some statement
unfolding statement_at
statement-added statement s block found within =
    ap (λ (n : Shape). option_and_then (λ b. slice_get b.statements (length block.statements)) (slice_get n.blocks s.current)) (with_statement-is statement s block found)
    ∙ ap (option_and_then (λ b. slice_get b.statements (length block.statements))) (slice_get-set_same s.blocks s.current (more_of statement block) within)
    ∙ slice_get-last block.statements statement

module _ (statement : Statement) (s whole : Shape) (frame : Frame) (memory : Memory) (opened : IsOpen s) (grows : Grows (with_statement statement s) whole) (is : IsFrameOf whole frame) where
  there : (b : (block : BasicBlock) × (slice_get s.blocks s.current ≡ Some block)) → statement_at whole s.current (length b.0.statements) ≡ Some statement
  there b = grows.statements s.current (length b.0.statements) statement (statement-added statement s b.0 b.1 opened.there)

  -- the run from the open block's end goes on behind the statement that was added, where that changes nothing but the frame's cells
  pub comes-statement : (later : Memory) → after_statement frame memory statement.kind ≡ Ok later → KeepsOthers frame memory later → Comes frame 0 0 (here s) memory (here (with_statement statement s)) later
  comes-statement later ok others =
      let b = current_of s opened in
      record {
        with_more = λ more.
            let plain : 0 + more ≡ more = omega arith in
            ap (run_from frame memory (here s)) plain
            ∙ ap (λ (p : Point). run_from frame memory p more) (here-is s b.0 b.1)
            ∙ run-statement whole frame memory later s.current (length b.0.statements) statement is.blocks (there (b.0, b.1)) ok more
            ∙ ap (λ (p : Point). run_from frame later p more) (sym (here-with_statement statement s b.0 b.1 opened.there));
        with_fewer = λ fewer less. absurd (omega arith);
        others = others;
        grown = statement-takes-none frame memory later statement.kind ok;
      }

  -- or ends in its fault
  pub ends-statement : (e : MirEvalError) → after_statement frame memory statement.kind ≡ Err e → EndsAfter 0 (IsFault e) (run_from frame memory (here s))
  ends-statement e err =
      let b = current_of s opened in
      record {
        with_more = λ more.
            let plain : 0 + more ≡ more = omega arith in (
              Faulted e (trail_of frame),
              (trail_of frame, refl),
              ap (run_from frame memory (here s)) plain
                  ∙ ap (λ (p : Point). run_from frame memory p more) (here-is s b.0 b.1)
                  ∙ run-fault whole frame memory s.current (length b.0.statements) statement e is.blocks (there (b.0, b.1)) err more,
            );
        with_fewer = λ fewer less. absurd (omega arith);
      }
