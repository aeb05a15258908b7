-- Steps of the run of blocks.
use Rattle.std.proofs.Common.{◌≡◌, ℕ, zero, suc, ◌-◌, ◌<◌, slice_get, Option, Result, Ok, Err, refl, sym, ap, ◌∙◌, inl, inr, ⊎_elim, subst, arith, sub-one}
use Rattle.std.specs.Prelude.{option_and_then, option_map, unwrap_or, []}
use Rattle.mir.specs.declared.body.BasicBlock.{BasicBlock}
use Rattle.mir.specs.declared.body.Terminator.{Terminator}
use Rattle.mir.specs.declared.errors.MirEvalError.{MirEvalError}
use Rattle.mir.specs.Memory.{Memory}
use Rattle.mir.specs.Run.{Frame, Next, Stops, GoesTo, Asks, Asked, Ended, after_statements, entering, faults, going_on, next_from, terminated}
use Rattle.mir_rows.specs.declared.row.BlockRows.{BlockRows}
use Rattle.mir_rows.specs.Rows.{AreRows, HasRows, IsWay}
use Rattle.mir_eval.specs.Frames.{code_in}
use Rattle.mir_eval.specs.Machine.{statements_at, terminator_at}
use Rattle.mir_eval.specs.declared.steps.Exit.{Exit}
use Rattle.mir_eval.proofs.Memoryless.{is-said}
use Rattle.mir_eval.specs.declared.faults.Fault.{Fault}
use Rattle.mir_eval.specs.declared.faults.Fault.TheVariants as fault
use Rattle.mir_eval.specs.declared.steps.Halt.{Halt}
use Rattle.mir_eval.specs.Steps.{Halts, OrNoMemory, error_of, halt_of, left_with, next_of}

after_next : (budget : ℕ) (next : Next) →
    (elim next [ Stops ending ↦ record { ending = ending; left = budget } | GoesTo frame after target ↦ entering budget frame after target | Asks q caller after call ↦ record { ending = Asked q caller after call; left = budget } ]) ≡ going_on budget next
unfolding going_on
after_next budget (Stops ending) = refl
after_next budget (GoesTo frame after target) = refl
after_next budget (Asks q frame after call) = refl

pub enter_one : (left : ℕ) (frame : Frame) (memory : Memory) (block : ℕ) → 0 < left →
    entering left frame memory block ≡ going_on (left - 1) (next_from frame memory (slice_get frame.body.basic_blocks block) 0)
unfolding entering
enter_one zero frame memory block h = absurd (omega arith)
enter_one (suc budget) frame memory block h = rw sub-one (after_next budget (next_from frame memory (slice_get frame.body.basic_blocks block) 0))

-- A block was entered that led to no other block, and the blocks of the frame led there.
pub halts-at : (frame : Frame) (memory after : Memory) (block left : ℕ) (terminator : Option Terminator) (end : Result Halt Fault) (ended : Ended) → 0 < left → entering left frame memory block ≡ ended →
    OrNoMemory end (halt_of frame after terminator end ≡ next_from frame memory (slice_get frame.body.basic_blocks block) 0) → Halts frame after terminator (left - 1) end ended
halts-at frame memory after block left terminator end ended some same says =
    (next_from frame memory (slice_get frame.body.basic_blocks block) 0, sym (enter_one left frame memory block some) ∙ same, says)

-- no block may be entered any more
pub halts-out : (frame : Frame) (memory : Memory) (block left : ℕ) (terminator : Option Terminator) (ended : Ended) → left ≡ 0 → entering left frame memory block ≡ ended → Halts frame memory terminator 0 (Err fault.OutOfBlocks) ended
unfolding entering going_on
halts-out frame memory block zero terminator ended none same = (halt_of frame memory terminator (Err fault.OutOfBlocks), same, inl refl)
halts-out frame memory block (suc left) terminator ended none same = absurd (omega (arith, none))

-- it led to another block
pub goes-on : (frame : Frame) (memory after : Memory) (block target left : ℕ) (ended : Ended) → 0 < left → entering left frame memory block ≡ ended →
    GoesTo frame after target ≡ next_from frame memory (slice_get frame.body.basic_blocks block) 0 → entering (left - 1) frame after target ≡ ended
unfolding going_on
goes-on frame memory after block target left ended some same is = ap (going_on (left - 1)) is ∙ sym (enter_one left frame memory block some) ∙ same

-- a block of a frame's body that has rows
module _ (frame : Frame) (place : ℕ) (rows : BlockRows) (has : HasRows (code_in frame) place rows) where
  pub has-statements : AreRows (code_in frame) (statements_at frame.body place) (statements_at frame.body place) rows.rows.items
  has-statements =
      subst (λ (found : Option BasicBlock). AreRows (code_in frame) (unwrap_or (option_map (λ block. block.statements) found) []) (unwrap_or (option_map (λ block. block.statements) found) []) rows.rows.items)
      (sym has.found) has.are.statements

  pub has-way : IsWay (code_in frame) rows.way (terminator_at frame.body place)
  has-way = subst (λ (found : Option BasicBlock). IsWay (code_in frame) rows.way (option_and_then (λ block. block.terminator) found)) (sym has.found) has.are.terminator

  -- how it goes on behind the statements
  abbrev Behind : Result Memory MirEvalError → Next
  Behind result = elim result [ Ok after ↦ terminated frame after (terminator_at frame.body place) | Err e ↦ faults frame e ]

  block-runs : (memory : Memory) → next_from frame memory (slice_get frame.body.basic_blocks place) 0 ≡ Behind (after_statements frame (statements_at frame.body place) memory)
  unfolding next_from
  block-runs memory =
      subst (λ (found : Option BasicBlock). next_from frame memory found 0 ≡ elim (after_statements frame (unwrap_or (option_map (λ block. block.statements) found) []) memory) [ Ok after ↦ terminated frame after (option_and_then (λ block. block.terminator) found) | Err e ↦ faults frame e ])
      (sym has.found) refl

  -- its statements ran, and then how it ends
  pub ran-through : (memory after : Memory) (result : Result (Unit {0}) Fault) (end : Result Exit Fault) → result ≡ Ok tt → OrNoMemory result (left_with after result ≡ after_statements frame (statements_at frame.body place) memory) →
      next_of frame after (terminator_at frame.body place) end ≡ terminated frame after (terminator_at frame.body place) → next_of frame after (terminator_at frame.body place) end ≡ next_from frame memory (slice_get frame.body.basic_blocks place) 0
  ran-through memory after result end done said ends =
      let does : Ok after ≡ after_statements frame (statements_at frame.body place) memory = sym (ap (left_with after) done) ∙ is-said result tt _ done said in
      ends ∙ ap Behind does ∙ sym (block-runs memory)

  -- one of them faulted
  pub faulted-within : (memory after : Memory) (e : Fault) → OrNoMemory {A = Unit {0}} (Err e) (Err (error_of e) ≡ after_statements frame (statements_at frame.body place) memory) →
      OrNoMemory {A = Exit} (Err e) (next_of frame after (terminator_at frame.body place) (Err e) ≡ next_from frame memory (slice_get frame.body.basic_blocks place) 0)
  faulted-within memory after e said = ⊎_elim (λ is. inl (ap Behind is ∙ sym (block-runs memory))) (λ none. inr (ap (λ (r : Result (Unit {0}) Fault). elim r [ Ok done ↦ Err e | Err other ↦ Err other ]) none)) said
