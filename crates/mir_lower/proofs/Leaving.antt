-- Leaving a scope: one block for each local that is dropped.
use Rattle.std.proofs.Common.{◌≡◌, ℕ, suc, ◌+◌, List, [], ◌∷◌, length, Option, Some, Ok, Err, refl, sym, ap, ◌∙◌, subst, arith, drop}
use Rattle.std.specs.Prelude.{slice_get, unwrap_or, option_map}
use Rattle.std.proofs.Math.ListN.{length-set}
use Rattle.mir.specs.declared.body.BasicBlock.{BasicBlock}
use Rattle.mir.specs.declared.body.Terminator.{Terminator}
use Rattle.mir.specs.declared.body.TerminatorKind.TheVariants.{Return, Drop}
use Rattle.mir.specs.declared.errors.MirEvalError.{MirEvalError}
use Rattle.mir.specs.declared.ids.BasicBlockId.{BasicBlockId}
use Rattle.mir.specs.declared.ids.LocalId.{LocalId}
use Rattle.mir.specs.declared.operand.Place.{Place}
use Rattle.mir.specs.declared.span.MirSpan.{MirSpan}
use Rattle.mir.specs.declared.statement.Statement.{Statement}
use Rattle.mir.specs.declared.statement.StatementKind.TheVariants.{StorageDead}
use Rattle.mir.specs.Memory.{Memory}
use Rattle.mir.specs.Run.{Frame, Next, Stops, GoesTo, Asks, Asked, Faulted, trail_of, faults, after_statement, after_statements, terminated, next_from, going_on, running, entering, out_of_blocks}
use Rattle.source_meaning.specs.Source.{Source, Cell}
use Rattle.mir_lower.specs.Does.{here, IsFrameOf}
use Rattle.mir_graph.specs.Graph.{Shape, no_statements, ended, with_statement, with_terminator, with_block, with_scope}
use Rattle.mir_lower.specs.Growth.{count_at, Grows, IsSound, IsOpen}
use Rattle.mir_lower.specs.Leaving.{Idles}
use Rattle.mir_lower.specs.Runs.{Point, Within, Entry, Exit, start_of, run_from, Comes, EndsAfter, IsFault}
use Rattle.mir_lower.proofs.Growing.{current_of, grows-refl, grows-trans, with_statement-grows, with_terminator-is, with_terminator-grows, with_block-grows, with_scope-grows}
use Rattle.mir_graph.proofs.Lists.{slice_get-last, slice_get-set_same}
use Rattle.mir_lower.proofs.Reaching.{none-entered, keeps-refl, comes-refl, comes-trans, comes-from, not-grown}
use Rattle.mir_lower.proofs.Running.{here-is, comes-statement}
use Rattle.mir_lower.proofs.Sound.{with_statement-sound, with_statement-open, with_statement-scope, with_terminator-sound, with_terminator-scope, with_block-sound, with_block-open, with_block-scope, with_scope-sound, with_scope-open}
use Rattle.mir_lower.proofs.Sparing.{spares-refl, spares-trans, with_statement-spares, with_terminator-spares, with_block-spares, with_scope-spares}

drop_all : {A : Type 0} (xs : List A) → drop (length xs) xs ≡ []
drop_all [] = refl
drop_all (x ∷ xs) = drop_all xs

-- entering a block is running it from its first statement
pub entering-suc : (budget : ℕ) (frame : Frame) (memory : Memory) (block : ℕ) → entering (suc budget) frame memory block ≡ running budget frame memory block 0
unfolding entering running going_on
entering-suc budget frame memory block = by_next (next_from frame memory (slice_get frame.body.basic_blocks block) 0) where
  by_next : (next : Next) → elim next [ Stops ending ↦ record { ending = ending; left = budget } | GoesTo other after target ↦ entering budget other after target | Asks q caller after call ↦ record { ending = Asked q caller after call; left = budget } ] ≡ going_on budget next
  by_next (Stops ending) = refl
  by_next (GoesTo other after target) = refl
  by_next (Asks q caller after call) = refl

-- behind its last statement a block does what its terminator says
next-at-end : (frame : Frame) (memory : Memory) (block : BasicBlock) → next_from frame memory (Some block) (length block.statements) ≡ terminated frame memory block.terminator
unfolding next_from after_statements
next-at-end frame memory block =
    ap (λ (statements : List Statement). elim (after_statements frame statements memory) [ Ok after ↦ terminated frame after block.terminator | Err e ↦ faults frame e ]) (drop_all block.statements)

-- In a graph whose current block was just ended, and in each that it grew to, the run behind the block's last
-- statement does what the terminator says.
module _ (t : Terminator) (s whole : Shape) (frame : Frame) (opened : IsOpen s) (grows : Grows (with_terminator t s) whole) (is : IsFrameOf whole frame) where
  ended-there : (b : (block : BasicBlock) × (slice_get s.blocks s.current ≡ Some block)) → slice_get frame.body.basic_blocks s.current ≡ Some (ended t b.0)
  ended-there b =
      ap (λ (blocks : List BasicBlock). slice_get blocks s.current) is.blocks
      ∙ grows.ended s.current (ended t b.0) t
      (ap (λ (n : Shape). slice_get n.blocks s.current) (with_terminator-is t s b.0 b.1) ∙ slice_get-set_same s.blocks s.current (ended t b.0) opened.there) refl

  pub run-terminator : (memory : Memory) (budget : ℕ) → run_from frame memory (here s) budget ≡ going_on budget (terminated frame memory (Some t))
  unfolding running
  run-terminator memory budget =
      let b = current_of s opened in
      ap (λ (p : Point). run_from frame memory p budget) (here-is s b.0 b.1)
      ∙ ap (λ o. going_on budget (next_from frame memory o (length b.0.statements))) (ended-there (b.0, b.1))
      ∙ ap (going_on budget) (next-at-end frame memory (ended t b.0))

pub here-with_block : (s : Shape) → here (with_block s) ≡ Within (length s.blocks) 0
unfolding with_block count_at
here-with_block s = ap (λ (o : Option BasicBlock). Within (length s.blocks) (unwrap_or (option_map (λ (b : BasicBlock). length b.statements) o) 0)) (slice_get-last s.blocks no_statements)

pub entering-none : (frame : Frame) (memory : Memory) (block : ℕ) → entering 0 frame memory block ≡ out_of_blocks (trail_of frame)
unfolding entering
entering-none frame memory block = refl

-- where the terminator leads to a block, the run is about to enter it
pub heads-ended : (t : Terminator) (s whole : Shape) (frame : Frame) → IsOpen s → Grows (with_terminator t s) whole → IsFrameOf whole frame → (memory : Memory) (target : ℕ) → terminated frame memory (Some t) ≡ GoesTo frame memory target → Comes frame 0 0 (here s) memory (Entry target) memory
unfolding going_on
heads-ended t s whole frame opened grows is memory target goes =
    record {
      with_more = λ more.
          let plain : 0 + more ≡ more = omega arith in
          ap (run_from frame memory (here s)) plain
          ∙ run-terminator t s whole frame opened grows is memory more
          ∙ ap (going_on more) goes;
      with_fewer = none-entered (run_from frame memory (here s));
      others = keeps-refl frame memory;
      grown = not-grown memory 0;
    }

-- a run that ends in a fault at once
pub ends-faulting : (frame : Frame) (memory : Memory) (from : Point) (e : MirEvalError) → ((budget : ℕ) → run_from frame memory from budget ≡ going_on budget (faults frame e)) → EndsAfter 0 (IsFault e) (run_from frame memory from)
unfolding going_on
ends-faulting frame memory from e stops =
    record {
      with_more = λ more. let plain : 0 + more ≡ more = omega arith in (Faulted e (trail_of frame), (trail_of frame, refl), ap (run_from frame memory from) plain ∙ stops more);
      with_fewer = none-entered (run_from frame memory from);
    }

-- where the terminator is a fault, the run ends in it
pub ends-ended : (t : Terminator) (s whole : Shape) (frame : Frame) → IsOpen s → Grows (with_terminator t s) whole → IsFrameOf whole frame → (memory : Memory) (e : MirEvalError) → terminated frame memory (Some t) ≡ faults frame e → EndsAfter 0 (IsFault e) (run_from frame memory (here s))
ends-ended t s whole frame opened grows is memory e stops =
    ends-faulting frame memory (here s) e (λ budget. run-terminator t s whole frame opened grows is memory budget ∙ ap (going_on budget) stops)

-- a block that the run is about to enter is entered
pub enters-block : (frame : Frame) (memory : Memory) (block : ℕ) → Comes frame 1 0 (Entry block) memory (start_of block) memory
enters-block frame memory block =
    record {
      with_more = λ more.
          let one : 1 + more ≡ suc more = omega arith in
          ap (run_from frame memory (Entry block)) one ∙ entering-suc more frame memory block;
      with_fewer = λ fewer less.
          let none : fewer ≡ 0 = omega arith in
          (trail_of frame, ap (run_from frame memory (Entry block)) none ∙ entering-none frame memory block);
      others = keeps-refl frame memory;
      grown = not-grown memory 0;
    }

-- where the terminator leads to a block, the run reaches its start
pub comes-ended : (t : Terminator) (s whole : Shape) (frame : Frame) → IsOpen s → Grows (with_terminator t s) whole → IsFrameOf whole frame → (memory : Memory) (target : ℕ) → terminated frame memory (Some t) ≡ GoesTo frame memory target → Comes frame 1 0 (here s) memory (start_of target) memory
comes-ended t s whole frame opened grows is memory target goes =
    comes-from frame 1 (here s) (Entry target) (start_of target) memory memory memory (heads-ended t s whole frame opened grows is memory target goes) (enters-block frame memory target)

-- a drop goes on at its target
drop-leads : (frame : Frame) (memory : Memory) (place : Place) (target : BasicBlockId) (unwind : Option BasicBlockId) (span : MirSpan) → terminated frame memory (Some (record { span = span; kind = Drop place target unwind })) ≡ GoesTo frame memory target.0
unfolding terminated
drop-leads frame memory place target unwind span = refl

-- ending the current block by a drop, and opening the block that it goes to
pub idles-drop : (source : Source) (s new : Shape) (place : Place) (target : BasicBlockId) (unwind : Option BasicBlockId) (span : MirSpan) → IsSound source s → IsOpen s → target.0 ≡ length s.blocks → new ≡ with_block (with_terminator (record { span = span; kind = Drop place target unwind }) s) → Idles source s new 1
idles-drop source s new place target unwind span sound opened at same =
    let t : Terminator = record { span = span; kind = Drop place target unwind } in
    let b = current_of s opened in
    let many : length (with_terminator t s).blocks ≡ length s.blocks = ap (λ (n : Shape). length n.blocks) (with_terminator-is t s b.0 b.1) ∙ length-set s.blocks s.current (ended t b.0) in
    subst (λ (n : Shape). Idles source s n 1) (sym same)
    (record {
      grows = grows-trans s (with_terminator t s) (with_block (with_terminator t s)) (with_terminator-grows t s opened) (with_block-grows (with_terminator t s));
      spares = spares-trans s (with_terminator t s) (with_block (with_terminator t s)) (with_terminator-spares t s opened) (with_block-spares (with_terminator t s));
      sound = with_block-sound source (with_terminator t s) (with_terminator-sound source t s opened sound);
      «open» = with_block-open (with_terminator t s);
      scope = with_block-scope (with_terminator t s) ∙ with_terminator-scope t s opened;
      comes = λ whole frame grows is memory.
          let grown = grows-trans (with_terminator t s) (with_block (with_terminator t s)) whole (with_block-grows (with_terminator t s)) grows in
          let to : here (with_block (with_terminator t s)) ≡ Within target.0 0 =
          here-with_block (with_terminator t s) ∙ ap (λ n. Within n 0) (many ∙ sym at) in
          subst (λ (p : Point). Comes frame 1 0 (here s) memory p memory) (sym to)
          (comes-ended t s whole frame opened grown is memory target.0 (drop-leads frame memory place target unwind span));
    })

dead-does-nothing : (frame : Frame) (memory : Memory) (local : LocalId) → after_statement frame memory (StorageDead local) ≡ Ok memory
unfolding after_statement
dead-does-nothing frame memory local = refl

-- ending a local's storage
pub idles-dead : (source : Source) (s new : Shape) (local : LocalId) (span : MirSpan) → IsSound source s → IsOpen s → new ≡ with_statement (record { kind = StorageDead local; span = span }) s → Idles source s new 0
idles-dead source s new local span sound opened same =
    let dead : Statement = record { kind = StorageDead local; span = span } in
    subst (λ (n : Shape). Idles source s n 0) (sym same)
    (record {
      grows = with_statement-grows dead s opened;
      spares = with_statement-spares dead s opened;
      sound = with_statement-sound source dead s opened sound;
      «open» = with_statement-open dead s opened;
      scope = with_statement-scope dead s opened;
      comes = λ whole frame grows is memory. comes-statement dead s whole frame memory opened grows is memory (dead-does-nothing frame memory local) (keeps-refl frame memory);
    })

pub idles-refl : (source : Source) (s : Shape) → IsSound source s → IsOpen s → Idles source s s 0
idles-refl source s sound opened =
    record { grows = grows-refl s; spares = spares-refl s; sound = sound; «open» = opened; scope = refl; comes = λ whole frame grows is memory. comes-refl frame (here s) memory }

pub idles-trans : (source : Source) (a b c : Shape) (first second : ℕ) → Idles source a b first → Idles source b c second → Idles source a c (first + second)
idles-trans source a b c first second one two =
    record {
      grows = grows-trans a b c one.grows two.grows;
      spares = spares-trans a b c one.spares two.spares;
      sound = two.sound;
      «open» = two.«open»;
      scope = two.scope ∙ one.scope;
      comes = λ whole frame grows is memory.
          comes-trans frame first second (here a) (here b) memory memory (one.comes whole frame (grows-trans b c whole two.grows grows) is memory) (here c) memory (two.comes whole frame grows is memory);
    }

-- a run that reaches the end of a block that returns comes to where the body returns
pub comes-return : (s whole : Shape) (frame : Frame) (span : MirSpan) (memory : Memory) → IsOpen s → Grows (with_terminator (record { span = span; kind = Return }) s) whole → IsFrameOf whole frame → Comes frame 0 0 (here s) memory Exit memory
unfolding terminated
comes-return s whole frame span memory opened grows is =
    record {
      with_more = λ more.
          let plain : 0 + more ≡ more = omega arith in
          ap (run_from frame memory (here s)) plain
          ∙ run-terminator (record { span = span; kind = Return }) s whole frame opened grows is memory more;
      with_fewer = none-entered (run_from frame memory (here s));
      others = keeps-refl frame memory;
      grown = not-grown memory 0;
    }

-- the scope itself counts for nothing
pub here-scope : (s : Shape) (scope : List Cell) → here (with_scope scope s) ≡ here s
unfolding count_at
here-scope s scope = refl

-- whatever else is in use, the same code goes on
pub idles-scoped : (source : Source) (old new : Shape) (turns : ℕ) (scope : List Cell) → Idles source old new turns → Idles source (with_scope scope old) (with_scope scope new) turns
unfolding count_at
idles-scoped source old new turns scope idles =
    record {
      grows = grows-trans (with_scope scope old) old (with_scope scope new) (with_scope-grows old.scope (with_scope scope old))
          (grows-trans old new (with_scope scope new) idles.grows (with_scope-grows scope new));
      spares = spares-trans (with_scope scope old) old (with_scope scope new) (with_scope-spares old.scope (with_scope scope old))
          (spares-trans old new (with_scope scope new) idles.spares (with_scope-spares scope new));
      sound = with_scope-sound source scope new idles.sound;
      «open» = with_scope-open scope new idles.«open»;
      scope = refl;
      comes = λ whole frame grows is memory. idles.comes whole frame (grows-trans new (with_scope scope new) whole (with_scope-grows scope new) grows) is memory;
    }
