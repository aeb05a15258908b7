-- Blocks that are reserved, and code that leads to them.
use Rattle.std.proofs.Common.{◌≡◌, ◌≢◌, ℕ, suc, inl, List, [], ◌∷◌, length, Some, refl, sym, ap, ◌∙◌, subst, arith, length-append}
use Rattle.std.specs.Prelude.{slice_get, option_and_then}
use Rattle.std.proofs.Math.ListN.{length-set}
use Rattle.mir.specs.declared.body.BasicBlock.{BasicBlock}
use Rattle.mir.specs.declared.body.Terminator.{Terminator}
use Rattle.mir.specs.declared.errors.MirEvalError.{MirEvalError}
use Rattle.mir.specs.Memory.{Memory}
use Rattle.mir.specs.Run.{Frame, GoesTo, faults, terminated}
use Rattle.source_meaning.specs.Source.{Source}
use Rattle.mir_lower.specs.Branches.{IsReserved}
use Rattle.mir_lower.specs.Does.{here, IsFrameOf}
use Rattle.mir_graph.specs.Graph.{Shape, no_statements, ended, with_terminator, with_reserved, with_entered}
use Rattle.mir_lower.specs.Growth.{terminator_at, Grows, Spares, IsSound, IsOpen}
use Rattle.mir_lower.specs.Runs.{Entry, Comes, EndsAfter, IsFault, run_from, start_of}
use Rattle.mir_lower.proofs.Growing.{same_blocks, append_grows, current_of, grows_blocks, grows-trans, with_terminator-is, with_terminator-grows}
use Rattle.mir_lower.proofs.Leaving.{heads-ended, comes-ended, ends-ended}
use Rattle.mir_graph.proofs.Lists.{slice_get-front, slice_get-last, slice_get-set_other, slice_get_in, slice_get_below}
use Rattle.mir_lower.proofs.Running.{here-is}
use Rattle.mir_lower.proofs.Sound.{sound_by, with_terminator-sound, with_terminator-scope, with_terminator-targets}

-- a block was reserved, and nothing else was done
pub record Reserves (source : Source) (old new : Shape) (block : ℕ) : Type 0 where
  pub grows : Grows old new
  pub spares : Spares old new
  pub sound : IsSound source new
  pub «open» : IsOpen new
  pub scope : new.scope ≡ old.scope
  pub same_here : here new ≡ here old
  pub reserved : IsReserved new block
  pub last : block ≡ length old.blocks
  pub many : length new.blocks ≡ suc (length old.blocks)

with_reserved-grows : (s : Shape) → Grows s (with_reserved s)
unfolding with_reserved
with_reserved-grows s = grows_blocks s (with_reserved s) (append_grows s.blocks (no_statements ∷ [])) refl refl refl refl

with_reserved-spares : (s : Shape) → Spares s (with_reserved s)
unfolding with_reserved
with_reserved-spares s =
    record {
      others = λ at apart within. let found = slice_get_in s.blocks at within in slice_get-front s.blocks (no_statements ∷ []) at found.0 found.1 ∙ sym found.1;
      moves = inl refl;
      many = let long = length-append s.blocks (no_statements ∷ []) in omega arith;
      targets = refl;
    }

with_reserved-open : (s : Shape) → IsOpen s → IsOpen (with_reserved s)
unfolding with_reserved terminator_at
with_reserved-open s opened =
    let block = current_of s opened in
    record {
      there = let long = length-append s.blocks (no_statements ∷ []) in let h = opened.there in omega arith;
      unended = ap (option_and_then (λ b. b.terminator)) (slice_get-front s.blocks (no_statements ∷ []) s.current block.0 block.1) ∙ block.2;
    }

pub stays-open : (s new : Shape) → new ≡ with_reserved s → IsOpen s → IsOpen new
stays-open s new same opened = subst IsOpen (sym same) (with_reserved-open s opened)

with_reserved-here : (s : Shape) → IsOpen s → here (with_reserved s) ≡ here s
unfolding with_reserved
with_reserved-here s opened =
    let block = current_of s opened in
    here-is (with_reserved s) block.0 (slice_get-front s.blocks (no_statements ∷ []) s.current block.0 block.1) ∙ sym (here-is s block.0 block.1)

with_reserved-reserved : (s : Shape) → IsOpen s → IsReserved (with_reserved s) (length s.blocks)
unfolding with_reserved
with_reserved-reserved s opened =
    record {
      empty = slice_get-last s.blocks no_statements;
      apart = λ same. (let h = opened.there in omega arith);
    }

with_reserved-many : (s : Shape) → length (with_reserved s).blocks ≡ suc (length s.blocks)
unfolding with_reserved
with_reserved-many s = let long = length-append s.blocks (no_statements ∷ []) in omega arith

with_reserved-sound : (source : Source) (s : Shape) → IsSound source s → IsSound source (with_reserved s)
unfolding with_reserved
with_reserved-sound source s sound = sound_by source s (with_reserved s) refl refl refl sound

with_reserved-scope : (s : Shape) → (with_reserved s).scope ≡ s.scope
unfolding with_reserved
with_reserved-scope s = refl

pub reserves : (source : Source) (s new : Shape) (block : ℕ) → IsSound source s → IsOpen s → block ≡ length s.blocks → new ≡ with_reserved s → Reserves source s new block
reserves source s new block sound opened last same =
    subst (λ (n : Shape). Reserves source s n block) (sym same)
    (record {
      grows = with_reserved-grows s;
      spares = with_reserved-spares s;
      sound = with_reserved-sound source s sound;
      «open» = with_reserved-open s opened;
      scope = with_reserved-scope s;
      same_here = with_reserved-here s opened;
      reserved = subst (IsReserved (with_reserved s)) (sym last) (with_reserved-reserved s opened);
      last = last;
      many = with_reserved-many s;
    })

-- The current block was ended, and a block that was reserved is the current one.
pub record LeadsOn (source : Source) (old new : Shape) (t : Terminator) (next : ℕ) : Type 0 where
  pub grows : Grows old new
  pub others : (at : ℕ) → at ≢ old.current → slice_get new.blocks at ≡ slice_get old.blocks at
  pub many : length new.blocks ≡ length old.blocks
  pub sound : IsSound source new
  pub «open» : IsOpen new
  pub scope : new.scope ≡ old.scope
  pub targets : new.targets ≡ old.targets
  pub current : new.current ≡ next
  pub begins : here new ≡ start_of next
  -- the run is about to enter the block that the terminator leads to, and then enters it
  pub heads : (whole : Shape) (frame : Frame) → Grows new whole → IsFrameOf whole frame → (memory : Memory) (target : ℕ) → terminated frame memory (Some t) ≡ GoesTo frame memory target → Comes frame 0 0 (here old) memory (Entry target) memory
  pub comes : (whole : Shape) (frame : Frame) → Grows new whole → IsFrameOf whole frame → (memory : Memory) (target : ℕ) → terminated frame memory (Some t) ≡ GoesTo frame memory target → Comes frame 1 0 (here old) memory (start_of target) memory
  -- or it ends in the terminator's fault
  pub ends : (whole : Shape) (frame : Frame) → Grows new whole → IsFrameOf whole frame → (memory : Memory) (e : MirEvalError) → terminated frame memory (Some t) ≡ faults frame e → EndsAfter 0 (IsFault e) (run_from frame memory (here old))

with_terminator-others : (t : Terminator) (s : Shape) → IsOpen s → (at : ℕ) → at ≢ s.current → slice_get (with_terminator t s).blocks at ≡ slice_get s.blocks at
with_terminator-others t s opened at apart =
    let b = current_of s opened in
    ap (λ (n : Shape). slice_get n.blocks at) (with_terminator-is t s b.0 b.1) ∙ slice_get-set_other s.blocks s.current at (ended t b.0) (λ same. apart (sym same))

with_terminator-many : (t : Terminator) (s : Shape) → IsOpen s → length (with_terminator t s).blocks ≡ length s.blocks
with_terminator-many t s opened =
    let b = current_of s opened in
    ap (λ (n : Shape). length n.blocks) (with_terminator-is t s b.0 b.1) ∙ length-set s.blocks s.current (ended t b.0)

with_entered-grows : (block : ℕ) (s : Shape) → Grows s (with_entered block s)
unfolding with_entered
with_entered-grows block s = grows_blocks s (with_entered block s) (same_blocks s.blocks) refl refl refl refl

with_entered-sound : (source : Source) (block : ℕ) (s : Shape) → IsSound source s → IsSound source (with_entered block s)
unfolding with_entered
with_entered-sound source block s sound = sound_by source s (with_entered block s) refl refl refl sound

-- an empty block is open as soon as it is the current one, and the code there begins at its start
with_entered-open : (block : ℕ) (s : Shape) → slice_get s.blocks block ≡ Some no_statements → IsOpen (with_entered block s)
unfolding with_entered terminator_at
with_entered-open block s empty =
    record { there = slice_get_below s.blocks block no_statements empty; unended = ap (option_and_then (λ b. b.terminator)) empty }

with_entered-here : (block : ℕ) (s : Shape) → slice_get s.blocks block ≡ Some no_statements → here (with_entered block s) ≡ start_of block
unfolding with_entered
with_entered-here block s empty = here-is (with_entered block s) no_statements empty

with_entered-blocks : (block : ℕ) (s : Shape) → (with_entered block s).blocks ≡ s.blocks
unfolding with_entered
with_entered-blocks block s = refl

with_entered-targets : (block : ℕ) (s : Shape) → (with_entered block s).targets ≡ s.targets
unfolding with_entered
with_entered-targets block s = refl

with_entered-scope : (block : ℕ) (s : Shape) → (with_entered block s).scope ≡ s.scope
unfolding with_entered
with_entered-scope block s = refl

with_entered-current : (block : ℕ) (s : Shape) → (with_entered block s).current ≡ block
unfolding with_entered
with_entered-current block s = refl

pub leads-on : (source : Source) (s new : Shape) (t : Terminator) (next : ℕ) → IsSound source s → IsOpen s → IsReserved s next → new ≡ with_entered next (with_terminator t s) → LeadsOn source s new t next
leads-on source s new t next sound opened reserved same =
    let done : Shape = with_terminator t s in
    let empty : slice_get done.blocks next ≡ Some no_statements = with_terminator-others t s opened next reserved.apart ∙ reserved.empty in
    let blocks : (with_entered next done).blocks ≡ done.blocks = with_entered-blocks next done in
    subst (λ (n : Shape). LeadsOn source s n t next) (sym same)
    (record {
      grows = grows-trans s done (with_entered next done) (with_terminator-grows t s opened) (with_entered-grows next done);
      others = λ at apart. ap (λ (b : List BasicBlock). slice_get b at) blocks ∙ with_terminator-others t s opened at apart;
      many = ap (λ (b : List BasicBlock). length b) blocks ∙ with_terminator-many t s opened;
      sound = with_entered-sound source next done (with_terminator-sound source t s opened sound);
      «open» = with_entered-open next done empty;
      scope = with_entered-scope next done ∙ with_terminator-scope t s opened;
      targets = with_entered-targets next done ∙ with_terminator-targets t s opened;
      current = with_entered-current next done;
      begins = with_entered-here next done empty;
      heads = λ whole frame grows is memory target goes.
          heads-ended t s whole frame opened (grows-trans done (with_entered next done) whole (with_entered-grows next done) grows) is memory target goes;
      comes = λ whole frame grows is memory target goes.
          comes-ended t s whole frame opened (grows-trans done (with_entered next done) whole (with_entered-grows next done) grows) is memory target goes;
      ends = λ whole frame grows is memory e stops.
          ends-ended t s whole frame opened (grows-trans done (with_entered next done) whole (with_entered-grows next done) grows) is memory e stops;
    })
