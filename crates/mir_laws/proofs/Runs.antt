-- A run that enters a block goes on where the block leads.
use Rattle.std.proofs.Common.{◌≡◌, ℕ, suc, refl}
use Rattle.std.specs.Prelude.{slice_get}
use Rattle.mir.specs.Memory.{Memory}
use Rattle.mir.specs.Run.{Frame, Next, Stops, GoesTo, Asks, next_from, entering, going_on}

first_enters : (budget : ℕ) (frame : Frame) (memory : Memory) (block : ℕ) (next : Next) → next_from frame memory (slice_get frame.body.basic_blocks block) 0 ≡ next
    → entering (suc budget) frame memory block ≡ going_on budget next
unfolding entering going_on
first_enters budget frame memory block (Stops ending) is = rw (is, entering)
first_enters budget frame memory block (GoesTo next after target) is = rw (is, entering)
first_enters budget frame memory block (Asks q caller after call) is = rw (is, entering)

pub entering_is : (budget : ℕ) (frame : Frame) (memory : Memory) (block : ℕ)
    → entering (suc budget) frame memory block ≡ going_on budget (next_from frame memory (slice_get frame.body.basic_blocks block) 0)
entering_is budget frame memory block = first_enters budget frame memory block (next_from frame memory (slice_get frame.body.basic_blocks block) 0) refl
