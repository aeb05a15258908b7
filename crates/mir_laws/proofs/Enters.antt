-- Where a body leads that is called: to its first block, in a frame of the same program, or to a fault. It asks for nothing.
use Rattle.std.proofs.Common.{◌≡◌, ℕ, suc, Bool, true, false, List, Option, Some, None, refl}
use Rattle.std.specs.Prelude.{Result, Ok, Err, nat_le}
use Rattle.types.specs.declared.ids.FunctionId.{FunctionId}
use Rattle.mir.specs.declared.address.Interval.{Interval}
use Rattle.mir.specs.Memory.{Memory}
use Rattle.mir.specs.Run.{Frame, Calling, Next, Stops, GoesTo, Asks, levels_over, called_cells, cell_now, filled, entered, called, led}
use Rattle.mir.specs.declared.body.MirBody.{MirBody}
use Rattle.mir.specs.declared.errors.MirEvalError.{MirEvalError}
use Rattle.mir_laws.specs.Questions.{AsksNothing, DidNotAsk}

-- what is known of where a called body leads
abbrev pub Enters : Frame → Next → Type 0
Enters start (Stops ending) = DidNotAsk ending
Enters start (GoesTo frame memory block) = frame.program ≡ start.program
Enters start (Asks q frame memory call) = ⊥

pub entering_asks_nothing : (start : Frame) (next : Next) → Enters start next → AsksNothing next
entering_asks_nothing start (Stops ending) enters = tt
entering_asks_nothing start (GoesTo frame memory block) enters = tt
entering_asks_nothing start (Asks q frame memory call) enters = absurd enters

module _ (frame : Frame) where
  -- or to the fault of a place that is out of bounds
  pub enters_led : (out : Bool) (next : Next) → Enters frame next → Enters frame (led frame out next)
  enters_led true next enters = tt
  enters_led false next enters = enters

  module _ (memory : Memory) (call : Calling) (id : FunctionId) (body : MirBody) where
    enters_filled : (destination : Option Interval) (placed : List Interval × Memory) (r : Result Memory MirEvalError)
        → called_cells frame.program.world body.locals destination memory ≡ Ok placed
        → filled frame placed.0 body.param_locals call.args placed.1 ≡ r
        → Enters frame (entered frame memory call id body destination)
    unfolding entered
    enters_filled destination placed (Ok after) is then_is = rw (is, then_is, entered) refl
    enters_filled destination placed (Err e) is then_is = rw (is, then_is, entered) tt

    enters_placed : (destination : Option Interval) (r : Result (List Interval × Memory) MirEvalError)
        → called_cells frame.program.world body.locals destination memory ≡ r
        → Enters frame (entered frame memory call id body destination)
    unfolding entered
    enters_placed destination (Ok placed) is = enters_filled destination placed (filled frame placed.0 body.param_locals call.args placed.1) is refl
    enters_placed destination (Err e) is = rw (is, entered) tt

    enters_body : (destination : Option Interval) → Enters frame (entered frame memory call id body destination)
    enters_body destination = enters_placed destination (called_cells frame.program.world body.locals destination memory) refl

    enters_returning : (cell : Option Interval) (block : ℕ) → call.target ≡ Some block → cell_now frame memory call.destination ≡ cell
        → Enters frame (called frame memory call id body)
    unfolding called
    enters_returning (Some cell) block is cell_is = rw (is, cell_is, called) (enters_body (Some cell))
    enters_returning None block is cell_is = rw (is, cell_is, called) tt

    enters_nested : (fits : Bool) → call.target ≡ None → nat_le (suc (levels_over frame.below)) frame.program.nesting ≡ fits
        → Enters frame (called frame memory call id body)
    unfolding called
    enters_nested true is fits_is = rw (is, fits_is, called) (enters_body None)
    enters_nested false is fits_is = rw (is, fits_is, called) tt

    enters_by : (target : Option ℕ) → call.target ≡ target → Enters frame (called frame memory call id body)
    enters_by (Some block) is = enters_returning (cell_now frame memory call.destination) block is refl
    enters_by None is = enters_nested (nat_le (suc (levels_over frame.below)) frame.program.nesting) is refl

    pub enters_called : Enters frame (called frame memory call id body)
    enters_called = enters_by call.target refl
