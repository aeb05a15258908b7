-- What an assignment, a switch or a call does whose places are out of bounds, and what it does where they aren't.
use Rattle.std.proofs.Common.{◌≡◌, Bool, true, false, Option, Result, Err, sym, ap, ◌∙◌}
use Rattle.mir.specs.declared.address.Interval.{Interval}
use Rattle.mir.specs.declared.errors.MirEvalError.{MirEvalError}
use Rattle.mir.specs.declared.operand.Place.{Place}
use Rattle.mir.specs.declared.operand.Rvalue.{Rvalue}
use Rattle.mir.specs.declared.statement.StatementKind.TheVariants.{Assign}
use Rattle.mir.specs.Memory.{Memory, number_held}
use Rattle.mir.specs.Run.{Frame, Next, after_statement, assigned, assigns_out, cell_now, copied, faults, led, out_of_bounds, rvalue_bytes}

module _ (frame : Frame) (memory : Memory) (place : Place) (rvalue : Rvalue) (out : Bool) (tested : out ≡ assigns_out frame.program.world frame.body (number_held memory frame.cells) place rvalue) where
  by-test : (b : Bool) → out ≡ b → assigned b memory (cell_now frame memory place) (rvalue_bytes frame memory rvalue) ≡ after_statement frame memory (Assign place rvalue)
  unfolding after_statement
  by-test b is = ap (λ (o : Bool). assigned o memory (cell_now frame memory place) (rvalue_bytes frame memory rvalue)) (sym is ∙ tested)

  pub assigned_out : out ≡ true → ◌≡◌ {A = Result Memory MirEvalError} (Err out_of_bounds) (after_statement frame memory (Assign place rvalue))
  assigned_out is = by-test true is

  pub assigned_in : out ≡ false → (cell : Option Interval) → cell ≡ cell_now frame memory place → copied memory cell (rvalue_bytes frame memory rvalue) ≡ after_statement frame memory (Assign place rvalue)
  assigned_in is cell there = ap (λ (c : Option Interval). copied memory c (rvalue_bytes frame memory rvalue)) there ∙ by-test false is

pub led_out : (frame : Frame) (out meant : Bool) (next : Next) → out ≡ meant → out ≡ true → faults frame out_of_bounds ≡ led frame meant next
led_out frame out meant next same is = ap (λ (o : Bool). led frame o next) (sym is ∙ same)

pub led_in : (frame : Frame) (out meant : Bool) (next : Next) → out ≡ meant → out ≡ false → next ≡ led frame meant next
led_in frame out meant next same is = ap (λ (o : Bool). led frame o next) (sym is ∙ same)
