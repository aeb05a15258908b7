-- Calls in the graph.
use Rattle.std.specs.Prelude.{◌≡◌, ℕ, Bool, List, Option, Some, None, true, cond}
use Rattle.types.specs.declared.ids.ExprId.{ExprId}
use Rattle.mir.specs.declared.body.Terminator.{Terminator}
use Rattle.mir.specs.declared.body.TerminatorKind.TheVariants.{Call}
use Rattle.mir.specs.declared.ids.BasicBlockId.{BasicBlockId}
use Rattle.mir.specs.declared.operand.Operand.{Operand}
use Rattle.mir.specs.declared.operand.Place.{Place}
use Rattle.mir.specs.declared.span.MirSpan.TheVariants as span
use Rattle.mir.specs.Memory.{Memory}
use Rattle.mir.specs.Run.{Frame, Calling, calling, calls, going_on}
use Rattle.source_meaning.specs.Source.{Source}
use Rattle.mir_lower.specs.Does.{here, IsFrameOf}
use Rattle.mir_graph.specs.Graph.{Shape}
use Rattle.mir_lower.specs.Growth.{Grows, Spares, IsSound, IsOpen}
use Rattle.mir_lower.specs.Runs.{start_of, run_from}

-- the terminator of a call, lowered from an expression
abbrev pub call_terminator : ExprId → Operand → List Operand → Place → Option BasicBlockId → Terminator
call_terminator e func args destination target = record { span = span.ExprId e; kind = Call func args destination target None true }

-- the same call as its terminator does it
abbrev pub call_of : ExprId → Operand → List Operand → Place → Option BasicBlockId → Calling
call_of e func args destination target = calling func args destination target (span.ExprId e)

-- where a call goes on: in the next block, or, where its callee must not return, nowhere
abbrev pub target_of_call : (marked : Bool) → (next : BasicBlockId) → Option BasicBlockId
target_of_call marked next = cond marked None (Some next)

-- A call was added: at the end of the block that was the current one the run does what the call does. The block that is the current one now is
-- new; it is the call's target, where that has one.
pub record HasCalled (source : Source) (old new : Shape) (call : Calling) (next : ℕ) : Type 0 where
  pub grows : Grows old new
  pub spares : Spares old new
  pub sound : IsSound source new
  pub «open» : IsOpen new
  pub scope : new.scope ≡ old.scope
  pub begins : here new ≡ start_of next
  pub does : (whole : Shape) (frame : Frame) → Grows new whole → IsFrameOf whole frame → (memory : Memory) (budget : ℕ) → run_from frame memory (here old) budget ≡ going_on budget (calls frame memory call)
