-- Code that leaves memory as it is: leaving a scope, and noting what came into use.
use Rattle.std.specs.Prelude.{◌≡◌, ℕ, Bool, cond}
use Rattle.mir.specs.Memory.{Memory}
use Rattle.mir.specs.Run.{Frame}
use Rattle.source_meaning.specs.Source.{Source}
use Rattle.mir_lower.specs.Does.{here, IsFrameOf}
use Rattle.mir_graph.specs.Graph.{Shape}
use Rattle.mir_lower.specs.Growth.{Grows, Spares, IsSound, IsOpen}
use Rattle.mir_lower.specs.Runs.{Comes}

-- one, where a test says so
abbrev pub one_if : Bool → ℕ
one_if test = cond test 1 0

-- the code goes on after exactly `turns` blocks, with memory as it was
pub record Idles (source : Source) (old new : Shape) (turns : ℕ) : Type 0 where
  pub grows : Grows old new
  pub spares : Spares old new
  pub sound : IsSound source new
  pub «open» : IsOpen new
  pub scope : new.scope ≡ old.scope
  pub comes : (whole : Shape) (frame : Frame) → Grows new whole → IsFrameOf whole frame → (memory : Memory) → Comes frame turns 0 (here old) memory (here new) memory
