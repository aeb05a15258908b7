-- Loops and labelled blocks in the graph, and the jumps to them.
use Rattle.std.specs.Prelude.{◌≡◌, ℕ, ◌≤◌, ◌∷◌, length, Option, Some, None}
use Rattle.mir.specs.declared.errors.MirLowerError.{MirLowerError}
use Rattle.mir.specs.declared.errors.MirLowerError.TheVariants as refusal
use Rattle.mir.specs.Memory.{Memory}
use Rattle.mir.specs.Run.{Frame}
use Rattle.source_meaning.specs.Source.{Source}
use Rattle.types.specs.declared.ids.LabelId.{LabelId}
use Rattle.mir_lower.specs.Branches.{IsReserved}
use Rattle.mir_lower.specs.Does.{here, IsFrameOf}
use Rattle.mir_lower.specs.Runs.{Entry, Exit, start_of, Comes}
use Rattle.mir_graph.specs.Graph.{Shape, OpenTarget, with_targets}
use Rattle.mir_lower.specs.Growth.{Grows, Spares, IsSound, IsOpen}

-- A loop or a labelled block was entered: the current block leads to the one where it begins, which is the current one now, and
-- the block behind it is reserved.
pub record IsEntered (source : Source) (old new : Shape) (target : OpenTarget) : Type 0 where
  pub grows : Grows old new
  pub spares : Spares old (with_targets old.targets new)
  pub sound : IsSound source new
  pub «open» : IsOpen new
  pub scope : new.scope ≡ old.scope
  pub targets : new.targets ≡ target ∷ old.targets
  pub kept : target.kept ≡ length old.scope
  pub begins : here new ≡ start_of target.begin_block
  pub end_reserved : IsReserved new target.end_block
  pub end_new : length old.blocks ≤ target.end_block
  pub heads : (whole : Shape) (frame : Frame) → Grows new whole → IsFrameOf whole frame → (memory : Memory) → Comes frame 0 0 (here old) memory (Entry target.begin_block) memory

-- A jump was added: from where it stands the run leaves all scopes inside the target, over a number of blocks, and is then about
-- to enter another block. The code behind it stands in a new block.
pub record HasJumped (source : Source) (old new : Shape) (to turns : ℕ) : Type 0 where
  pub grows : Grows old new
  pub spares : Spares old new
  pub sound : IsSound source new
  pub «open» : IsOpen new
  pub scope : new.scope ≡ old.scope
  pub heads : (whole : Shape) (frame : Frame) → Grows new whole → IsFrameOf whole frame → (memory : Memory) → Comes frame turns 0 (here old) memory (Entry to) memory

-- A return was added: from where it stands the run leaves all open scopes, over a number of blocks, and comes to where the body
-- returns. The code behind it stands in a new block.
pub record HasReturned (source : Source) (old new : Shape) (turns : ℕ) : Type 0 where
  pub grows : Grows old new
  pub spares : Spares old new
  pub sound : IsSound source new
  pub «open» : IsOpen new
  pub scope : new.scope ≡ old.scope
  pub leaves : (whole : Shape) (frame : Frame) → Grows new whole → IsFrameOf whole frame → (memory : Memory) → Comes frame turns 0 (here old) memory Exit memory

-- the refusal of a jump without a target: `UnresolvedLabel` if it has a label, else the given one
abbrev pub without_target : Option LabelId → MirLowerError → MirLowerError
without_target (Some label) unlabelled = refusal.UnresolvedLabel
without_target None unlabelled = unlabelled
