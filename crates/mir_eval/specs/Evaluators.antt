-- The machine that an evaluator is, and how its calls change it.
use Rattle.std.specs.Prelude.{◌≡◌, Bool, true, false, List, Option, Some, None, Result, Ok, unwrap_or}
use Rattle.world.specs.declared.database.HirDatabase.{HirDatabase}
use Rattle.types.specs.declared.ids.Crate.{Crate}
use Rattle.types.specs.declared.ids.DefWithBodyId.{DefWithBodyId}
use Rattle.types.specs.declared.ty.Const.{Const}
use Rattle.world.specs.Lookups.{crate_of}
use Rattle.mir.specs.declared.errors.MirEvalError.{MirEvalError}
use Rattle.mir.specs.Areas.{Areas}
use Rattle.mir.specs.Answers.{IsAfterPut}
use Rattle.mir.specs.declared.answers.Answer.{Answer}
use Rattle.mir.specs.declared.answers.Query.{Query}
use Rattle.mir_eval.specs.declared.evaluator.Turned.{Turned}
use Rattle.mir_eval.specs.declared.evaluator.Turned.TheVariants as turns
use Rattle.mir_eval.specs.declared.evaluator.Evaluator.{Evaluator}
use Rattle.mir_eval.specs.Phases.{state_of}
use Rattle.mir_eval.specs.Machine.{Machine, Position, State, Fresh, Going, Asking, Over, with_answers}

-- the machine that an evaluator is; `areas`: the stack and the heap that its memory is
abbrev pub machine_of : {M : Type 0} → (areas : M → Areas) → Evaluator M → Machine
machine_of areas evaluator =
    record {
      world = evaluator.db.now;
      owner = evaluator.owner;
      blocks = evaluator.blocks;
      nesting = evaluator.nesting;
      bytes = evaluator.bytes;
      state = state_of areas evaluator.phase;
    }

-- the crate of what has a body, and the first crate where the world has no row of it
abbrev pub crate_or_first : HirDatabase → DefWithBodyId → Crate
crate_or_first world owner = unwrap_or (crate_of world owner) (record { 0 = 0 })

abbrev pub is_fresh : State → Bool
is_fresh Fresh = true
is_fresh _ = false

abbrev pub is_going : State → Bool
is_going (Going position) = true
is_going _ = false

abbrev pub is_over : State → Bool
is_over (Over result left) = true
is_over _ = false

-- a run that is over, or that asks
abbrev pub has_stopped : State → Bool
has_stopped (Over result left) = true
has_stopped (Asking q position) = true
has_stopped _ = false

-- what a run ended in, where it is over
abbrev pub outcome : State → Option (Result Const MirEvalError)
outcome (Over result left) = Some result
outcome _ = None

-- the query whose answer a run waits for
abbrev pub wanted_in : State → Option Query
wanted_in (Asking q position) = Some q
wanted_in _ = None

-- how a run turned out: it ended in a value or in a fault, or it asks
abbrev pub turned : State → Turned
turned (Over (Ok value) left) = turns.Done
turned (Asking q position) = turns.Ask
turned _ = turns.Fault

-- a machine in another state
abbrev pub in_state : State → Machine → Machine
in_state state machine = record machine { state = state }

-- a run that stood at a position came into the state that is meant (`means`)
abbrev pub Goes : State → (Position → State → Type 0) → State → Type 0
Goes (Going position) means after = means position after
Goes _ means after = Unit {0}

-- a run that asked goes on with the answer, and without memory it is over
abbrev pub IsTold : State → Answer → State → Type 0
IsTold (Asking q position) answer after =
    (answers : List (Query × Answer)) × IsAfterPut position.frame.program.answers answers q answer × (after ≡ Going (with_answers answers position))
IsTold _ answer after = Unit {0}
