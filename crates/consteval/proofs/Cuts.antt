-- What a run that stops at a call tells of its source.
use Rattle.std.proofs.Common.{◌≡◌, ℕ, suc, ◌+◌, ◌<◌, ◌⊎◌, ⊎_elim, false, List, [], refl, sym, ◌∙◌, subst, arith}
use Rattle.std.proofs.lemmas.Bool.{false≢true}
use Rattle.types.specs.declared.ids.FunctionId.{FunctionId}
use Rattle.mir.specs.Areas.{first_areas}
use Rattle.mir.specs.declared.errors.MirEvalError.{MirEvalError}
use Rattle.mir.specs.declared.errors.MirEvalError as error
use Rattle.mir.specs.declared.errors.MirLowerError.{MirLowerError}
use Rattle.mir.specs.declared.errors.TrailEntry.{TrailEntry}
use Rattle.mir.specs.Memory.{Memory}
use Rattle.mir.specs.Run.{Program, levels_over}
use Rattle.mir_eval.specs.Machine.{wrapped}
use Rattle.mir_lower.specs.Stops.{LacksRoom}
use Rattle.source_meaning.specs.Ends.{Cost}
use Rattle.source_meaning.specs.Source.{Source}
use Rattle.world.specs.declared.limits.Limits.{Limits}
use Rattle.consteval.specs.Answers.{EndsAtCall, IsUnloweredCallee, IsWithinRoom, cost_at}
use Rattle.consteval.proofs.Costs.{run-of}

-- the error of a call whose callee's body can't be lowered, where the cost that is counted up to the call isn't defined
pub record IsUnlowered (source : Source) (cost : Cost) (e : MirEvalError) : Type 0 where
  pub id : FunctionId
  pub cause : MirLowerError
  pub is : e ≡ error.MirLowerError id cause
  pub callee : IsUnloweredCallee source id cause
  pub undefined : cost.defined ≡ false

-- it is handed out in a frame
wrapped-unlowered : (source : Source) (cost : Cost) (e : MirEvalError) (trail : List TrailEntry) → IsUnlowered source cost e → wrapped e trail ≡ error.InFunction e trail
wrapped-unlowered source cost e trail unlowered = subst (λ (f : MirEvalError). wrapped f trail ≡ error.InFunction f trail) (sym unlowered.is) refl

-- and so is that of a callee that isn't placed
wrapped-lack : (source : Source) (program : Program) (levels : ℕ) (memory : Memory) (cost : Cost) (e : MirEvalError) (trail : List TrailEntry) → LacksRoom source program levels memory cost e → wrapped e trail ≡ error.InFunction e trail
wrapped-lack source program levels memory cost error.NoMemory trail lacks = absurd lacks
wrapped-lack source program levels memory cost e trail lacks = refl

-- A call's callee isn't entered in the run of a body that none called, within a cost that is counted up to the call: its body can't be lowered,
-- or its cells can't be placed.
abbrev pub IsCutAt : Source → Program → Cost → MirEvalError → Type 0
IsCutAt source program cost e = IsUnlowered source cost e ⊎ LacksRoom source program (levels_over []) (first_areas program.bytes) cost e

-- the error is handed out in a frame
pub wrapped-cut : (source : Source) (program : Program) (cost : Cost) (e : MirEvalError) (trail : List TrailEntry) → IsCutAt source program cost e → wrapped e trail ≡ error.InFunction e trail
wrapped-cut source program cost e trail = ⊎_elim (wrapped-unlowered source cost e trail) (wrapped-lack source program (levels_over []) (first_areas program.bytes) cost e trail)

module _ (source : Source) (program : Program) (limits : Limits) (nesting : program.nesting ≡ limits.nesting) (bytes : program.bytes ≡ limits.bytes) (fuel : ℕ) where
  -- the callee isn't placed in the run of a body that none called
  abbrev LacksAt : MirEvalError → Type 0
  LacksAt e = LacksRoom source program (levels_over []) (first_areas program.bytes) (cost_at source fuel) e

  -- where it can't be lowered, the cost of the run isn't defined
  unlowered-at-call : (e : MirEvalError) → IsUnlowered source (cost_at source fuel) e → EndsAtCall source limits e
  unlowered-at-call e unlowered =
      let run = run-of source fuel in
      subst (EndsAtCall source limits) (sym unlowered.is) (unlowered.callee, (fuel, sym run.defined ∙ unlowered.undefined))

  -- where it isn't placed, the source counts more than a limit, or its cost isn't defined
  lacks-at-call : (e : MirEvalError) → LacksAt e → EndsAtCall source limits e
  lacks-at-call (error.LayoutError cause ty) lacks = let run = run-of source fuel in (lacks.0, lacks.1, (fuel, sym run.defined ∙ lacks.2))
  lacks-at-call (error.TypeIsUnsized ty text) lacks = let run = run-of source fuel in (lacks.0, (fuel, sym run.defined ∙ lacks.1))
  lacks-at-call error.MemoryLimitExceeded lacks =
      let run = run-of source fuel in
      let same = run.bytes in
      let passes : program.bytes < 0 + (cost_at source fuel).bytes = lacks in
      (fuel, omega arith)
  lacks-at-call error.StackOverflow lacks =
      let passes : suc program.nesting < 1 + (cost_at source fuel).nesting = lacks in
      (fuel, omega arith)
  lacks-at-call _ lacks = absurd lacks

  -- so a run that stops at a call has a cause for it
  pub cut-at-call : (e : MirEvalError) → IsCutAt source program (cost_at source fuel) e → EndsAtCall source limits e
  cut-at-call e = ⊎_elim (unlowered-at-call e) (lacks-at-call e)

  -- a source whose cost is within the limits has room for each callee
  lacks-no-room : IsWithinRoom (cost_at source fuel) limits → (e : MirEvalError) → LacksAt e → ⊥
  lacks-no-room room (error.LayoutError cause ty) lacks = false≢true (sym lacks.2 ∙ room.defined)
  lacks-no-room room (error.TypeIsUnsized ty text) lacks = false≢true (sym lacks.1 ∙ room.defined)
  lacks-no-room room error.MemoryLimitExceeded lacks =
      let bound = room.bytes in
      let passes : program.bytes < 0 + (cost_at source fuel).bytes = lacks in
      omega arith
  lacks-no-room room error.StackOverflow lacks =
      let bound = room.nesting in
      let passes : suc program.nesting < 1 + (cost_at source fuel).nesting = lacks in
      omega arith
  lacks-no-room room _ lacks = lacks

  -- and isn't stopped at a call
  pub cut-by-room : IsWithinRoom (cost_at source fuel) limits → (e : MirEvalError) → IsCutAt source program (cost_at source fuel) e → ⊥
  cut-by-room room e = ⊎_elim (λ unlowered. false≢true (sym unlowered.undefined ∙ room.defined)) (lacks-no-room room e)
