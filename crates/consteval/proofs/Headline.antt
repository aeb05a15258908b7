-- What the answer to a definition says of its source.
use Rattle.std.proofs.Common.{◌≡◌, ◌≢◌, ℕ, suc, ◌⊎◌, ⊎_elim, inl, inr, List, Option, Some, None, Result, Ok, Err, refl, sym, ap, ◌∙◌, subst, arith}
use Rattle.std.specs.Prelude.{Contains, IfErr, slice_get, option_and_then}
use Rattle.world.specs.declared.database.BodyRow.{BodyRow}
use Rattle.world.specs.declared.database.HirDatabase.{HirDatabase}
use Rattle.world.specs.declared.limits.Limits.{Limits}
use Rattle.types.specs.declared.ids.DefWithBodyId.{DefWithBodyId}
use Rattle.types.specs.declared.ids.FunctionId.{FunctionId}
use Rattle.types.specs.declared.ty.Const.{Const}
use Rattle.types.specs.declared.ty.GenericArgs.{GenericArgs}
use Rattle.world.specs.Lookups.{body_place, body_row}
use Rattle.world.specs.Checked.{IsChecked, IsCheckedBody}
use Rattle.mir.specs.declared.body.MirBody.{MirBody}
use Rattle.mir.specs.declared.errors.ConstEvalError.{ConstEvalError}
use Rattle.mir.specs.declared.errors.ConstEvalError.TheVariants as constant
use Rattle.mir.specs.declared.errors.MirEvalError.{MirEvalError}
use Rattle.mir.specs.declared.errors.MirEvalError as error
use Rattle.mir.specs.declared.errors.TrailEntry.{TrailEntry}
use Rattle.mir.specs.declared.answers.Answer.{Answer}
use Rattle.mir.specs.declared.answers.Query.{Query}
use Rattle.mir_lower.specs.Callees.{Serves}
use Rattle.mir.specs.declared.errors.MirLowerError.{MirLowerError}
use Rattle.mir.specs.declared.errors.MirLowerError.TheVariants as refusal
use Rattle.mir.specs.Errors.{from_lower_error, from_eval_error}
use Rattle.mir_lower.specs.Runs.{IsFit}
use Rattle.mir_lower.specs.Simulates.{Simulates}
use Rattle.mir_lower.specs.Stops.{MakesCall, WasRefused}
use Rattle.source_meaning.proofs.Runs.{run_goes_on, run_is_never_stuck, run_jumps_nowhere}
use Rattle.source_meaning.specs.Aggregates.{HasAggregates}
use Rattle.source_meaning.specs.Core.{IsNoCall}
use Rattle.source_meaning.specs.Ends.{Cost, cost_of, End, Go, Faults, Panic, Undefined, Stuck}
use Rattle.source_meaning.specs.Meaning.{Gives, meaning_from, meaning_of}
use Rattle.source_meaning.specs.Source.{Source, zeroed}
use Rattle.source_meaning.specs.Valid.{AreLaidOut, at_once, HasNoCalls}
use Rattle.consteval.specs.Answers.{GivesValue, CountsBlocks, AnswersWithin, AnswersEndless, HasNoEnd, IsFrameFault, IsWithinLimits, IsWithinRoom, OrNoMemory, IsPastBlocks, EndsEvaluation, EndsIn, HasCause, AnswersBody, NeverBegins, RefusesRun, RunsTo, carried, cost_at}
use Rattle.consteval.specs.Refusals.{RefusesBody}
use Rattle.consteval.specs.Kept.{AreRightAnswers, Kept, Lowered, IsSound, IsLowered, Ran, program_of}
use Rattle.consteval.specs.Sources.{source_of}
use Rattle.consteval.specs.Valid.{IsValid}
use Rattle.consteval.proofs.Begins.{has-layouts}
use Rattle.consteval.proofs.Callees.{refused-as}
use Rattle.consteval.proofs.Causes.{carried-value}
use Rattle.consteval.proofs.Costs.{body-has-end, body-with-blocks, body-within, room-has-bytes, room-has-level, room-has-sizes}
use Rattle.consteval.proofs.Cuts.{IsUnlowered}
use Rattle.consteval.proofs.Ends.{ComesTo, EndsWell, completes-fault, completes-value, counts-value, gives-fault, gives-no-end, gives-value, passes-blocks}
use Rattle.consteval.proofs.Faults.{carried-fault, carried-never, carried-refusal, carried-unlowered}
use Rattle.consteval.proofs.Keeping.{kept-body-lowered}
use Rattle.consteval.proofs.Refused.{run-refusal, run-never, run-is-refused-by-limits, lowering-refusal, lowering-is-not-refused}
use Rattle.consteval.proofs.Serving.{serves}

-- the body of a definition of a checked world is checked
pub checked-body : (world : HirDatabase) (def : DefWithBodyId) (row : BodyRow) → IsChecked world → body_row world def ≡ Some row → IsCheckedBody row.body row.infer
checked-body world def row checked found = by-place (body_place world def) found where
  by-place : (place : Option ℕ) → option_and_then (slice_get world.bodies) place ≡ Some row → IsCheckedBody row.body row.infer
  by-place (Some i) is = checked.bodies i row is
  by-place None is = absurd cc

-- a source without calls makes none
no-call : (source : Source) (id : FunctionId) → MakesCall source id → HasNoCalls source → ⊥
no-call source id makes none = subst IsNoCall makes.is_call (none makes.e makes.evaluated)

module _ (world : HirDatabase) (checked : IsChecked world) (parts : HasAggregates world) (def : DefWithBodyId) (args : GenericArgs) (row : BodyRow) (valid : IsValid world def args row) where
  abbrev Of : Source
  Of = source_of world row

  simulated : (body : MirBody) → IsLowered world def body → Simulates Of body
  simulated body lowered =
      let same : lowered.row ≡ row = (let is = lowered.found in let there = valid.body in cc) in
      subst (λ (r : BodyRow). Simulates (source_of world r) body) same lowered.simulates

  -- the source ends, or counts more blocks than a limit
  comes : (limits : Limits) → (fuel : ℕ) × ComesTo Of (suc limits.blocks) (meaning_of Of fuel)
  comes limits =
      let reached = run_goes_on Of (suc limits.blocks) checked (checked-body world def row checked valid.body) in
      (reached.0, record { fuel = reached.0; reached = refl; goes_on = reached.1 })

  -- and its meaning is neither stuck nor a jump
  ends-well : (fuel : ℕ) → EndsWell (meaning_of Of fuel)
  ends-well fuel =
      let body = checked-body world def row checked valid.body in
      (run_is_never_stuck Of fuel checked parts body valid.plain, run_jumps_nowhere Of fuel checked parts body valid.plain)

  module _ (kept : Kept) (same : kept.world ≡ world) (sound : IsSound kept) (limits : Limits) (turns : ℕ) (answer : Result Const ConstEvalError) where
    -- what is kept serves what a run goes by that is told right answers
    served : (answers : List (Query × Answer)) → AreRightAnswers kept answers → (fuel : ℕ) → Serves fuel Of (program_of kept.world limits answers)
    served answers right fuel = serves kept sound (subst IsChecked (sym same) checked) limits answers right fuel Of (sym same)

    -- an answer that is one of the two, whatever the limits are
    always : OrNoMemory answer IsPastBlocks → AnswersEndless Of limits answer
    always is = record { ends = inl is; within = λ no_calls cost nests room. is }

    -- where no run ends within the limits, but for want of memory
    abbrev LacksMemory : Type 0
    LacksMemory = (fuel : ℕ) → meaning_from Of (zeroed Of) fuel ≢ Stuck → IsWithinRoom (cost_at Of fuel) limits → answer ≡ Err constant.NoMemory

    -- such an end comes for want of memory
    ends-without : LacksMemory → (end : End (List ℕ)) → Gives Of end → end ≢ Stuck → IsWithinLimits (cost_of end) limits → answer ≡ Err constant.NoMemory
    ends-without lacks end gives there within =
        let inner = body-within Of limits gives.fuel end gives.reached within in
        lacks gives.fuel (body-has-end Of gives.fuel end gives.reached there) inner.room

    -- so each answer is want of memory
    answers-without : LacksMemory → AnswersWithin Of limits answer
    answers-without lacks =
        record {
          value = λ ty bytes store cost typed gives within. inr (ends-without lacks (Go bytes store cost) gives (λ stuck. cc) within);
          panic = λ word cost gives within. inr (ends-without lacks (Faults (Panic word) cost) gives (λ stuck. cc) within);
          undefined = λ text cost gives within. inr (ends-without lacks (Faults (Undefined text) cost) gives (λ stuck. cc) within);
          past_blocks = λ fuel less room. inr (lacks fuel (body-with-blocks Of fuel limits.blocks less) room);
        }

    -- a run of a body that was lowered from the row
    module _ (body : MirBody) (lowered : IsLowered world def body) (outcome : Result Const MirEvalError) (ran : Ran kept body limits turns outcome) where
      -- it is told of a callee that its body can't be lowered for a number literal alone whose type has no layout
      refused : (cost : Cost) (e : MirEvalError) → WasRefused Of (program_of kept.world limits ran.answers) cost e → IsUnlowered Of cost e
      refused = refused-as world checked def args row valid kept same limits ran.answers ran.right

      -- the types of a body that began have layouts
      laid-out : AreLaidOut Of
      laid-out = has-layouts Of (program_of kept.world limits ran.answers) body ran.start same (simulated body lowered) ran.began parts (valid.plain.each Of at_once)

      -- so its source is fit
      fit : IsFit Of
      fit = record { plain = valid.plain; laid_out = laid-out; parts = parts }

      -- its value is what the source means
      ran-value : (konst : Const) → outcome ≡ Ok konst → GivesValue Of konst
      ran-value konst is =
          let end = comes limits in
          gives-value Of kept limits turns outcome body ran (served ran.answers ran.right) (simulated body lowered) fit refused (meaning_of Of end.0) end.1 (ends-well end.0) konst is

      -- over as many blocks as that counts
      ran-counts : (konst : Const) → outcome ≡ Ok konst → CountsBlocks Of turns
      ran-counts konst is =
          let end = comes limits in
          subst (CountsBlocks Of) (sym ran.entered)
          (counts-value Of kept limits turns outcome body ran (served ran.answers ran.right) (simulated body lowered) fit refused (meaning_of Of end.0) end.1 (ends-well end.0) konst is)

      -- its fault is one in which the source can end
      ran-fault : (e : MirEvalError) → outcome ≡ Err e → EndsEvaluation Of limits e
      ran-fault e is =
          let end = comes limits in
          gives-fault Of kept limits turns outcome body ran (served ran.answers ran.right) (simulated body lowered) fit refused (meaning_of Of end.0) end.1 (ends-well end.0) e is

      -- a fault in a frame, as the answer
      frame-fault : (fault : MirEvalError) → answer ≡ carried outcome → (trail : List TrailEntry) × (outcome ≡ Err (error.InFunction fault trail)) → IsFrameFault fault answer
      frame-fault fault is faults = (faults.0, is ∙ ap carried faults.1)

      -- within the limits its outcome is what the source means
      ran-completes : answer ≡ carried outcome → AnswersWithin Of limits answer
      ran-completes is =
          record {
            value = λ ty bytes store cost typed gives within.
                inl (is ∙ ap carried (completes-value Of kept limits turns outcome body ran (served ran.answers ran.right) (simulated body lowered) fit refused ty bytes store cost typed gives within));
            panic = λ word cost gives within.
                inl (frame-fault (error.Panic word) is (completes-fault Of kept limits turns outcome body ran (served ran.answers ran.right) (simulated body lowered) fit refused (Panic word) (error.Panic word) cost refl gives within));
            undefined = λ text cost gives within.
                inl (frame-fault (error.UndefinedBehavior text) is (completes-fault Of kept limits turns outcome body ran (served ran.answers ran.right) (simulated body lowered) fit refused (Undefined text) (error.UndefinedBehavior text) cost refl gives within));
            past_blocks = λ fuel less room.
                let faults = passes-blocks Of kept limits turns outcome body ran (served ran.answers ran.right) (simulated body lowered) fit refused fuel (ends-well fuel) less room in
                inl (faults.0, is ∙ ap carried faults.1);
          }

      -- where the source has no end, it is out of blocks or stopped at a call
      ran-endless : HasNoEnd Of → answer ≡ carried outcome → AnswersEndless Of limits answer
      ran-endless none is =
          let end = comes limits in
          ⊎_elim (λ faults. always (inl (faults.0, is ∙ ap carried faults.1)))
          (λ stopped. let call = stopped.0 in record {
            ends = inr (inl (record { call = call; fault = stopped.1; cause = stopped.2; is = (stopped.3.0, is ∙ ap carried stopped.3.1) }));
            within = λ no_calls cost nests room. absurd (no-call Of call.0 call.1 no_calls);
          })
          (gives-no-end Of kept limits turns outcome body ran (served ran.answers ran.right) (simulated body lowered) fit refused (meaning_of Of end.0) end.1 (none end.0))

    run-value : (body : MirBody) → IsLowered world def body → RunsTo kept def body limits turns answer → (konst : Const) → answer ≡ Ok konst → GivesValue Of konst
    run-value body lowered runs konst is = ran-value body lowered runs.outcome runs.ran konst (sym (carried-value runs.outcome konst (sym is ∙ runs.is)))

    run-counts : (body : MirBody) → IsLowered world def body → RunsTo kept def body limits turns answer → (konst : Const) → answer ≡ Ok konst → CountsBlocks Of turns
    run-counts body lowered runs konst is = ran-counts body lowered runs.outcome runs.ran konst (sym (carried-value runs.outcome konst (sym is ∙ runs.is)))

    abbrev Closed : Result Const ConstEvalError → Type 0
    Closed a = IfErr a (EndsIn Of limits)

    run-closed : (body : MirBody) → IsLowered world def body → RunsTo kept def body limits turns answer → Closed answer
    run-closed body lowered runs = subst Closed (sym runs.is) (by runs.outcome runs.ran) where
      by : (outcome : Result Const MirEvalError) → Ran kept body limits turns outcome → Closed (carried outcome)
      by (Ok konst) ran = tt
      by (Err e) ran = carried-fault Of limits e (ran-fault body lowered (Err e) ran e refl)

    -- what a run is refused for in the world of what is kept
    refuses-in : (body : MirBody) (e : MirEvalError) → (e ≡ error.NoMemory) ⊎ RefusesRun kept.world def body limits e → (e ≡ error.NoMemory) ⊎ RefusesRun world def body limits e
    refuses-in body e refuses = subst (λ w. (e ≡ error.NoMemory) ⊎ RefusesRun w def body limits e) same refuses

    -- no run begins for want of memory or for a limit, where the cost of the body is defined
    never-completes : (body : MirBody) → IsLowered world def body → NeverBegins kept.world def body limits turns answer → LacksMemory
    never-completes body lowered never fuel there room =
        let sizes = room-has-sizes Of limits fuel there room (checked-body world def row checked valid.body) in
        let level = room-has-level Of limits fuel there room in
        let bytes = room-has-bytes Of limits fuel there room in
        ⊎_elim (λ none. never.is ∙ ap (λ e. Err (from_eval_error e)) none)
        (λ refuses. absurd (⊎_elim (λ zero-levels. omega arith) (λ passes. omega arith) (run-is-refused-by-limits world def args row limits body never.fault valid (simulated body lowered) sizes refuses)))
        (refuses-in body never.fault never.refuses)

    body-value : (body : MirBody) → IsLowered world def body → AnswersBody kept def body limits turns answer → (konst : Const) → answer ≡ Ok konst → GivesValue Of konst
    body-value body lowered answers konst is =
        ⊎_elim (λ runs. run-value body lowered runs konst is)
        (⊎_elim (λ never. let err = never.is in absurd cc) (λ out. let err = out.is in absurd cc)) answers

    body-counts : (body : MirBody) → IsLowered world def body → AnswersBody kept def body limits turns answer → (konst : Const) → answer ≡ Ok konst → CountsBlocks Of turns
    body-counts body lowered answers konst is =
        ⊎_elim (λ runs. run-counts body lowered runs konst is)
        (⊎_elim (λ never. let err = never.is in absurd cc) (λ out. let err = out.is in absurd cc)) answers

    body-closed : (body : MirBody) → IsLowered world def body → AnswersBody kept def body limits turns answer → Closed answer
    body-closed body lowered =
        ⊎_elim (run-closed body lowered)
        (⊎_elim
        (λ never. subst Closed (sym never.is)
        (⊎_elim (λ none. subst (λ e. EndsIn Of limits (from_eval_error e)) (sym none) tt) (λ refuses. carried-fault Of limits never.fault (run-refusal world def args row limits body never.fault valid (simulated body lowered) refuses)) (refuses-in body never.fault never.refuses)))
        (λ out. subst Closed (sym out.is) tt))

    body-completes : (body : MirBody) → IsLowered world def body → AnswersBody kept def body limits turns answer → AnswersWithin Of limits answer
    body-completes body lowered =
        ⊎_elim (λ runs. ran-completes body lowered runs.outcome runs.ran runs.is)
        (⊎_elim (λ never. answers-without (never-completes body lowered never)) (λ out. answers-without (λ fuel there room. out.is)))

    body-endless : (body : MirBody) → IsLowered world def body → HasNoEnd Of → AnswersBody kept def body limits turns answer → AnswersEndless Of limits answer
    body-endless body lowered none =
        ⊎_elim (λ runs. ran-endless body lowered runs.outcome runs.ran none runs.is)
        (⊎_elim
        (λ never. ⊎_elim (λ lacks. always (inr (never.is ∙ ap (λ e. Err (from_eval_error e)) lacks)))
        (λ refuses. record {
          ends = inr (inr (record {
            fault = from_eval_error never.fault;
            is = never.is;
            never = carried-never Of limits never.fault (run-never world def args row limits body never.fault valid (simulated body lowered) refuses);
          }));
          within = λ no_calls cost nests room.
              absurd (⊎_elim (λ zero-levels. omega arith) (λ passes. omega arith) (run-is-refused-by-limits world def args row limits body never.fault valid (simulated body lowered) cost refuses));
        })
        (refuses-in body never.fault never.refuses))
        (λ out. always (inr out.is)))

    lowered-from : (body : MirBody) → Contains kept.entries (Lowered def body) → IsLowered world def body
    lowered-from body found = subst (λ w. IsLowered w def body) same (kept-body-lowered kept sound def body found)

    refusal-in : (e : MirLowerError) → (e ≡ refusal.NoMemory) ⊎ RefusesBody kept.world def args e → (e ≡ refusal.NoMemory) ⊎ RefusesBody world def args e
    refusal-in e refuses = subst (λ w. (e ≡ refusal.NoMemory) ⊎ RefusesBody w def args e) same refuses

    pub answer-value : HasCause kept def args limits turns answer → (konst : Const) → answer ≡ Ok konst → GivesValue Of konst
    answer-value cause konst is =
        ⊎_elim (λ has. body-value has.body (lowered-from has.body has.found) has.answers konst is)
        (λ never. let err = never.is in absurd cc) cause

    pub answer-counts : HasCause kept def args limits turns answer → (konst : Const) → answer ≡ Ok konst → CountsBlocks Of turns
    answer-counts cause konst is =
        ⊎_elim (λ has. body-counts has.body (lowered-from has.body has.found) has.answers konst is)
        (λ never. let err = never.is in absurd cc) cause

    pub answer-closed : HasCause kept def args limits turns answer → Closed answer
    answer-closed =
        ⊎_elim (λ has. body-closed has.body (lowered-from has.body has.found) has.answers)
        (λ never. subst Closed (sym never.is)
        (⊎_elim (λ none. subst (λ e. EndsIn Of limits (from_lower_error e)) (sym none) tt) (carried-refusal Of limits never.fault)
        (lowering-refusal world def args row never.fault checked valid (refusal-in never.fault never.refuses))))

    -- a fault that is answered is one in which the source can end
    pub answer-fault : HasCause kept def args limits turns answer → (e : MirEvalError) → answer ≡ Err (constant.MirEvalError e) → EndsEvaluation Of limits e
    answer-fault cause e is = subst Closed is (answer-closed cause)

    pub answer-completes : HasCause kept def args limits turns answer → AnswersWithin Of limits answer
    answer-completes =
        ⊎_elim (λ has. body-completes has.body (lowered-from has.body has.found) has.answers)
        (λ never. answers-without (λ fuel there room.
        let sizes = room-has-sizes Of limits fuel there room (checked-body world def row checked valid.body) in
        never.is ∙ ap (λ e. Err (from_lower_error e)) (lowering-is-not-refused world def args row never.fault checked valid sizes (refusal-in never.fault never.refuses))))

    -- a source without an end is answered by the limit on blocks, or by a call, unless no run began
    pub answer-endless : HasNoEnd Of → HasCause kept def args limits turns answer → AnswersEndless Of limits answer
    answer-endless none =
        ⊎_elim (λ has. body-endless has.body (lowered-from has.body has.found) none has.answers)
        (λ never. ⊎_elim (λ lacks. always (inr (never.is ∙ ap (λ e. Err (from_lower_error e)) lacks)))
        (λ unlowered. record {
          ends = inr (inr (record { fault = from_lower_error never.fault; is = never.is; never = carried-unlowered Of limits never.fault unlowered }));
          within = λ no_calls cost nests room. inr (never.is ∙ ap (λ e. Err (from_lower_error e)) (lowering-is-not-refused world def args row never.fault checked valid cost (refusal-in never.fault never.refuses)));
        })
        (lowering-refusal world def args row never.fault checked valid (refusal-in never.fault never.refuses)))
