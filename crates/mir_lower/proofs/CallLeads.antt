-- Where the terminator of a call leads, and where its callee's body goes back to.
use Rattle.std.proofs.Common.{◌≡◌, ℕ, suc, Bool, cond, List, ◌∷◌, length, Option, Some, None, Result, Ok, Err, ap, ◌∙◌}
use Rattle.std.specs.Prelude.{slice_get, filter, not, is_some, nat_le, if◌then◌else◌, option_and_then, codes}
use Rattle.types.specs.declared.ids.FunctionId.{FunctionId}
use Rattle.types.specs.declared.ty.GenericArgs.{GenericArgs}
use Rattle.types.specs.declared.ty.Ty.{Ty}
use Rattle.mir.specs.Answers.{answer_to}
use Rattle.mir.specs.declared.address.Interval.{Interval}
use Rattle.mir.specs.declared.body.MirBody.{MirBody}
use Rattle.mir.specs.declared.errors.MirEvalError.{MirEvalError}
use Rattle.mir.specs.declared.errors.MirEvalError as error
use Rattle.mir.specs.Memory.{Memory, number_held}
use Rattle.mir.specs.Projections.{empty_id}
use Rattle.mir.proofs.WholePlaces.{whole-cell}
use Rattle.mir.specs.Run.{Frame, Waiting, Calling, GoesTo, Faulted, operand_type as mir_type, function_in as mir_function_in, filled as mir_filled, body_query, bad_write, trail_of, faults, levels_over, waiting, called_cells, cell_now, called as mir_called, called_by, calls, entered, resumed, after_return, going_on}
use Rattle.mir_lower.specs.Runs.{Entry, Exit, run_from}
use Rattle.mir_lower.specs.Stops.{without_arguments}

-- the frame of a called body
abbrev pub frame-of : Frame → Calling → FunctionId → MirBody → List Interval → Frame
frame-of frame call id body intervals = record { program = frame.program; body = body; cells = intervals; below = waiting frame call id ∷ frame.below }

-- where a call leads
module _ (frame : Frame) (memory : Memory) (call : Calling) (id : FunctionId) where
  pub leads-by : (ty : Ty) → mir_type frame.program.world frame.body call.func.kind ≡ Some ty → mir_function_in ty ≡ Some (without_arguments id) → calls frame memory call ≡ called_by frame memory call (without_arguments id) (answer_to frame.program.answers (body_query (without_arguments id)))
  unfolding calls
  leads-by ty typed names =
      ap (λ (o : Option (FunctionId × GenericArgs)). elim o [
        | Some callee ↦ called_by frame memory call callee (answer_to frame.program.answers (body_query callee))
        | None ↦ faults frame (error.NotSupported (codes "form not built"))
      ]) (ap (option_and_then mir_function_in) typed ∙ names)

  module _ (body : MirBody) where
    pub called-into : (next : ℕ) (cell : Interval) → call.target ≡ Some next → call.destination.projection ≡ empty_id → slice_get frame.cells call.destination.local.0 ≡ Some cell → mir_called frame memory call id body ≡ entered frame memory call id body (Some cell)
    unfolding mir_called
    called-into next cell target is-whole there =
        ap (λ (o : Option ℕ). elim o [
          | Some block ↦ elim (cell_now frame memory call.destination) [
            | Some cell ↦ entered frame memory call id body (Some cell)
            | None ↦ faults frame bad_write
          ]
          | None ↦ if nat_le (suc (levels_over frame.below)) frame.program.nesting then entered frame memory call id body None else faults frame error.StackOverflow
        ]) target
        ∙ ap (λ (o : Option Interval). elim o [ Some cell ↦ entered frame memory call id body (Some cell) | None ↦ faults frame bad_write ])
        (whole-cell frame.program.world frame.body (number_held memory frame.cells) frame.cells call.destination is-whole ∙ there)

    pub called-alone : (deep : Bool) → call.target ≡ None → nat_le (suc (levels_over frame.below)) frame.program.nesting ≡ deep → mir_called frame memory call id body ≡ cond deep (entered frame memory call id body None) (faults frame error.StackOverflow)
    unfolding mir_called
    called-alone deep target levels =
        ap (λ (o : Option ℕ). elim o [
          | Some block ↦ elim (cell_now frame memory call.destination) [
            | Some cell ↦ entered frame memory call id body (Some cell)
            | None ↦ faults frame bad_write
          ]
          | None ↦ if nat_le (suc (levels_over frame.below)) frame.program.nesting then entered frame memory call id body None else faults frame error.StackOverflow
        ]) target
        ∙ ap (λ (b : Bool). cond b (entered frame memory call id body None) (faults frame error.StackOverflow)) levels

    module _ (destination : Option Interval) where
      pub entered-lacks : (e : MirEvalError) → called_cells frame.program.world body.locals destination memory ≡ Err e → entered frame memory call id body destination ≡ faults frame e
      unfolding entered
      entered-lacks e none =
          ap (λ (r : Result (List Interval × Memory) MirEvalError). elim r [
            | Err e ↦ faults frame e
            | Ok placed ↦ elim (mir_filled frame placed.0 body.param_locals call.args placed.1) [
              | Err e ↦ faults frame e
              | Ok after ↦ GoesTo (frame-of frame call id body placed.0) after body.start_block.0
            ]
          ]) none

      pub entered-at : (all : List Interval × Memory) (after : Memory) → called_cells frame.program.world body.locals destination memory ≡ Ok all → mir_filled frame all.0 body.param_locals call.args all.1 ≡ Ok after →
          entered frame memory call id body destination ≡ GoesTo (frame-of frame call id body all.0) after body.start_block.0
      unfolding entered
      entered-at all after placed given =
          ap (λ (r : Result (List Interval × Memory) MirEvalError). elim r [
            | Err e ↦ faults frame e
            | Ok placed ↦ elim (mir_filled frame placed.0 body.param_locals call.args placed.1) [
              | Err e ↦ faults frame e
              | Ok after ↦ GoesTo (frame-of frame call id body placed.0) after body.start_block.0
            ]
          ]) placed
          ∙ ap (λ (r : Result Memory MirEvalError). elim r [ Err e ↦ faults frame e | Ok after ↦ GoesTo (frame-of frame call id body all.0) after body.start_block.0 ]) given

    -- a called body that returns goes back to the caller's target block, or, where it must not return, faults
    pub goes-back : (next : ℕ) (intervals : List Interval) (later : Memory) (budget : ℕ) → call.target ≡ Some next → run_from (frame-of frame call id body intervals) later Exit budget ≡ run_from frame later (Entry next) budget
    unfolding going_on after_return resumed
    goes-back next intervals later budget target =
        ap (λ (o : Option ℕ). going_on budget (elim o [ Some block ↦ GoesTo frame later block | None ↦ faults frame (error.UndefinedBehavior (codes "Diverging function returned")) ])) target

    pub goes-astray : (intervals : List Interval) (later : Memory) (budget : ℕ) → call.target ≡ None → run_from (frame-of frame call id body intervals) later Exit budget ≡ record { ending = Faulted (error.UndefinedBehavior (codes "Diverging function returned")) (trail_of frame); left = budget }
    unfolding going_on after_return resumed
    goes-astray intervals later budget target =
        ap (λ (o : Option ℕ). going_on budget (elim o [ Some block ↦ GoesTo frame later block | None ↦ faults frame (error.UndefinedBehavior (codes "Diverging function returned")) ])) target

-- A call with a target takes no level of nesting, and one without a target takes one.
module _ (frame : Frame) (call : Calling) (id : FunctionId) where
  -- the callers that a level is held for, beside the one of a call
  abbrev Holders : List Waiting
  Holders = filter (λ caller. not (is_some caller.next)) frame.below

  pub levels-same : (next : ℕ) → call.target ≡ Some next → levels_over (waiting frame call id ∷ frame.below) ≡ levels_over frame.below
  levels-same next target = ap (λ (o : Option ℕ). suc (length (cond (not (is_some o)) (waiting frame call id ∷ Holders) Holders))) target

  pub levels-more : call.target ≡ None → levels_over (waiting frame call id ∷ frame.below) ≡ suc (levels_over frame.below)
  levels-more target = ap (λ (o : Option ℕ). suc (length (cond (not (is_some o)) (waiting frame call id ∷ Holders) Holders))) target
