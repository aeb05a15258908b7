-- How a run begins, by the state of its machine.
use Rattle.std.proofs.Common.{◌≡◌, ◌≢◌, ℕ, ◌⊎◌, ⊎_elim, inl, inr, eqb-true, Bool, true, false, if◌then◌else◌, List, [], ◌∷◌, Option, Some, None, Result, Ok, Err, refl, sym, ap, ◌∙◌, subst}
use Rattle.std.specs.Prelude.{IsSome, codes}
use Rattle.world.specs.declared.database.HirDatabase.{HirDatabase}
use Rattle.world.specs.declared.limits.Limits.{Limits}
use Rattle.types.specs.declared.ids.DefWithBodyId.{DefWithBodyId}
use Rattle.mir.specs.declared.body.MirBody.{MirBody}
use Rattle.mir.specs.declared.errors.MirEvalError.{MirEvalError}
use Rattle.mir.specs.declared.errors.MirEvalError as error
use Rattle.mir.specs.declared.ids.LocalId.{LocalId}
use Rattle.mir.specs.Errors.{from_eval_error}
use Rattle.mir.specs.Memory.{Memory}
use Rattle.mir.specs.Run.{Frame, begun}
use Rattle.mir_eval.specs.Machine.{Machine, State, Fresh, Going, Entry as BeforeBlock, on_a_level, pointer_bytes}
use Rattle.mir_eval.specs.Start.{is_own_width, started, start_of}
use Rattle.consteval.specs.Answers.{AnswersBody, RefusesRun}
use Rattle.consteval.specs.Kept.{HasBegun, Kept, program_of}
use Rattle.consteval.proofs.Nesting.{made-on-level, refused-on-level}

-- the machine of a body's owner before it begins
abbrev pub fresh : HirDatabase → DefWithBodyId → Limits → Machine
fresh world def limits = record { world = world; owner = def; blocks = limits.blocks; nesting = limits.nesting; bytes = limits.bytes; state = Fresh }

own-width : (width : Option ℕ) → is_own_width width ≡ true → width ≡ Some 8
own-width (Some width) own = ap Some (eqb-true width 8 own)
own-width None own = absurd cc

other-width : (width : Option ℕ) → is_own_width width ≡ false → IsSome width → (bytes : ℕ) × (width ≡ Some bytes) × (bytes ≢ 8)
other-width (Some bytes) own there = (bytes, refl, (λ is. let both : true ≡ false = sym (ap (λ n. is_own_width (Some n)) is) ∙ own in cc))
other-width None own there = absurd cc

-- no start, or a start of a body with parameters
started-refused : (params : List LocalId) (r : Result (Frame × Memory) MirEvalError) (block blocks : ℕ) (e : MirEvalError) → started params r block blocks ≡ Err e →
    (r ≡ Err e) ⊎ ((e ≡ error.InternalError (codes "too few arguments")) × (start : Frame × Memory) × (r ≡ Ok start) × (params ≢ []))
started-refused [] (Ok start) block blocks e h = absurd cc
started-refused (param ∷ params) (Ok start) block blocks e h = inr ((let same : error.InternalError (codes "too few arguments") ≡ e = cc in sym same), start, refl, (λ none. cc))
started-refused params (Err e') block blocks e h = inl (let same : e' ≡ e = cc in ap Err same)

-- where a run stands that is about to enter a block
abbrev standing : Frame × Memory → ℕ → ℕ → State
standing start block blocks = Going (record { frame = start.0; memory = start.1; point = BeforeBlock block; left = blocks })

started-going : (params : List LocalId) (r : Result (Frame × Memory) MirEvalError) (block blocks : ℕ) (state : State) → started params r block blocks ≡ Ok state → (start : Frame × Memory) × (r ≡ Ok start) × (state ≡ standing start block blocks) × (params ≡ [])
started-going [] (Ok start) block blocks state h = (start, refl, (let same : standing start block blocks ≡ state = cc in sym same), refl)
started-going (param ∷ params) (Ok start) block blocks state h = absurd cc
started-going params (Err e) block blocks state h = absurd cc

-- what a machine begins with, by the size of a pointer of its owner's crate
abbrev BeginsBy : Bool → HirDatabase → MirBody → Limits → Result State MirEvalError
BeginsBy own world body limits =
    if own
    then on_a_level limits.nesting (started body.param_locals (begun (program_of world limits []) body) body.start_block.0 limits.blocks)
    else Err (error.NotSupported (codes "targets with different pointer size from host"))

-- why a machine doesn't begin
pub start-refused : (world : HirDatabase) (def : DefWithBodyId) (body : MirBody) (limits : Limits) (e : MirEvalError) → IsSome (pointer_bytes world def) → start_of (fresh world def limits) body ≡ Err e → RefusesRun world def body limits e
unfolding start_of
start-refused world def body limits e there is = by-width (is_own_width (pointer_bytes world def)) refl is where
  by-width : (own : Bool) → is_own_width (pointer_bytes world def) ≡ own → BeginsBy own world body limits ≡ Err e → RefusesRun world def body limits e
  by-width true own h =
      let pointers = own-width (pointer_bytes world def) own in
      ⊎_elim (λ deep. inr (inr (inl (deep.0, pointers, deep.1))))
      (λ refused. ⊎_elim (λ unplaced. inr (inr (inr (inl (pointers, refused.0, unplaced))))) (λ lacking. inr (inr (inr (inr (lacking.0, pointers, refused.0, lacking.1, lacking.2, lacking.3)))))
      (started-refused body.param_locals (begun (program_of world limits []) body) body.start_block.0 limits.blocks e refused.1))
      (refused-on-level limits.nesting (started body.param_locals (begun (program_of world limits []) body) body.start_block.0 limits.blocks) e h)
  by-width false own h =
      let same : error.NotSupported (codes "targets with different pointer size from host") ≡ e = cc in
      let width = other-width (pointer_bytes world def) own there in
      inr (inl (sym same, width.0, width.1, width.2))

-- where a machine begins
pub start-begun : (world : HirDatabase) (def : DefWithBodyId) (body : MirBody) (limits : Limits) (after : Machine) → start_of (fresh world def limits) body ≡ Ok after.state → after.blocks ≡ limits.blocks → HasBegun world def body limits after
unfolding start_of
start-begun world def body limits after is blocks = by-width (is_own_width (pointer_bytes world def)) refl is where
  by-width : (own : Bool) → is_own_width (pointer_bytes world def) ≡ own → BeginsBy own world body limits ≡ Ok after.state → HasBegun world def body limits after
  by-width true own h =
      let made = made-on-level limits.nesting (started body.param_locals (begun (program_of world limits []) body) body.start_block.0 limits.blocks) after.state h in
      let going = started-going body.param_locals (begun (program_of world limits []) body) body.start_block.0 limits.blocks after.state made.1 in
      record {
        pointers = own-width (pointer_bytes world def) own;
        nests = made.0;
        start = going.0;
        began = going.1;
        no_params = going.3;
        blocks = blocks;
        state = going.2;
      }
  by-width false own h = absurd cc

-- what a body answers whose run never began
pub never-begins : (kept : Kept) (world : HirDatabase) (def : DefWithBodyId) (body : MirBody) (limits : Limits) (e : MirEvalError) → world ≡ kept.world → (e ≡ error.NoMemory) ⊎ RefusesRun world def body limits e → AnswersBody kept def body limits 0 (Err (from_eval_error e))
never-begins kept world def body limits e same refuses =
    inr (inl (record { none = refl; fault = e; is = refl; refuses = subst (λ w. (e ≡ error.NoMemory) ⊎ RefusesRun w def body limits e) same refuses }))
