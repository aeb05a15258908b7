-- What the answer to a definition says: the value or the panic that its source means, and the cause of any other.
use Rattle.std.specs.Prelude.{◌≡◌, ◌≢◌, ℕ, ◌-◌, ◌<◌, ◌≤◌, true, false, List, [], ◌⊎◌, Option, Some, None, Result, Ok, Err, Contains, codes}
use Rattle.world.specs.declared.database.HirDatabase.{HirDatabase}
use Rattle.types.specs.declared.ids.DefWithBodyId.{DefWithBodyId}
use Rattle.types.specs.declared.ids.FunctionId.{FunctionId}
use Rattle.types.specs.declared.ty.Const.{Const}
use Rattle.types.specs.declared.ty.Const.TheVariants.{Value}
use Rattle.types.specs.declared.ty.GenericArgs.{GenericArgs}
use Rattle.types.specs.declared.ty.MemoryMap.TheVariants.{Empty}
use Rattle.types.specs.declared.ty.Ty.{Ty}
use Rattle.world.specs.declared.limits.Limits.{Limits}
use Rattle.mir.specs.declared.body.MirBody.{MirBody}
use Rattle.mir.specs.declared.errors.ConstEvalError.{ConstEvalError}
use Rattle.mir.specs.declared.errors.ConstEvalError.TheVariants as constant
use Rattle.mir.specs.declared.errors.MirEvalError.{MirEvalError, MirEvalError-F, fold-MirEvalError, out-MirEvalError}
use Rattle.mir.specs.declared.errors.MirEvalError as error
use Rattle.mir.specs.declared.errors.MirEvalError.TheOpen as layer
use Rattle.mir.specs.declared.errors.MirLowerError.{MirLowerError}
use Rattle.mir.specs.declared.errors.MirLowerError.TheVariants as refusal
use Rattle.mir.specs.Errors.{from_lower_error, from_eval_error, layout_error_of}
use Rattle.mir.specs.declared.errors.TrailEntry.{TrailEntry}
use Rattle.mir.specs.declared.answers.Answer.{Answer}
use Rattle.mir.specs.declared.answers.Query.{Query}
use Rattle.mir.specs.Memory.{Memory}
use Rattle.mir.specs.Run.{Frame, begun}
use Rattle.mir_eval.specs.Evaluators.{crate_or_first}
use Rattle.mir_eval.specs.Machine.{pointer_bytes}
use Rattle.mir_lower.specs.Refusals.{RefusesAt}
use Rattle.mir_lower.specs.Stops.{MakesSomeCall, OfReached, LacksLayout, LacksSize, ReachesCall}
use Rattle.source_meaning.specs.Calls.{source_of as called_source}
use Rattle.source_meaning.specs.Ends.{Cost, cost_of, Go, Faults, Panic, Undefined, IsOver}
use Rattle.source_meaning.specs.Entering.{entering, run_cost}
use Rattle.source_meaning.specs.Meaning.{Gives, meaning_from, meaning_of}
use Rattle.source_meaning.specs.Source.{Source, Store, node_type, root, zeroed}
use Rattle.source_meaning.specs.Valid.{HasDefinedCost, HasNoCalls}
use Rattle.consteval.specs.Built.{is_unbuilt}
use Rattle.consteval.specs.Kept.{AreRightAnswers, IsLowered, Kept, Lowered, Ran, program_of, run_of}
use Rattle.consteval.specs.Refusals.{RefusesBody}

-- a constant of a type, with these bytes and no memory behind them
abbrev pub constant_of : Ty → List ℕ → Const
constant_of ty bytes = Value (record { ty = ty; memory = bytes; memory_map = Empty })

-- an answer is a fault that ended a frame, over some trail
abbrev pub IsFrameFault : MirEvalError → Result Const ConstEvalError → Type 0
IsFrameFault fault answer = (trail : List TrailEntry) × (answer ≡ Err (constant.MirEvalError (error.InFunction fault trail)))

-- an answer is a panic that says a word, over some trail
abbrev pub IsPanicOf : List ℕ → Result Const ConstEvalError → Type 0
IsPanicOf word = IsFrameFault (error.Panic word)

-- or undefined behavior that a text names
abbrev pub IsUndefinedOf : List ℕ → Result Const ConstEvalError → Type 0
IsUndefinedOf text = IsFrameFault (error.UndefinedBehavior text)

-- or the error of a run that may enter no more blocks
abbrev pub IsPastBlocks : Result Const ConstEvalError → Type 0
IsPastBlocks = IsFrameFault error.ExecutionLimitExceeded

-- the source means this value: the type of its root, and exactly these bytes
pub record GivesValue (source : Source) (konst : Const) : Type 0 where
  pub ty : Ty
  pub typed : node_type source (root source) ≡ Some ty
  pub bytes : List ℕ
  pub store : Store
  pub cost : Cost
  pub gives : Gives source (Go bytes store cost)
  pub same : konst ≡ constant_of ty bytes

-- the source means a value, and counts exactly `turns` blocks for it
pub record CountsBlocks (source : Source) (turns : ℕ) : Type 0 where
  pub bytes : List ℕ
  pub store : Store
  pub cost : Cost
  pub gives : Gives source (Go bytes store cost)
  pub same : turns ≡ cost.turns

-- the source means a panic that says the word
pub record GivesPanic (source : Source) (word : List ℕ) : Type 0 where
  pub cost : Cost
  pub gives : Gives source (Faults (Panic word) cost)

-- the source means undefined behavior that the text names
pub record GivesUndefined (source : Source) (text : List ℕ) : Type 0 where
  pub cost : Cost
  pub gives : Gives source (Faults (Undefined text) cost)

-- the word of a panic, by that of the error in it
abbrev pub panic_layer : MirEvalError-F (Option (List ℕ)) → Option (List ℕ)
panic_layer (layer.Panic word) = Some word
panic_layer (layer.InFunction inner trail) = inner
panic_layer _ = None

-- the word of a panic, under any number of frames and any trail
unfoldable pub panic_word : MirEvalError → Option (List ℕ)
panic_word = fold-MirEvalError (Option (List ℕ)) panic_layer

-- the text of undefined behavior, by that of the error in it
abbrev pub undefined_layer : MirEvalError-F (Option (List ℕ)) → Option (List ℕ)
undefined_layer (layer.UndefinedBehavior text) = Some text
undefined_layer (layer.InFunction inner trail) = inner
undefined_layer _ = None

-- the text of undefined behavior, under any number of frames and any trail
unfoldable pub undefined_text : MirEvalError → Option (List ℕ)
undefined_text = fold-MirEvalError (Option (List ℕ)) undefined_layer

-- at some amount of fuel the source counts more blocks than a limit
abbrev pub PassesBlocks : Source → ℕ → Type 0
PassesBlocks source blocks = (fuel : ℕ) × (blocks < (cost_of (meaning_of source fuel)).turns)

-- what a source's body costs at an amount of fuel, without the levels of its value
abbrev pub cost_at : Source → (fuel : ℕ) → Cost
cost_at source fuel = cost_of (meaning_from source (zeroed source) fuel)

-- at some amount of fuel the source counts deeper nesting than a limit for its body, without the levels of its value
abbrev pub PassesNesting : Source → ℕ → Type 0
PassesNesting source nesting = (fuel : ℕ) × (nesting < (cost_at source fuel).nesting)

-- at some amount of fuel the source counts more bytes than a limit
abbrev pub PassesBytes : Source → ℕ → Type 0
PassesBytes source bytes = (fuel : ℕ) × (bytes < (cost_of (meaning_of source fuel)).bytes)

-- on entering it the source counts more bytes for its cells than a limit
abbrev pub PassesBytesAtOnce : Source → ℕ → Type 0
PassesBytesAtOnce source bytes = bytes < (entering source).bytes

-- at some amount of fuel a body was entered of which a type has no size, so that the cost isn't defined
abbrev pub HasUndefinedCost : Source → Type 0
HasUndefinedCost source = (fuel : ℕ) × ((cost_of (meaning_of source fuel)).defined ≡ false)

-- how the lowering of a valid definition's body, or of one that it calls, can end without a graph: for a number literal whose type has no layout
abbrev pub EndsLowering : Source → MirLowerError → Type 0
EndsLowering source (refusal.LayoutError e) = RefusesAt source (root source) (refusal.LayoutError e)
EndsLowering source _ = ⊥

-- the body of a function that is called in what a source reaches can't be lowered
pub record IsUnloweredCallee (source : Source) (id : FunctionId) (cause : MirLowerError) : Type 0 where
  pub call : ReachesCall source id
  pub called : Source
  pub found : called_source source.world id ≡ Some called
  pub ends : EndsLowering called cause

-- Why a frame of a valid definition's evaluation ends at a call whose callee isn't entered: the source counts deeper nesting or more bytes than a
-- limit; or a type of a body that is reached, which the error names, has no layout, or one without a size, so that the cost isn't defined; or the
-- callee's body can't be lowered, and the cost isn't defined either.
abbrev pub EndsAtCall : Source → Limits → MirEvalError → Type 0
EndsAtCall source limits error.StackOverflow = PassesNesting source limits.nesting
EndsAtCall source limits error.MemoryLimitExceeded = PassesBytes source limits.bytes
EndsAtCall source limits (error.LayoutError e ty) = (e ≡ layout_error_of ty) × OfReached source (λ reached. LacksLayout reached ty) × HasUndefinedCost source
EndsAtCall source limits (error.TypeIsUnsized ty text) = OfReached source (λ reached. LacksSize reached ty) × HasUndefinedCost source
EndsAtCall source limits (error.MirLowerError id cause) = IsUnloweredCallee source id cause × HasUndefinedCost source
EndsAtCall source limits _ = ⊥

-- How a frame of a valid definition's evaluation can end: in a panic or in undefined behavior that the definition's source means, past the limit on
-- blocks, or, where that source makes a call, at one.
abbrev pub EndsFrame : Source → Limits → MirEvalError → Type 0
EndsFrame source limits (error.Panic word) = GivesPanic source word
EndsFrame source limits (error.UndefinedBehavior text) = GivesUndefined source text
EndsFrame source limits error.ExecutionLimitExceeded = PassesBlocks source limits.blocks
EndsFrame source limits e = MakesSomeCall source × EndsAtCall source limits e

-- The cause of a `MirEvalError` in which the evaluation of a valid definition's body ends, by the error's outermost variant: how its frame ended;
-- too few levels of nesting for the run and its value; the limit on bytes, which the body's cells pass; or a type of one of these cells, which
-- the error names, without a layout, for the reason that the error gives, or without a size.
abbrev pub EndsLayer : Source → Limits → MirEvalError-F MirEvalError → Type 0
EndsLayer source limits (layer.InFunction inner trail) = EndsFrame source limits inner
EndsLayer source limits layer.StackOverflow = limits.nesting < (run_cost source).nesting
EndsLayer source limits layer.MemoryLimitExceeded = PassesBytesAtOnce source limits.bytes
EndsLayer source limits (layer.LayoutError e ty) = (e ≡ layout_error_of ty) × LacksLayout source ty
EndsLayer source limits (layer.TypeIsUnsized ty text) = LacksSize source ty
EndsLayer source limits _ = ⊥

-- how the evaluation of a valid definition's body can end without a value: with a frame, past the limit on nesting or that on bytes, or with an
-- error that names a type without a layout or without a size
abbrev pub EndsEvaluation : Source → Limits → MirEvalError → Type 0
EndsEvaluation source limits e = EndsLayer source limits (out-MirEvalError e)

-- Every error that a valid definition can end in. Want of memory needs no cause.
abbrev pub EndsIn : Source → Limits → ConstEvalError → Type 0
EndsIn source limits (constant.MirLowerError e) = EndsLowering source e
EndsIn source limits (constant.MirEvalError e) = EndsEvaluation source limits e
EndsIn source limits constant.NoMemory = Unit {0}

-- an answer is as expected, or want of memory
abbrev pub OrNoMemory : Result Const ConstEvalError → (expected : Result Const ConstEvalError → Type 0) → Type 0
OrNoMemory answer expected = expected answer ⊎ (answer ≡ Err constant.NoMemory)

-- a cost is defined, and within the limits on nesting and on bytes
pub record IsWithinRoom (cost : Cost) (limits : Limits) : Type 0 where
  pub defined : cost.defined ≡ true
  pub nesting : cost.nesting ≤ limits.nesting
  pub bytes : cost.bytes ≤ limits.bytes

-- a cost is defined, and within all limits
pub record IsWithinLimits (cost : Cost) (limits : Limits) : Type 0 where
  pub room : IsWithinRoom cost limits
  pub turns : cost.turns ≤ limits.blocks

-- Within the limits the answer is what the source means, or want of memory. Where at some amount of fuel the source counts more blocks than the
-- limit, and up to there is within the other limits, the answer is that there were no more blocks, or want of memory.
pub record AnswersWithin (source : Source) (limits : Limits) (answer : Result Const ConstEvalError) : Type 0 where
  pub value : (ty : Ty) (bytes : List ℕ) (store : Store) (cost : Cost) → node_type source (root source) ≡ Some ty →
      Gives source (Go bytes store cost) → IsWithinLimits cost limits → OrNoMemory answer (λ a. a ≡ Ok (constant_of ty bytes))
  pub panic : (word : List ℕ) (cost : Cost) → Gives source (Faults (Panic word) cost) → IsWithinLimits cost limits → OrNoMemory answer (IsPanicOf word)
  pub undefined : (text : List ℕ) (cost : Cost) → Gives source (Faults (Undefined text) cost) → IsWithinLimits cost limits → OrNoMemory answer (IsUndefinedOf text)
  pub past_blocks : (fuel : ℕ) → limits.blocks < (cost_at source fuel).turns → IsWithinRoom (cost_at source fuel) limits → OrNoMemory answer IsPastBlocks

-- the source has no end, whatever fuel there is
abbrev pub HasNoEnd : Source → Type 0
HasNoEnd source = (fuel : ℕ) → ¬ IsOver (meaning_of source fuel)

-- The cause of a `MirEvalError` for which no run of a valid definition's body begins, by the error's outermost variant. Of
-- `LayoutError` and `TypeIsUnsized` it states that the type in the error is that of a cell, and has no layout, or one without a size.
abbrev pub NeverRunsLayer : Source → Limits → MirEvalError-F MirEvalError → Type 0
NeverRunsLayer source limits layer.StackOverflow = limits.nesting ≡ 0
NeverRunsLayer source limits layer.MemoryLimitExceeded = PassesBytesAtOnce source limits.bytes
NeverRunsLayer source limits (layer.LayoutError e ty) = (e ≡ layout_error_of ty) × LacksLayout source ty
NeverRunsLayer source limits (layer.TypeIsUnsized ty text) = LacksSize source ty
NeverRunsLayer source limits _ = ⊥

-- Every error, but for want of memory, for which no run of a valid definition begins: a number literal whose type has no
-- layout, no level of nesting, more bytes than the limit, or a type, named by the error, without a layout or without a size.
abbrev pub NeverRuns : Source → Limits → ConstEvalError → Type 0
NeverRuns source limits (constant.MirLowerError e) = EndsLowering source e
NeverRuns source limits (constant.MirEvalError e) = NeverRunsLayer source limits (out-MirEvalError e)
NeverRuns source limits constant.NoMemory = ⊥

-- the answer is an error for which no run of a valid definition begins
pub record RefusesToRun (source : Source) (limits : Limits) (answer : Result Const ConstEvalError) : Type 0 where
  pub fault : ConstEvalError
  pub is : answer ≡ Err fault
  pub never : NeverRuns source limits fault

-- the source makes a call, and the answer is a frame's fault at one
pub record IsStoppedAtCall (source : Source) (limits : Limits) (answer : Result Const ConstEvalError) : Type 0 where
  pub call : MakesSomeCall source
  pub fault : MirEvalError
  pub cause : EndsAtCall source limits fault
  pub is : IsFrameFault fault answer

-- The answer for a source that has no end: its run enters as many blocks as the limit allows, and no more; or it stops at a call; or memory ran
-- out, or no run began. Where the source makes no call, the types have sizes, there is a level of nesting for the run, and the bytes that
-- the source counts on entering it are within the limit, it is the first of these, unless memory ran out. With calls it is so by
-- `past_blocks` of `AnswersWithin`, where what the source counts up to the limit on blocks is within the other limits.
pub record AnswersEndless (source : Source) (limits : Limits) (answer : Result Const ConstEvalError) : Type 0 where
  pub ends : OrNoMemory answer IsPastBlocks ⊎ IsStoppedAtCall source limits answer ⊎ RefusesToRun source limits answer
  pub within : HasNoCalls source → HasDefinedCost source → 0 < limits.nesting → (entering source).bytes ≤ limits.bytes → OrNoMemory answer IsPastBlocks

-- a machine's outcome as an answer
abbrev pub carried : Result Const MirEvalError → Result Const ConstEvalError
carried (Ok konst) = Ok konst
carried (Err e) = Err (from_eval_error e)

-- a run of the body entered `turns` blocks and ended in the answer, and the pointers of its definition's crate have 8 bytes
pub record RunsTo (kept : Kept) (def : DefWithBodyId) (body : MirBody) (limits : Limits) (turns : ℕ) (answer : Result Const ConstEvalError) : Type 0 where
  pub pointers : pointer_bytes kept.world def ≡ Some 8
  pub outcome : Result Const MirEvalError
  pub ran : Ran kept body limits turns outcome
  pub is : answer ≡ carried outcome

-- A body could not begin: the size of the crate's pointers isn't known, or it is another than 8 bytes, or else there is no
-- level of nesting for the run, or else a local's type has no layout or no size, or else the cells take more bytes than the limit, or else,
-- where its cells could be placed, the body has parameters, for which a run that nothing calls has no arguments. Of the types and the bytes of
-- its cells `begun` tells which it is.
abbrev pub RefusesRun : HirDatabase → DefWithBodyId → MirBody → Limits → MirEvalError → Type 0
RefusesRun world def body limits e =
    ((e ≡ error.TargetDataLayoutNotAvailable (crate_or_first world def)) × (pointer_bytes world def ≡ None))
    ⊎ ((e ≡ error.NotSupported (codes "targets with different pointer size from host")) × (width : ℕ) × (pointer_bytes world def ≡ Some width) × (width ≢ 8))
    ⊎ ((e ≡ error.StackOverflow) × (pointer_bytes world def ≡ Some 8) × (limits.nesting ≡ 0))
    ⊎ ((pointer_bytes world def ≡ Some 8) × (0 < limits.nesting) × (begun (program_of world limits []) body ≡ Err e))
    ⊎ ((e ≡ error.InternalError (codes "too few arguments")) × (pointer_bytes world def ≡ Some 8) × (0 < limits.nesting)
    × (start : Frame × Memory) × (begun (program_of world limits []) body ≡ Ok start) × (body.param_locals ≢ []))

-- no run of a body began, for want of memory or for a cause that the answer names
pub record NeverBegins (world : HirDatabase) (def : DefWithBodyId) (body : MirBody) (limits : Limits) (turns : ℕ) (answer : Result Const ConstEvalError) : Type 0 where
  pub none : turns ≡ 0
  pub fault : MirEvalError
  pub is : answer ≡ Err (from_eval_error fault)
  pub refuses : (fault ≡ error.NoMemory) ⊎ RefusesRun world def body limits fault

-- memory ran out in a run of a body without parameters, at its end, or at a call for which it had to be told more: no more blocks are
-- counted than the run enters that is told these answers, up to its end or its next question
pub record RunsOut (kept : Kept) (def : DefWithBodyId) (body : MirBody) (limits : Limits) (turns : ℕ) (answer : Result Const ConstEvalError) : Type 0 where
  pub pointers : pointer_bytes kept.world def ≡ Some 8
  pub nests : 0 < limits.nesting
  pub answers : List (Query × Answer)
  pub right : AreRightAnswers kept answers
  pub start : Frame × Memory
  pub began : begun (program_of kept.world limits answers) body ≡ Ok start
  pub no_params : body.param_locals ≡ []
  pub entered : turns ≤ limits.blocks - (run_of body start limits.blocks).left
  pub is : answer ≡ Err constant.NoMemory

-- the answer of a body: that of its run, or why none began, or want of memory
abbrev pub AnswersBody : Kept → DefWithBodyId → MirBody → Limits → ℕ → Result Const ConstEvalError → Type 0
AnswersBody kept def body limits turns answer =
    RunsTo kept def body limits turns answer ⊎ NeverBegins kept.world def body limits turns answer ⊎ RunsOut kept def body limits turns answer

-- The answer is that of the definition's kept body: the definition is built and is given no arguments, and the body is what lowering makes
-- of its row.
pub record AnswersKept (kept : Kept) (def : DefWithBodyId) (args : GenericArgs) (limits : Limits) (turns : ℕ) (answer : Result Const ConstEvalError) : Type 0 where
  pub built : is_unbuilt kept.world def args ≡ false
  pub body : MirBody
  pub found : Contains kept.entries (Lowered def body)
  pub lowered : IsLowered kept.world def body
  pub answers : AnswersBody kept def body limits turns answer

-- the definition's body could not be lowered, for want of memory or for a cause that the answer names, and no run began
pub record NeverLowered (world : HirDatabase) (def : DefWithBodyId) (args : GenericArgs) (turns : ℕ) (answer : Result Const ConstEvalError) : Type 0 where
  pub none : turns ≡ 0
  pub fault : MirLowerError
  pub is : answer ≡ Err (from_lower_error fault)
  pub refuses : (fault ≡ refusal.NoMemory) ⊎ RefusesBody world def args fault

-- Every answer is that of the kept body of a definition that is built and is given no arguments, or it is the refusal to lower a body. So, want
-- of memory aside, a definition is refused that isn't built or is given arguments, and so is one whose body has a typing error, an
-- expression that is evaluated and has no form that is built, or, in a world with a drop function, a local whose type isn't `Copy`.
abbrev pub HasCause : Kept → DefWithBodyId → GenericArgs → Limits → ℕ → Result Const ConstEvalError → Type 0
HasCause kept def args limits turns answer =
    AnswersKept kept def args limits turns answer ⊎ NeverLowered kept.world def args turns answer
