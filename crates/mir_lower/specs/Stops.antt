-- Runs that stop at a call, since its callee isn't entered.
use Rattle.std.specs.Prelude.{◌≡◌, ℕ, suc, ◌+◌, ◌<◌, ◌≤◌, ◌⊎◌, true, false, List, [], Option, Some, None}
use Rattle.types.specs.declared.ids.FunctionId.{FunctionId}
use Rattle.types.specs.declared.ty.GenericArgs.{GenericArgs}
use Rattle.types.specs.declared.ty.Ty.{Ty}
use Rattle.world.specs.declared.layout.Layout.{Layout}
use Rattle.world.specs.Lookups.{layout_of}
use Rattle.mir.specs.Answers.{answer_to}
use Rattle.mir.specs.Areas.{taken}
use Rattle.mir.specs.declared.answers.Answer.TheVariants as told
use Rattle.mir.specs.declared.answers.Query.{Query}
use Rattle.mir.specs.declared.errors.ConstEvalError.{ConstEvalError}
use Rattle.mir.specs.declared.errors.MirEvalError.{MirEvalError}
use Rattle.mir.specs.declared.errors.MirEvalError as error
use Rattle.mir.specs.Errors.{layout_error_of}
use Rattle.mir.specs.Memory.{Memory}
use Rattle.mir.specs.Run.{Program, Frame, Ending, Returned, Faulted, Asked, Ended, body_query, callee_error, levels_over}
use Rattle.source_meaning.specs.Calls.{function_called, source_of}
use Rattle.source_meaning.specs.Core as expr
use Rattle.source_meaning.specs.Ends.{Cost}
use Rattle.source_meaning.specs.Entering.{is_cost_defined}
use Rattle.source_meaning.specs.Source.{Source, Cell, cell_type, node, root}
use Rattle.source_meaning.specs.Valid.{Evaluates, Reaches}
use Rattle.mir_lower.specs.Growth.{IsUsed}
use Rattle.mir_lower.specs.Runs.{Point, run_from, EndsAfter}

-- a function that is given no generic arguments
abbrev pub without_arguments : FunctionId → FunctionId × GenericArgs
without_arguments id = (id, record { 0 = [] })

-- an expression that is evaluated in a source is a call of a function
pub record MakesCall (source : Source) (id : FunctionId) : Type 0 where
  pub e : ℕ
  pub evaluated : Evaluates source (root source) e
  pub callee : Option ℕ
  pub args : List ℕ
  pub is_call : node source e ≡ Some (expr.Call callee args)
  pub names : function_called source e callee ≡ Some id

-- something that a source reaches makes a call of a function
pub record ReachesCall (source : Source) (id : FunctionId) : Type 0 where
  pub caller : Source
  pub reached : Reaches source caller
  pub makes : MakesCall caller id

-- a run asks for the body of a function that is called in what a source reaches
pub record IsAsked (source : Source) (q : Query) : Type 0 where
  pub id : FunctionId
  pub call : ReachesCall source id
  pub is : q ≡ body_query (without_arguments id)

-- The error of a call in what a source reaches, where the run was told why the callee's body can't be got. A cost that is counted up to the call
-- isn't defined where that of entering the callee isn't.
pub record WasRefused (source : Source) (program : Program) (cost : Cost) (e : MirEvalError) : Type 0 where
  pub id : FunctionId
  pub call : ReachesCall source id
  pub refusal : ConstEvalError
  pub told : answer_to program.answers (body_query (without_arguments id)) ≡ Some (told.Failed refusal)
  pub is : e ≡ callee_error id refusal
  pub counted : (called : Source) → source_of source.world id ≡ Some called → cost.defined ≡ true → is_cost_defined called ≡ true

-- the type of a cell that the evaluation of a source may use: of the result, of a binding that no closure owns, or of an expression that is
-- evaluated, before or after its adjustment
abbrev pub IsCellType : Source → Ty → Type 0
IsCellType source ty = (cell : Cell) × IsUsed source cell × (cell_type source cell ≡ Some ty)

-- such a type without a layout
abbrev pub LacksLayout : Source → Ty → Type 0
LacksLayout source ty = IsCellType source ty × (layout_of source.world ty ≡ None)

-- or with a layout without a size
abbrev pub LacksSize : Source → Ty → Type 0
LacksSize source ty = IsCellType source ty × (layout : Layout) × (layout_of source.world ty ≡ Some layout) × (layout.sized ≡ false)

-- something holds of a source that another one reaches
abbrev pub OfReached : Source → (Source → Type 0) → Type 0
OfReached source Holds = (reached : Source) × Reaches source reached × Holds reached

-- Why a call's callee isn't entered, within a cost that is counted from a moment on at which the run has this memory, and holds so many levels
-- of nesting, its own among them. The type of a cell has no layout, or no size, and then the cost isn't defined. Or the stack would take
-- more bytes than the limit, and then it takes more with those of the cost. Or the call would nest deeper than the limit, and then the levels
-- pass it with those of the cost, in which the run's own is counted again.
abbrev pub LacksRoom : Source → Program → (levels : ℕ) → Memory → Cost → MirEvalError → Type 0
LacksRoom source program levels memory cost (error.LayoutError cause ty) = (cause ≡ layout_error_of ty) × OfReached source (λ reached. LacksLayout reached ty) × (cost.defined ≡ false)
LacksRoom source program levels memory cost (error.TypeIsUnsized ty text) = OfReached source (λ reached. LacksSize reached ty) × (cost.defined ≡ false)
LacksRoom source program levels memory cost error.MemoryLimitExceeded = memory.limit < taken memory.stack + cost.bytes
LacksRoom source program levels memory cost error.StackOverflow = suc program.nesting < levels + cost.nesting
LacksRoom source program levels memory cost _ = ⊥

-- a run ended at a call: it asks for the callee's body, or the callee can't be entered, or isn't
abbrev pub IsCut : Source → Program → (levels : ℕ) → Memory → Cost → Ending → Type 0
IsCut source program levels memory cost (Returned bytes) = ⊥
IsCut source program levels memory cost (Faulted e trail) = WasRefused source program cost e ⊎ LacksRoom source program levels memory cost e
IsCut source program levels memory cost (Asked q frame then call) = IsAsked source q

-- a source evaluates a call
abbrev pub MakesSomeCall : Source → Type 0
MakesSomeCall source = (id : FunctionId) × MakesCall source id

-- the run of a source that makes a call stops at one, after no more blocks than are counted
pub record StopsWithin (source : Source) (program : Program) (levels : ℕ) (memory : Memory) (cost : Cost) (run : ℕ → Ended) : Type 0 where
  pub call : MakesSomeCall source
  pub blocks : ℕ
  pub within : blocks ≤ cost.turns
  pub ends : EndsAfter blocks (IsCut source program levels memory cost) run

-- the run of a frame does so from a point on
abbrev pub StopsFrom : Source → Frame → Point → Memory → Cost → Type 0
StopsFrom source frame from memory cost = StopsWithin source frame.program (levels_over frame.below) memory cost (run_from frame memory from)
