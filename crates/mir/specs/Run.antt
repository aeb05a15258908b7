-- What a run of a body means: blocks entered one after another, over one memory and a stack of frames, under a budget of blocks. A
-- call enters the body of its callee where the run was told that body; where it wasn't, the run asks for it.
use Rattle.std.specs.Prelude.{ℕ, ◌||◌, Bool, true, false, zero, suc, List, [], ◌∷◌, ◌++◌, length, drop, filter, map, not, replicate, Option, Some, None, is_some, Result, Ok, Err, slice_get, option_map, option_and_then, codes, decimal, if◌then◌else◌, nat_le}
use Rattle.std.specs.List.{concat}
use Rattle.either.specs.declared.Either.TheVariants.{Left}
use Rattle.types.specs.declared.ids.AdtId.TheVariants as adt
use Rattle.types.specs.declared.ids.CallableDefId.TheVariants.{FunctionId as CalledFunction}
use Rattle.types.specs.declared.ids.DefWithBodyId.TheVariants.{FunctionId as FunctionBody}
use Rattle.types.specs.declared.ids.FunctionId.{FunctionId}
use Rattle.types.specs.declared.ids.VariantId.{VariantId}
use Rattle.types.specs.declared.ids.VariantId.TheVariants as variant
use Rattle.world.specs.declared.database.HirDatabase.{HirDatabase}
use Rattle.types.specs.declared.ty.ComplexMemoryMap.{ComplexMemoryMap}
use Rattle.types.specs.declared.ty.Const.{Const, Const-F, out-Const}
use Rattle.types.specs.declared.ty.Const.TheOpen as layer
use Rattle.types.specs.declared.ty.GenericArg.{GenericArg}
use Rattle.types.specs.declared.ty.GenericArgs.{GenericArgs}
use Rattle.types.specs.declared.ty.MemoryMap.{MemoryMap}
use Rattle.types.specs.declared.ty.TraitRef.{TraitRef}
use Rattle.types.specs.declared.ty.UnevaluatedConst.{UnevaluatedConst}
use Rattle.types.specs.declared.ty.ValueConst.{ValueConst}
use Rattle.types.specs.declared.ty.Ty.{Ty, Ty-F, out-Ty}
use Rattle.types.specs.declared.ty.Ty.TheVariants as type
use Rattle.world.specs.Checked.{fixed_size}
use Rattle.world.specs.Lookups.{layout_of}
use Rattle.world.specs.declared.layout.Layout.{Layout}
use Rattle.numbers.specs.Aggregates.{repeated, with_part}
use Rattle.numbers.specs.Bytes.{value_of}
use Rattle.numbers.specs.Constants.{number_in}
use Rattle.numbers.specs.declared.operator.Operator.{Operator}
use Rattle.numbers.specs.declared.operator.Kind.{Kind}
use Rattle.numbers.specs.Operators.{Answer, Computes, Panics, Undefined, computed, converted, negated, inverted, kind_of}
use Rattle.mir.specs.Answers.{answer_to}
use Rattle.mir.specs.declared.answers.Answer.{Answer as Told}
use Rattle.mir.specs.declared.answers.Answer.TheVariants as told
use Rattle.mir.specs.declared.answers.Query.{Query}
use Rattle.mir.specs.declared.answers.Query.TheVariants as query
use Rattle.mir.specs.declared.body.BasicBlock.{BasicBlock}
use Rattle.mir.specs.declared.body.Local.{Local}
use Rattle.mir.specs.declared.body.MirBody.{MirBody}
use Rattle.mir.specs.declared.body.Terminator.{Terminator}
use Rattle.mir.specs.declared.body.TerminatorKind.TheVariants.{Goto, SwitchInt, Return, Drop, Call}
use Rattle.mir.specs.declared.switch.SwitchTargets.{SwitchTargets}
use Rattle.mir.specs.Switches.{target_of}
use Rattle.mir.specs.declared.errors.ConstEvalError.{ConstEvalError}
use Rattle.mir.specs.declared.errors.ConstEvalError.TheVariants as constant
use Rattle.mir.specs.declared.errors.MirEvalError.{MirEvalError}
use Rattle.mir.specs.declared.errors.MirEvalError as error
use Rattle.mir.specs.declared.errors.TrailEntry.{TrailEntry}
use Rattle.mir.specs.declared.ids.BasicBlockId.{BasicBlockId}
use Rattle.mir.specs.declared.ids.LocalId.{LocalId}
use Rattle.mir.specs.declared.operand.Operand.{Operand}
use Rattle.mir.specs.declared.operand.Place.{Place}
use Rattle.mir.specs.declared.span.MirSpan.{MirSpan}
use Rattle.mir.specs.declared.operand.UnOp.{UnOp}
use Rattle.mir.specs.declared.operand.UnOp.TheVariants as one
use Rattle.mir.specs.declared.operand.OperandKind.{OperandKind}
use Rattle.mir.specs.declared.operand.OperandKind.TheVariants.{Copy, Constant}
use Rattle.mir.specs.declared.operand.Rvalue.{Rvalue}
use Rattle.mir.specs.declared.operand.AggregateKind.{AggregateKind}
use Rattle.mir.specs.declared.operand.AggregateKind.TheVariants.{Array, Tuple, Adt}
use Rattle.mir.specs.declared.operand.Rvalue.TheVariants.{Use, Repeat, Cast, CheckedBinaryOp, UnaryOp, Aggregate}
use Rattle.mir.specs.declared.statement.Statement.{Statement}
use Rattle.mir.specs.declared.statement.StatementKind.{StatementKind}
use Rattle.mir.specs.declared.statement.StatementKind.TheVariants.{Assign, FakeRead, StorageLive, StorageDead}
use Rattle.mir.specs.declared.address.Interval.{Interval}
use Rattle.mir.specs.Areas.{first_areas, with_bytes}
use Rattle.mir.specs.Memory.{Memory, cell_bytes, cell_before, cells_of, number_held}
use Rattle.mir.specs.Places.{is_out_of_bounds, place_cell, place_type}

-- What a run goes by: its world, how deep calls may nest, how many bytes cells may take, and the answers that it was told, at most one
-- to each query.
pub record Program : Type 0 where
  pub world : HirDatabase
  pub nesting : ℕ
  pub bytes : ℕ
  pub answers : List (Query × Told)

-- A suspended caller: its body, where its locals lie, the target block of its call, and the call as a trail names it. A call without a
-- target is one whose callee must not return.
pub record Waiting : Type 0 where
  pub body : MirBody
  pub cells : List Interval
  pub next : Option ℕ
  pub call : TrailEntry

-- A body that runs, what its run goes by, and where its locals lie, one interval for each. Local 0 of a called body is the caller's
-- destination itself, where the call has a target. `below`: the suspended callers, the nearest first.
pub record Frame : Type 0 where
  pub program : Program
  pub body : MirBody
  pub cells : List Interval
  pub below : List Waiting

-- the open calls, the innermost first, as the trail of a fault of this frame names them
abbrev pub trail_of : Frame → List TrailEntry
trail_of frame = map (λ caller. caller.call) frame.below

-- How many levels of nesting a run holds over these callers: one for itself, and one for each open call without a target, whose callee
-- is a run of its own in rust-analyzer's machine.
abbrev pub levels_over : List Waiting → ℕ
levels_over below = suc (length (filter (λ caller. not (is_some caller.next)) below))

-- the body in which a run began, where one runs over these callers
unfoldable pub first_body : MirBody → List Waiting → MirBody
first_body body [] = body
first_body body (caller ∷ below) = first_body caller.body below

-- a constant's variant
abbrev ConstLayer : Type 0
ConstLayer = Const-F Const GenericArg MemoryMap Ty ComplexMemoryMap GenericArgs TraitRef UnevaluatedConst ValueConst

abbrev pub layer_bytes : ConstLayer → Option (List ℕ)
layer_bytes (layer.Value value) = Some value.memory
layer_bytes _ = None

-- the bytes of a constant, where it is a value
abbrev pub constant_bytes : Const → Option (List ℕ)
constant_bytes konst = layer_bytes (out-Const konst)

-- where a place's value lies now: an index on the way to it is what its local holds now
abbrev pub cell_now : Frame → Memory → Place → Option Interval
cell_now frame memory place = place_cell frame.program.world frame.body (number_held memory frame.cells) frame.cells place

-- the bytes that an operand has now
unfoldable pub operand_bytes : Frame → Memory → OperandKind → Option (List ℕ)
operand_bytes frame memory (Copy place) = option_and_then (cell_bytes memory) (cell_now frame memory place)
operand_bytes frame memory (Constant konst ty) = constant_bytes konst

-- whether an operand is a place that is out of bounds; `numbers` gives the number that a local holds
unfoldable pub operand_out : HirDatabase → MirBody → (numbers : LocalId → Option ℕ) → OperandKind → Bool
operand_out world body numbers (Copy place) = is_out_of_bounds world body numbers place
operand_out world body numbers (Constant konst ty) = false

-- whether one of operands is
unfoldable pub some_out : HirDatabase → MirBody → (numbers : LocalId → Option ℕ) → List Operand → Bool
some_out world body numbers [] = false
some_out world body numbers (operand ∷ rest) = operand_out world body numbers operand.kind || some_out world body numbers rest

-- the type of an operand
unfoldable pub operand_type : HirDatabase → MirBody → OperandKind → Option Ty
operand_type world body (Copy place) = place_type world body place
operand_type world body (Constant konst ty) = Some ty

-- a read outside the memory, or of a place that the body lacks
abbrev pub bad_read : MirEvalError
bad_read = error.UndefinedBehavior (codes "out of bound memory read")

abbrev pub bad_write : MirEvalError
bad_write = error.UndefinedBehavior (codes "out of bound memory write")

-- the use of a place that is out of bounds
abbrev pub out_of_bounds : MirEvalError
out_of_bounds = error.Panic (codes "Index out of bounds")

-- what an operator's answer is in a run
unfoldable pub answered : Answer → Result (List ℕ) MirEvalError
answered (Computes bytes) = Ok bytes
answered (Panics word) = Err (error.Panic word)
answered Undefined = Err (error.NotSupported (codes "comparison of this type"))

-- an operator on two operands, which are read left to right
unfoldable pub operated : Operator → Option Ty → Option Ty → Option (List ℕ) → Option (List ℕ) → Result (List ℕ) MirEvalError
operated op left_type right_type (Some left) (Some right) =
    answered (computed op (option_and_then kind_of left_type) (option_and_then kind_of right_type) left right)
operated op left_type right_type (Some left) None = Err bad_read
operated op left_type right_type None right = Err bad_read

-- what an operator on one operand makes of it
unfoldable pub computed_of : UnOp → Option Kind → List ℕ → Answer
computed_of one.Neg kind bytes = negated kind bytes
computed_of one.Not kind bytes = inverted kind bytes

-- an operator on one operand
unfoldable pub operated_on : UnOp → Option Ty → Option (List ℕ) → Result (List ℕ) MirEvalError
operated_on op ty (Some bytes) = answered (computed_of op (option_and_then kind_of ty) bytes)
operated_on op ty None = Err bad_read

-- a cast between integers, `bool` and `char`, whose sizes are the same on all targets; no other cast is built
unfoldable pub cast_to : Ty → Option Ty → Option (List ℕ) → Result (List ℕ) MirEvalError
cast_to to from (Some bytes) =
    elim (fixed_size to) [
      | Some size ↦ answered (converted (option_and_then kind_of from) size bytes)
      | None ↦ answered Undefined
    ]
cast_to to from None = Err bad_read

-- a value as often as a constant says, one behind another
unfoldable pub repeats : Option ℕ → Option (List ℕ) → Result (List ℕ) MirEvalError
repeats (Some count) (Some bytes) = Ok (repeated count bytes)
repeats (Some count) None = Err bad_read
repeats None bytes = Err (error.NotSupported (codes "non evaluatable array len in repeat Rvalue"))

-- bytes before others
abbrev pub before : Option (List ℕ) → Option (List (List ℕ)) → Option (List (List ℕ))
before (Some bytes) (Some rest) = Some (bytes ∷ rest)
before _ _ = None

-- the bytes of operands, where all can be read
unfoldable pub operands_bytes : Frame → Memory → List Operand → Option (List (List ℕ))
operands_bytes frame memory [] = Some []
operands_bytes frame memory (operand ∷ rest) = before (operand_bytes frame memory operand.kind) (operands_bytes frame memory rest)

-- a part that doesn't end inside the value that it is to be a part of
abbrev pub part_outside : (size offset : ℕ) → MirEvalError
part_outside size offset =
    error.InternalError (codes "field offset (" ++ (decimal offset ++ (codes ") is out of bounds 0.." ++ decimal size)))

-- bytes in which each part stands at its offset, put there in order; `size`: how many bytes there are
unfoldable pub placed_parts : (size : ℕ) → (offsets : List ℕ) → (parts : List (List ℕ)) → List ℕ → Result (List ℕ) MirEvalError
placed_parts size offsets [] bytes = Ok bytes
placed_parts size (offset ∷ offsets) (part ∷ parts) bytes =
    elim (with_part offset part bytes) [
      | Some next ↦ placed_parts size offsets parts next
      | None ↦ Err (part_outside size offset)
    ]
placed_parts size [] (part ∷ parts) bytes = Err (error.InternalError (codes "field without offset"))

-- a value of a type with this layout, which has these parts; it is zero where no part stands
unfoldable pub laid_out : Option Layout → (parts : List (List ℕ)) → Result (List ℕ) MirEvalError
laid_out (Some layout) parts = placed_parts layout.size layout.offsets parts (replicate layout.size 0)
laid_out None parts = Err (error.InternalError (codes "mismatched layout"))

-- the layout of a struct's values; so far a run makes no value of a variant or a union
abbrev pub struct_layout : HirDatabase → VariantId → GenericArgs → Option Layout
struct_layout world (variant.StructId id) args = layout_of world (type.Adt (adt.StructId id) args)
struct_layout world _ args = None

-- a value of a type with this layout, by the bytes of its parts, where each has some
abbrev pub composed : Option Layout → Option (List (List ℕ)) → Result (List ℕ) MirEvalError
composed layout (Some parts) = laid_out layout parts
composed layout None = Err bad_read

-- parts one behind another, where each has some
abbrev pub joined : Option (List (List ℕ)) → Result (List ℕ) MirEvalError
joined (Some parts) = Ok (concat parts)
joined None = Err bad_read

-- the bytes of an aggregate, by those of its parts
unfoldable pub aggregated : HirDatabase → AggregateKind → Option (List (List ℕ)) → Result (List ℕ) MirEvalError
aggregated world (Array ty) parts = joined parts
aggregated world (Tuple ty) parts = composed (layout_of world ty) parts
aggregated world (Adt id args) parts = composed (struct_layout world id args) parts

abbrev pub read : Option (List ℕ) → Result (List ℕ) MirEvalError
read (Some bytes) = Ok bytes
read None = Err bad_read

-- the bytes that an assignment computes
unfoldable pub rvalue_bytes : Frame → Memory → Rvalue → Result (List ℕ) MirEvalError
rvalue_bytes frame memory (Use operand) = read (operand_bytes frame memory operand.kind)
rvalue_bytes frame memory (Repeat operand len) = repeats (number_in len) (operand_bytes frame memory operand.kind)
rvalue_bytes frame memory (Cast kind operand ty) = cast_to ty (operand_type frame.program.world frame.body operand.kind) (operand_bytes frame memory operand.kind)
rvalue_bytes frame memory (CheckedBinaryOp op left right) =
    operated op (operand_type frame.program.world frame.body left.kind) (operand_type frame.program.world frame.body right.kind)
    (operand_bytes frame memory left.kind) (operand_bytes frame memory right.kind)
rvalue_bytes frame memory (UnaryOp op operand) = operated_on op (operand_type frame.program.world frame.body operand.kind) (operand_bytes frame memory operand.kind)
rvalue_bytes frame memory (Aggregate kind operands) = aggregated frame.program.world kind (operands_bytes frame memory operands)

-- whether an operand that an assignment reads is out of bounds
unfoldable pub reads_out : HirDatabase → MirBody → (numbers : LocalId → Option ℕ) → Rvalue → Bool
reads_out world body numbers (Use operand) = operand_out world body numbers operand.kind
reads_out world body numbers (Repeat operand len) = operand_out world body numbers operand.kind
reads_out world body numbers (Cast kind operand ty) = operand_out world body numbers operand.kind
reads_out world body numbers (CheckedBinaryOp op left right) = operand_out world body numbers left.kind || operand_out world body numbers right.kind
reads_out world body numbers (UnaryOp op operand) = operand_out world body numbers operand.kind
reads_out world body numbers (Aggregate kind operands) = some_out world body numbers operands

-- the memory after bytes were copied to a cell
unfoldable pub copied : Memory → Option Interval → Result (List ℕ) MirEvalError → Result Memory MirEvalError
copied memory (Some cell) (Ok bytes) =
    elim (with_bytes memory cell.addr bytes) [ Some after ↦ Ok after | None ↦ Err bad_write ]
copied memory (Some cell) (Err e) = Err e
copied memory None bytes = Err bad_write

-- whether an assignment uses a place that is out of bounds: its own, or one that it reads
abbrev pub assigns_out : HirDatabase → MirBody → (numbers : LocalId → Option ℕ) → Place → Rvalue → Bool
assigns_out world body numbers place rvalue = is_out_of_bounds world body numbers place || reads_out world body numbers rvalue

-- the memory after what was computed was copied to a place, unless a place that is used is out of bounds (`out`)
abbrev pub assigned : (out : Bool) → Memory → Option Interval → Result (List ℕ) MirEvalError → Result Memory MirEvalError
assigned true memory cell bytes = Err out_of_bounds
assigned false memory cell bytes = copied memory cell bytes

-- The memory after a statement. An assignment finds its place and those that it reads before it computes: one that is out of bounds then is a
-- fault.
unfoldable pub after_statement : Frame → Memory → StatementKind → Result Memory MirEvalError
after_statement frame memory (Assign place rvalue) =
    assigned (assigns_out frame.program.world frame.body (number_held memory frame.cells) place rvalue) memory (cell_now frame memory place) (rvalue_bytes frame memory rvalue)
after_statement frame memory (FakeRead place) = Ok memory
after_statement frame memory (StorageLive local) = Ok memory
after_statement frame memory (StorageDead local) = Ok memory

-- the memory after statements in order, up to the first that faults
unfoldable pub after_statements : Frame → List Statement → Memory → Result Memory MirEvalError
after_statements frame [] memory = Ok memory
after_statements frame (statement ∷ statements) memory =
    elim (after_statement frame memory statement.kind) [ Ok after ↦ after_statements frame statements after | Err e ↦ Err e ]

-- A call, by its terminator: the operand whose type names the callee, the arguments, where the result goes, the block that the caller
-- goes on in, if the callee may return, and what the call was lowered from.
pub record Calling : Type 0 where
  pub func : Operand
  pub args : List Operand
  pub destination : Place
  pub target : Option ℕ
  pub span : MirSpan

abbrev pub calling : Operand → List Operand → Place → Option BasicBlockId → MirSpan → Calling
calling func args destination target span =
    record { func = func; args = args; destination = destination; target = option_map (λ block. block.0) target; span = span }

-- How a run ends: with the bytes of the return slot; in a fault that passed through the calls of a trail, of which the first may be one
-- whose callee's body couldn't be got, and want of memory is handed out without its trail; or at a call, with a query that it wasn't told
-- an answer to.
pub data Ending : Type 0 where
  Returned : List ℕ → Ending
  Faulted : MirEvalError → List TrailEntry → Ending
  Asked : Query → Frame → Memory → Calling → Ending

-- where a block leads: to an end, to a block of a frame, or to a query, which the call that ends the block has to know the answer to
pub data Next : Type 0 where
  Stops : Ending → Next
  GoesTo : Frame → Memory → ℕ → Next
  Asks : Query → Frame → Memory → Calling → Next

-- a fault that ends a frame
abbrev pub faults : Frame → MirEvalError → Next
faults frame e = Stops (Faulted e (trail_of frame))

-- the end of a run that returns
abbrev pub returned : Option (List ℕ) → Ending
returned (Some bytes) = Returned bytes
returned None = Faulted bad_read []

-- where a caller goes on whose callee returned, over the callers below it
unfoldable pub resumed : Program → Memory → Waiting → List Waiting → Next
resumed program memory caller below =
    let frame : Frame = record { program = program; body = caller.body; cells = caller.cells; below = below } in
    elim caller.next [
      | Some block ↦ GoesTo frame memory block
      | None ↦ faults frame (error.UndefinedBehavior (codes "Diverging function returned"))
    ]

-- where a body leads that returns: to where its caller goes on, or, where it was called by none, to the end of the run
unfoldable pub after_return : Frame → Memory → Next
after_return frame memory =
    elim frame.below [
      | [] ↦ Stops (returned (option_and_then (cell_bytes memory) (slice_get frame.cells 0)))
      | caller ∷ below ↦ resumed frame.program memory caller below
    ]

-- a type's variant
abbrev TyLayer : Type 0
TyLayer = Ty-F Const GenericArg MemoryMap Ty ComplexMemoryMap GenericArgs TraitRef UnevaluatedConst ValueConst

abbrev pub function_of : TyLayer → Option (FunctionId × GenericArgs)
function_of (layer.FnDef (CalledFunction id) args) = Some (id, args)
function_of _ = None

-- the function that a type names, with its generic arguments
abbrev pub function_in : Ty → Option (FunctionId × GenericArgs)
function_in ty = function_of (out-Ty ty)

-- the query for the body of a function
abbrev pub body_query : FunctionId × GenericArgs → Query
body_query callee = query.Body (FunctionBody callee.0) callee.1

-- The cells of a body that is called: a new cell for each local, but for the return slot where the result goes to a cell that is there.
abbrev pub called_cells : HirDatabase → List Local → Option Interval → Memory → Result (List Interval × Memory) MirEvalError
called_cells world (slot ∷ locals) (Some destination) memory = cell_before destination (cells_of world locals memory)
called_cells world locals _ memory = cells_of world locals memory

-- the memory after each argument's bytes were copied to the local of its parameter, in order
unfoldable pub filled : Frame → List Interval → List LocalId → List Operand → Memory → Result Memory MirEvalError
filled caller cells [] [] memory = Ok memory
filled caller cells (param ∷ params) (arg ∷ args) memory =
    elim (copied memory (slice_get cells param.0) (read (operand_bytes caller memory arg.kind))) [
      | Ok after ↦ filled caller cells params args after
      | Err e ↦ Err e
    ]
filled caller cells [] (arg ∷ args) memory = Err (error.InternalError (codes "too many arguments"))
filled caller cells (param ∷ params) [] memory = Err (error.InternalError (codes "too few arguments"))

-- how a trail names a call of a function
abbrev pub entry_of : Frame → Calling → FunctionId → TrailEntry
entry_of frame call id = record { callee = Left id; span = call.span; caller = frame.body.owner }

-- a caller that waits for its callee
abbrev pub waiting : Frame → Calling → FunctionId → Waiting
waiting frame call id = record { body = frame.body; cells = frame.cells; next = call.target; call = entry_of frame call id }

-- A function's body is entered: its cells are placed, the return slot being `destination` where there is one, and the arguments are read
-- and copied to them. A fault on the way is one of the caller, whose callee has no frame yet.
unfoldable pub entered : Frame → Memory → Calling → FunctionId → MirBody → (destination : Option Interval) → Next
entered frame memory call id body destination =
    elim (called_cells frame.program.world body.locals destination memory) [
      | Err e ↦ faults frame e
      | Ok placed ↦ elim (filled frame placed.0 body.param_locals call.args placed.1) [
        | Err e ↦ faults frame e
        | Ok after ↦
            let callee : Frame = record { program = frame.program; body = body; cells = placed.0; below = waiting frame call id ∷ frame.below } in
            GoesTo callee after body.start_block.0
      ]
    ]

-- A function is called whose body is told. A call with a target has its result written to the destination's cell; one without a target
-- takes a level of nesting.
unfoldable pub called : Frame → Memory → Calling → FunctionId → MirBody → Next
called frame memory call id body =
    elim call.target [
      | Some block ↦ elim (cell_now frame memory call.destination) [
        | Some cell ↦ entered frame memory call id body (Some cell)
        | None ↦ faults frame bad_write
      ]
      | None ↦
          if nat_le (suc (levels_over frame.below)) frame.program.nesting
          then entered frame memory call id body None
          else faults frame error.StackOverflow
    ]

-- where something leads, unless a place that is used is out of bounds (`out`)
abbrev pub led : Frame → (out : Bool) → Next → Next
led frame true next = faults frame out_of_bounds
led frame false next = next

-- the error of a call whose callee's body can't be got
abbrev pub callee_error : FunctionId → ConstEvalError → MirEvalError
callee_error id (constant.MirLowerError refusal) = error.MirLowerError id refusal
callee_error id (constant.MirEvalError e) = e
callee_error id constant.NoMemory = error.NoMemory

-- whether a call uses a place that is out of bounds: its destination, or that of an argument
abbrev pub calls_out : HirDatabase → MirBody → (numbers : LocalId → Option ℕ) → Calling → Bool
calls_out world body numbers call = is_out_of_bounds world body numbers call.destination || some_out world body numbers call.args

-- Where a call of a function leads, by the answer to the query for its body. Once that is told, the call's places are found before the body is entered, or
-- refused: one that is out of bounds is a fault.
unfoldable pub called_by : Frame → Memory → Calling → FunctionId × GenericArgs → Option Told → Next
called_by frame memory call callee (Some (told.Body body)) =
    led frame (calls_out frame.program.world frame.body (number_held memory frame.cells) call) (called frame memory call callee.0 body.value)
called_by frame memory call callee (Some (told.Failed e)) =
    led frame (calls_out frame.program.world frame.body (number_held memory frame.cells) call) (Stops (Faulted (callee_error callee.0 e) (entry_of frame call callee.0 ∷ trail_of frame)))
called_by frame memory call callee _ = Asks (body_query callee) frame memory call

-- where a call leads; calls of other things than functions aren't built
unfoldable pub calls : Frame → Memory → Calling → Next
calls frame memory call =
    elim (option_and_then function_in (operand_type frame.program.world frame.body call.func.kind)) [
      | Some callee ↦ called_by frame memory call callee (answer_to frame.program.answers (body_query callee))
      | None ↦ faults frame (error.NotSupported (codes "form not built"))
    ]

-- where a switch leads: to the target of the unsigned number that the operand's bytes are, of which there are at most 16
unfoldable pub switched : Frame → Memory → SwitchTargets → Option (List ℕ) → Next
switched frame memory targets (Some bytes) =
    if nat_le (length bytes) 16
    then GoesTo frame memory (target_of targets (value_of bytes)).0
    else faults frame (error.NotSupported (codes "comparison of this type"))
switched frame memory targets None = faults frame bad_read

-- what a terminator does; a switch on a place that is out of bounds is a fault
unfoldable pub terminated : Frame → Memory → Option Terminator → Next
terminated frame memory None = faults frame (error.NotSupported (codes "block without terminator"))
terminated frame memory (Some terminator) =
    elim terminator.kind [
      | Goto target ↦ GoesTo frame memory target.0
      | SwitchInt discr targets ↦ led frame (operand_out frame.program.world frame.body (number_held memory frame.cells) discr.kind) (switched frame memory targets (operand_bytes frame memory discr.kind))
      | Return ↦ after_return frame memory
      | Drop place target unwind ↦ GoesTo frame memory target.0
      | Call func args destination target cleanup from_hir_call ↦ calls frame memory (calling func args destination target terminator.span)
    ]

-- where a block leads from one of its statements on
unfoldable pub next_from : Frame → Memory → Option BasicBlock → ℕ → Next
next_from frame memory None index = faults frame (error.NotSupported (codes "block without terminator"))
next_from frame memory (Some block) index =
    elim (after_statements frame (drop index block.statements) memory) [
      | Ok after ↦ terminated frame after block.terminator
      | Err e ↦ faults frame e
    ]

-- how a run ended, and how many blocks of its budget are left
pub record Ended : Type 0 where
  pub ending : Ending
  pub left : ℕ

-- the end of a run that may enter no more blocks, in a frame over the calls of a trail
abbrev pub out_of_blocks : List TrailEntry → Ended
out_of_blocks trail = record { ending = Faulted error.ExecutionLimitExceeded trail; left = 0 }

-- the run from the entry of a block on, within a limit on the blocks that it enters: each block entered takes one
unfoldable pub entering : ℕ → Frame → Memory → ℕ → Ended
entering zero frame memory block = out_of_blocks (trail_of frame)
entering (suc budget) frame memory block =
    elim (next_from frame memory (slice_get frame.body.basic_blocks block) 0) [
      | Stops ending ↦ record { ending = ending; left = budget }
      | GoesTo next after target ↦ entering budget next after target
      | Asks q caller after call ↦ record { ending = Asked q caller after call; left = budget }
    ]

-- the run that goes on where a block led
unfoldable pub going_on : ℕ → Next → Ended
going_on budget (Stops ending) = record { ending = ending; left = budget }
going_on budget (GoesTo frame memory block) = entering budget frame memory block
going_on budget (Asks q frame memory call) = record { ending = Asked q frame memory call; left = budget }

-- the run that goes on in a block that it entered before, from one of its statements on
unfoldable pub running : ℕ → Frame → Memory → ℕ → ℕ → Ended
running budget frame memory block index = going_on budget (next_from frame memory (slice_get frame.body.basic_blocks block) index)

-- a body's frame and memory before its first block, where none called it, or why it can't begin
unfoldable pub begun : Program → MirBody → Result (Frame × Memory) MirEvalError
begun program body =
    elim (cells_of program.world body.locals (first_areas program.bytes)) [
      | Ok placed ↦ Ok (record { program = program; body = body; cells = placed.0; below = [] }, placed.1)
      | Err e ↦ Err e
    ]
