-- What is kept of finished evaluations, as its callers see it.
use Rattle.std.specs.Prelude.{◌≡◌, ◌≢◌, ℕ, ◌-◌, ◌<◌, false, List, [], ◌∷◌, ◌++◌, take, Some, Result, Ok, Contains, map, slice_get}
use Rattle.world.specs.declared.database.HirDatabase.{HirDatabase}
use Rattle.world.specs.declared.database.BodyRow.{BodyRow}
use Rattle.world.specs.declared.limits.Limits.{Limits}
use Rattle.types.specs.declared.ids.DefWithBodyId.{DefWithBodyId}
use Rattle.types.specs.declared.ty.Const.{Const}
use Rattle.world.specs.Lookups.{body_row}
use Rattle.mir.specs.Answers.{answer_to}
use Rattle.mir.specs.declared.answers.Answer.{Answer}
use Rattle.mir.specs.declared.answers.Answer.TheVariants as answer
use Rattle.mir.specs.declared.answers.Query.{Query}
use Rattle.mir.specs.declared.answers.Query.TheVariants as query
use Rattle.mir.specs.declared.body.MirBody.{MirBody}
use Rattle.mir.specs.declared.errors.ConstEvalError.TheVariants as constant
use Rattle.mir.specs.declared.errors.MirLowerError.TheVariants as refusal
use Rattle.mir.specs.Memory.{Memory}
use Rattle.mir.specs.Run.{Program, Frame, Ended, begun, entering}
use Rattle.mir_eval.specs.Machine.{Machine, Going, Entry as BeforeBlock, outcome_of, pointer_bytes}
use Rattle.mir_lower.specs.Built.{IsBuilt}
use Rattle.mir_lower.specs.Order.{AreInOrder}
use Rattle.mir_lower.specs.Refusals.{needs_drops}
use Rattle.mir_lower.specs.Simulates.{Simulates}
use Rattle.source_meaning.specs.Source.{root}
use Rattle.consteval.specs.Built.{is_erroneous, is_unbuilt_definition}
use Rattle.consteval.specs.Refusals.{RefusesBody}
use Rattle.consteval.specs.Sources.{source_of}
use Rattle.consteval.specs.declared.kept.Held.{Held}
use Rattle.consteval.specs.declared.kept.Held.TheVariants as held
use Rattle.consteval.specs.declared.kept.Key.{Key}
use Rattle.consteval.specs.declared.kept.Key.TheVariants as key

-- a kept answer, with what it is kept for: the lowered body of a definition, or its value
pub data Entry : Type 0 where
  Lowered : (def : DefWithBodyId) (body : MirBody) → Entry
  Value : (def : DefWithBodyId) (konst : Const) → Entry

-- the kept answers of a world, in the order of keeping
pub record Kept : Type 0 where
  pub world : HirDatabase
  pub entries : List Entry

-- what an answer is kept for
abbrev pub key_of : Entry → Key
key_of (Lowered def body) = key.Lowered def
key_of (Value def konst) = key.Value def

-- an answer whose lowered body may be shared
abbrev pub entry_of : Held → Entry
entry_of (held.Lowered def body) = Lowered def body.value
entry_of (held.Value def konst) = Value def konst

abbrev pub kept_of : HirDatabase → List Held → Kept
kept_of world answers = record { world = world; entries = map entry_of answers }

-- something is kept for a key
abbrev pub IsKept : Kept → Key → Type 0
IsKept kept key = (entry : Entry) × Contains kept.entries entry × (key_of entry ≡ key)

-- what is kept with one more answer
abbrev pub with_entry : Entry → Kept → Kept
with_entry entry kept = record kept { entries = kept.entries ++ entry ∷ [] }

-- over the same world, what was kept stays, in its order, and stands before what is kept later
pub record Stays (before after : Kept) : Type 0 where
  pub world : after.world ≡ before.world
  pub more : List Entry
  pub entries : after.entries ≡ before.entries ++ more

-- A body that is kept for a definition is what lowering makes of its row: the definition is built, inference met no error in its body, each
-- expression that is evaluated has a form that is built, none of the graph's locals needs a drop function, the locals stand in the order of
-- lowering, and the graph simulates the row.
pub record IsLowered (world : HirDatabase) (def : DefWithBodyId) (body : MirBody) : Type 0 where
  pub no_errors : is_erroneous world def ≡ false
  pub built : is_unbuilt_definition world def ≡ false
  pub row : BodyRow
  pub found : body_row world def ≡ Some row
  pub forms : IsBuilt (source_of world row) (root (source_of world row))
  pub dropless : needs_drops (source_of world row) body.locals ≡ false
  pub order : AreInOrder (source_of world row) body.locals
  pub owner : body.owner ≡ def
  pub simulates : Simulates (source_of world row) body

-- An answer is right by what is kept: for the body of a definition that is given no arguments, the body that is kept for it; for one that
-- can't be lowered, the refusal, which is never want of memory. Nothing else is a right answer.
abbrev pub IsRightAnswer : Kept → Query → Answer → Type 0
IsRightAnswer kept (query.Body def args) (answer.Body body) = (args.0 ≡ []) × Contains kept.entries (Lowered def body.value)
IsRightAnswer kept (query.Body def args) (answer.Failed (constant.MirLowerError e)) = (e ≢ refusal.NoMemory) × RefusesBody kept.world def args e
IsRightAnswer kept _ _ = ⊥

-- each answer that a run is told is right by what is kept
pub record AreRightAnswers (kept : Kept) (answers : List (Query × Answer)) : Type 0 where
  pub each : (q : Query) (a : Answer) → answer_to answers q ≡ Some a → IsRightAnswer kept q a

-- what a run goes by, under limits, that is told these answers
abbrev pub program_of : HirDatabase → Limits → List (Query × Answer) → Program
program_of world limits answers = record { world = world; nesting = limits.nesting; bytes = limits.bytes; answers = answers }

-- the end of a body's run under a budget of blocks
abbrev pub run_of : MirBody → Frame × Memory → ℕ → Ended
run_of body start blocks = entering blocks start.0 start.1 body.start_block.0

-- A machine that was told nothing yet is about to enter the first block of a body without parameters, there is a level of nesting for its
-- run, and the pointers of its owner's crate have 8 bytes. Its cells are within the limit on bytes, since it began.
pub record HasBegun (world : HirDatabase) (def : DefWithBodyId) (body : MirBody) (limits : Limits) (machine : Machine) : Type 0 where
  pub pointers : pointer_bytes world def ≡ Some 8
  pub nests : 0 < limits.nesting
  pub start : Frame × Memory
  pub began : begun (program_of world limits []) body ≡ Ok start
  pub no_params : body.param_locals ≡ []
  pub blocks : machine.blocks ≡ limits.blocks
  pub state : machine.state ≡ Going (record { frame = start.0; memory = start.1; point = BeforeBlock body.start_block.0; left = limits.blocks })

-- A run of a kept body without parameters, told answers that are right by what is kept, entered `turns` blocks and had this outcome. It
-- took one level of nesting for itself, and handed out its value from those that were left. The cells of the body took no more bytes than
-- the limit, since it began. A body with parameters has no such run, since nothing gives it arguments.
pub record Ran (kept : Kept) (body : MirBody) (limits : Limits) (turns : ℕ) (outcome : Result Const _) : Type 0 where
  pub nests : 0 < limits.nesting
  pub answers : List (Query × Answer)
  pub right : AreRightAnswers kept answers
  pub start : Frame × Memory
  pub began : begun (program_of kept.world limits answers) body ≡ Ok start
  pub no_params : body.param_locals ≡ []
  pub ended : outcome_of kept.world (limits.nesting - 1) body (run_of body start limits.blocks).ending ≡ Some outcome
  pub entered : turns ≡ limits.blocks - (run_of body start limits.blocks).left

-- a value is what a run of a kept body of its definition returned, which was told answers that are right by what is kept
pub record IsValueOf (kept : Kept) (def : DefWithBodyId) (konst : Const) : Type 0 where
  pub body : MirBody
  pub from : Contains kept.entries (Lowered def body)
  pub limits : Limits
  pub turns : ℕ
  pub ran : Ran kept body limits turns (Ok konst)

-- an answer is right by its world and by the answers that were kept before it
abbrev pub RestsOn : Kept → Entry → Type 0
RestsOn before (Lowered def body) = IsLowered before.world def body
RestsOn before (Value def konst) = IsValueOf before def konst

-- what was kept before the answer at a place
abbrev pub kept_before : ℕ → Kept → Kept
kept_before i kept = record kept { entries = take i kept.entries }

-- What is kept is right: nothing is kept twice for one key, and each answer rests on those before it.
pub record IsSound (kept : Kept) : Type 0 where
  pub distinct : (i j : ℕ) (one other : Entry) → slice_get kept.entries i ≡ Some one → slice_get kept.entries j ≡ Some other →
      key_of one ≡ key_of other → i ≡ j
  pub rests : (i : ℕ) (entry : Entry) → slice_get kept.entries i ≡ Some entry → RestsOn (kept_before i kept) entry
