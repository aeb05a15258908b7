-- What a run keeps of the functions whose bodies it was told.
use Rattle.std.specs.Prelude.{◌≡◌, List, [], Option, Some, None}
use Rattle.std.specs.Option.{ForSome}
use Rattle.std.specs.BTreeMap.{is_at}
use Rattle.std.specs.Map.{lookup}
use Rattle.world.specs.declared.database.HirDatabase.{HirDatabase}
use Rattle.types.specs.contracts.ids.FunctionIdOrd.TheImpl as FunctionIdOrd
use Rattle.types.specs.declared.ids.FunctionId.{FunctionId}
use Rattle.mir.specs.Answers.{answer_to}
use Rattle.mir.specs.declared.answers.Answer.{Answer}
use Rattle.mir.specs.declared.answers.Answer.TheVariants as told
use Rattle.mir.specs.declared.answers.Query.{Query}
use Rattle.mir.specs.declared.body.MirBody.{MirBody}
use Rattle.mir.specs.Run.{body_query}
use Rattle.mir_rows.specs.Callees.{AreSizes}
use Rattle.mir_rows.specs.declared.callees.Callee.{Callee}

-- the query for the body of a function that is given no generic arguments
abbrev pub plain_query : FunctionId → Query
plain_query id = body_query (id, record { 0 = [] })

-- the body that an answer is
abbrev pub told_body : Option Answer → Option MirBody
told_body (Some (told.Body body)) = Some body.value
told_body _ = None

-- what is kept for a function: its body, as the run was told, which is ready to run in the world, and the sizes of its cells
pub record IsCallee (world : HirDatabase) (answers : List (Query × Answer)) (id : FunctionId) (callee : Callee) : Type 0 where
  pub told : told_body (answer_to answers (plain_query id)) ≡ Some callee.body.value.body
  pub ready : callee.body.value.world ≡ world
  pub sizes : ForSome callee.sizes (λ sizes. AreSizes world callee.body.value.body.locals sizes.value)

-- so it is for each function for which something is kept
abbrev pub AreCallees : HirDatabase → List (Query × Answer) → List (FunctionId × Option Callee) → Type 0
AreCallees world answers callees = (id : FunctionId) (callee : Callee) → lookup (is_at (FunctionIdOrd.ghosts.cmp id)) callees ≡ Some (Some callee) → IsCallee world answers id callee
