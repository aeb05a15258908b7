-- What is kept of functions whose bodies were told, as answers come.
use Rattle.std.proofs.Common.{◌≡◌, ◌≢◌, Bool, true, false, cond, List, [], Option, Some, None, Result, Ok, Err, refl, sym, ap, ◌∙◌, subst}
use Rattle.std.specs.Prelude.{OnErr, OnOk}
use Rattle.std.specs.Ordering.{is_eq}
use Rattle.std.specs.BTreeMap.{is_at}
use Rattle.std.specs.Map.{lookup}
use Rattle.world.specs.declared.database.HirDatabase.{HirDatabase}
use Rattle.types.specs.SameScalars.{function_same}
use Rattle.types.specs.contracts.ids.FunctionIdOrd.TheImpl as FunctionIdOrd
use Rattle.types.specs.contracts.ids.FunctionIdEq.TheImpl.Laws as equal
use Rattle.types.specs.contracts.ids.FunctionIdOrd.TheImpl.Laws as ordered
use Rattle.types.specs.declared.ids.FunctionId.{FunctionId}
use Rattle.types.specs.declared.ty.GenericArg.{GenericArg}
use Rattle.types.specs.declared.ty.GenericArgs.{GenericArgs}
use Rattle.mir.specs.Answers.{IsAfterPut, answer_to}
use Rattle.mir.specs.declared.answers.Answer.{Answer}
use Rattle.mir.specs.declared.answers.Query.{Query}
use Rattle.mir.specs.declared.body.MirBody.{MirBody}
use Rattle.mir.specs.Run.{body_query, called, called_by, calls_out, led, Calling, Frame}
use Rattle.mir.specs.Memory.{Memory, number_held}
use Rattle.mir.specs.declared.answers.Answer.TheVariants as told
use Rattle.mir_rows.specs.Callees.{AreSizes}
use Rattle.mir_rows.specs.declared.callees.Callee.{Callee}
use Rattle.std.specs.Option.{ForSome}
use Rattle.mir_rows.specs.Spots.{Prepared}
use Rattle.mir_eval.specs.Callees.{AreCallees, IsCallee, plain_query, told_body}

-- a function without generic arguments
pub plain-is : (id : FunctionId) (args : GenericArgs) → args.0 ≡ [] → body_query (id, args) ≡ plain_query id
plain-is id args none = ap (λ (given : List GenericArg). body_query (id, record { 0 = given })) none

-- the body that was told is the one that is called
pub told-is-called : (frame : Frame) (memory : Memory) (call : Calling) (callee : FunctionId × GenericArgs) (answer : Option Answer) (body : MirBody) → told_body answer ≡ Some body → called_by frame memory call callee answer ≡ led frame (calls_out frame.program.world frame.body (number_held memory frame.cells) call) (called frame memory call callee.0 body)
unfolding called_by
told-is-called frame memory call callee (Some (told.Body rc)) body is = let same : rc.value ≡ body = cc in ap (λ (b : MirBody). led frame (calls_out frame.program.world frame.body (number_held memory frame.cells) call) (called frame memory call callee.0 b)) same
told-is-called frame memory call callee (Some (told.Konst konst)) body is = absurd cc
told-is-called frame memory call callee (Some (told.Discriminant number)) body is = absurd cc
told-is-called frame memory call callee (Some (told.Failed e)) body is = absurd cc
told-is-called frame memory call callee None body is = absurd cc

-- the query is another function's where the function is another
other-query : (one other : FunctionId) → one ≢ other → plain_query one ≢ plain_query other
other-query one other apart is = let same : one ≡ other = cc in apart same

-- functions that are found equal are one
same-function : (one other : FunctionId) → is_eq (FunctionIdOrd.ghosts.cmp one other) ≡ true → one ≡ other
same-function one other is = function_same one other (ordered.matches_eq-law one other ∙ is)

-- what is kept of each function after something was kept of one of them
abbrev pub IsUpdated : List (FunctionId × Option Callee) → List (FunctionId × Option Callee) → FunctionId → Option Callee → Type 0
IsUpdated before after id callee = (other : FunctionId) → lookup (is_at (FunctionIdOrd.ghosts.cmp other)) after ≡ cond (is_eq (FunctionIdOrd.ghosts.cmp id other)) (Some callee) (lookup (is_at (FunctionIdOrd.ghosts.cmp other)) before)

module _ (world : HirDatabase) (before after : List (FunctionId × Option Callee)) (id : FunctionId) (kept : Option Callee) (updated : IsUpdated before after id kept) where
  -- what is found is what was kept just now, or before
  found : (answers : List (Query × Answer)) (other : FunctionId) (callee : Callee) → AreCallees world answers before → ((c : Callee) → kept ≡ Some c → IsCallee world answers id c) →
      (equal : Bool) → is_eq (FunctionIdOrd.ghosts.cmp id other) ≡ equal → cond equal (Some kept) (lookup (is_at (FunctionIdOrd.ghosts.cmp other)) before) ≡ Some (Some callee) → IsCallee world answers other callee
  found answers other callee are own true is there =
      let now : kept ≡ Some callee = cc in
      subst (λ (f : FunctionId). IsCallee world answers f callee) (same-function id other is) (own callee now)
  found answers other callee are own false is there = are other callee there

  -- all that is kept is right where it was, and what is kept just now is
  pub keeps : (answers : List (Query × Answer)) → AreCallees world answers before → ((c : Callee) → kept ≡ Some c → IsCallee world answers id c) → AreCallees world answers after
  keeps answers are own other callee there = found answers other callee are own (is_eq (FunctionIdOrd.ghosts.cmp id other)) refl (sym (updated other) ∙ there)

-- where nothing is kept of a function, an answer to its query changes nothing of what is kept
pub other-answer : (world : HirDatabase) (callees : List (FunctionId × Option Callee)) (before after : List (Query × Answer)) (q : Query) (a : Answer) → IsAfterPut before after q a →
    ((id : FunctionId) (callee : Callee) → lookup (is_at (FunctionIdOrd.ghosts.cmp id)) callees ≡ Some (Some callee) → plain_query id ≢ q) → AreCallees world before callees → AreCallees world after callees
other-answer world callees before after q a put apart are id callee there =
    let was = are id callee there in
    record { told = ap told_body (put.others (plain_query id) (apart id callee there)) ∙ was.told; ready = was.ready; sizes = was.sizes }

-- nothing is kept of a function of which nothing was kept just now
pub nothing-kept : (before after : List (FunctionId × Option Callee)) (id : FunctionId) → IsUpdated before after id None → (q : Query) → q ≡ plain_query id → (other : FunctionId) (callee : Callee) → lookup (is_at (FunctionIdOrd.ghosts.cmp other)) after ≡ Some (Some callee) → plain_query other ≢ q
nothing-kept before after id updated q is other callee there same = by (is_eq (FunctionIdOrd.ghosts.cmp id other)) refl (sym (updated other) ∙ there) where
  by : (equal : Bool) → is_eq (FunctionIdOrd.ghosts.cmp id other) ≡ equal → cond equal (Some None) (lookup (is_at (FunctionIdOrd.ghosts.cmp other)) before) ≡ Some (Some callee) → ⊥
  by true one found = absurd cc
  by false one found =
      let own : other ≡ id = (let queries : plain_query other ≡ plain_query id = same ∙ is in cc) in
      absurd (let one-more : is_eq (FunctionIdOrd.ghosts.cmp id other) ≡ true = subst (λ (f : FunctionId). is_eq (FunctionIdOrd.ghosts.cmp id f) ≡ true) (sym own) (sym (ordered.matches_eq-law id id) ∙ equal.laws-law.refl id) in cc)

-- what is kept of a function without generic arguments, shared once more
pub shared-told : (world : HirDatabase) (answers : List (Query × Answer)) (callees : List (FunctionId × Option Callee)) → AreCallees world answers callees → (id : FunctionId) (args : GenericArgs) → args.0 ≡ [] → (callee shared : Callee) →
    lookup (is_at (FunctionIdOrd.ghosts.cmp id)) callees ≡ Some (Some callee) → shared.body.value ≡ callee.body.value → told_body (answer_to answers (body_query (id, args))) ≡ Some shared.body.value.body
shared-told world answers callees are id args none callee shared there same =
    ap (λ (q : Query). told_body (answer_to answers q)) (plain-is id args none) ∙ (are id callee there).told ∙ ap (λ (code : Prepared). Some code.body) (sym same)

-- what is kept after something was to be kept of a function, for which there may have been no memory
pub after-insert : {R E : Type 0} (U : Type 0) (result : Result R E) (world : HirDatabase) (answers : List (Query × Answer)) (before after : List (FunctionId × Option Callee)) (id : FunctionId) (kept : Option Callee) →
    OnOk result U → (U → IsUpdated before after id kept) → OnErr result (after ≡ before) → AreCallees world answers before → ((c : Callee) → kept ≡ Some c → IsCallee world answers id c) → AreCallees world answers after
after-insert U (Ok done) world answers before after id kept updated is same are own = keeps world before after id kept (is updated) answers are own
after-insert U (Err e) world answers before after id kept updated is same are own = subst (AreCallees world answers) (sym same) are

-- what was told just now
pub told-now : (world : HirDatabase) (before after : List (Query × Answer)) (q : Query) (answer : Answer) → IsAfterPut before after q answer → (id : FunctionId) → q ≡ plain_query id → (callee : Callee) →
    told_body (Some answer) ≡ Some callee.body.value.body → callee.body.value.world ≡ world → ForSome callee.sizes (λ sizes. AreSizes world callee.body.value.body.locals sizes.value) → IsCallee world after id callee
told-now world before after q answer put id is callee told ready sizes =
    record { told = ap told_body (ap (answer_to after) (sym is) ∙ put.answered) ∙ told; ready = ready; sizes = sizes }
