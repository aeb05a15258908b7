-- What is kept serves a run: each body that the run is told for a function does what the function's source means.
use Rattle.std.proofs.Common.{◌≡◌, ℕ, zero, suc, ◌<◌, List, Some, refl, sym, ap, ◌∙◌, subst, arith}
use Rattle.std.specs.Prelude.{option_map}
use Rattle.types.specs.declared.ids.DefWithBodyId.TheVariants.{FunctionId as FunctionBody}
use Rattle.types.specs.declared.ids.FunctionId.{FunctionId}
use Rattle.world.specs.Checked.{IsChecked}
use Rattle.world.specs.declared.limits.Limits.{Limits}
use Rattle.mir.specs.Answers.{answer_to}
use Rattle.mir.specs.declared.answers.Answer.{Answer}
use Rattle.mir.specs.declared.answers.Answer.TheVariants as told
use Rattle.mir.specs.declared.answers.Query.{Query}
use Rattle.mir.specs.declared.body.MirBody.{MirBody}
use Rattle.mir.specs.Run.{Program, body_query}
use Rattle.mir_lower.specs.Callees.{DoesBelow, Serves}
use Rattle.mir_lower.specs.Simulates.{Simulates}
use Rattle.mir_lower.specs.Stops.{without_arguments}
use Rattle.source_meaning.specs.Calls.{source_at, source_of}
use Rattle.source_meaning.specs.Source.{Source}
use Rattle.consteval.specs.Kept.{AreRightAnswers, IsLowered, IsSound, Kept, program_of}
use Rattle.consteval.proofs.Keeping.{kept-body-lowered}

-- a body that simulates a source does below an amount of fuel what the source means, where a run that goes by the program is served at less
does-below : (fuel : ℕ) (program : Program) (source : Source) (body : MirBody) → Simulates source body → ((less : ℕ) → less < fuel → Serves less source program) → DoesBelow fuel program source body
does-below fuel program source body simulates serves =
    record {
      allotted = simulates.allotted;
      result = simulates.result;
      own = simulates.own;
      typed = simulates.typed;
      params = simulates.params;
      counted = record { cells = λ l local there. (let cell = simulates.cells l local there in (cell.0, cell.1, cell.2)); room = simulates.room };
      laid_out = simulates.laid_out;
      does = λ less below store frame memory goes_by is_body apart represents.
          simulates.does less store frame memory is_body (subst (Serves less source) (sym goes_by) (serves less below)) apart represents;
    }

same-source : (one other : Source) → Some one ≡ Some other → one ≡ other
same-source one other h = cc

module _ (kept : Kept) (sound : IsSound kept) (checked : IsChecked kept.world) (limits : Limits) (answers : List (Query × Answer)) (right : AreRightAnswers kept answers) where
  abbrev GoesBy : Program
  GoesBy = program_of kept.world limits answers

  -- a body that is told for a function is kept, and was lowered from the function's row
  told-simulates : (id : FunctionId) (called : Source) (body : _) → source_of kept.world id ≡ Some called →
      answer_to answers (body_query (without_arguments id)) ≡ Some (told.Body body) → Simulates called body.value × (called.world ≡ kept.world)
  unfolding source_of
  told-simulates id called body is_source is_told =
      let answer = right.each (body_query (without_arguments id)) (told.Body body) is_told in
      let lowered : IsLowered kept.world (FunctionBody id) body.value = kept-body-lowered kept sound (FunctionBody id) body.value answer.1 in
      let same : source_at kept.world lowered.row ≡ called = same-source _ _ (sym (ap (option_map (source_at kept.world)) lowered.found) ∙ is_source) in
      (subst (λ (s : Source). Simulates s body.value) same lowered.simulates, subst (λ (s : Source). s.world ≡ kept.world) same refl)

  -- it serves at an amount of fuel where it serves at each lesser one
  serves-with : (fuel : ℕ) (source : Source) → source.world ≡ kept.world →
      ((less : ℕ) → less < fuel → (called : Source) → called.world ≡ kept.world → Serves less called GoesBy) → Serves fuel source GoesBy
  serves-with fuel source same lesser =
      record {
        world = sym same;
        checked = subst IsChecked (sym same) checked;
        bodies = λ id called body is_source is_told.
            let lowered = told-simulates id called body (subst (λ world. source_of world id ≡ Some called) same is_source) is_told in
            does-below fuel GoesBy called body.value lowered.0 (λ less below. lesser less below called lowered.1);
      }

  serves-below : (bound fuel : ℕ) → fuel < bound → (source : Source) → source.world ≡ kept.world → Serves fuel source GoesBy
  serves-below zero fuel below source same = absurd (omega arith)
  serves-below (suc bound) fuel below source same =
      serves-with fuel source same (λ less less_below called same_called. serves-below bound less (omega arith) called same_called)

  -- at each amount of fuel, each source of the kept world is served
  pub serves : (fuel : ℕ) (source : Source) → source.world ≡ kept.world → Serves fuel source GoesBy
  serves fuel source same = serves-below (suc fuel) fuel (omega arith) source same
