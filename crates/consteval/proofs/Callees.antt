-- The body of a function that is called in what a valid definition reaches is refused for a number literal alone whose type has no layout. So where
-- a run is told that it can't be lowered, the cost that is counted up to the call isn't defined.
use Rattle.std.proofs.Common.{◌≡◌, ℕ, ◌⊎◌, ⊎_elim, inl, inr, Bool, true, false, List, [], Option, Some, None, refl, sym, ap, ◌∙◌, subst}
use Rattle.std.specs.Prelude.{not, option_map}
use Rattle.types.specs.declared.ids.DefWithBodyId.{DefWithBodyId}
use Rattle.types.specs.declared.ids.DefWithBodyId.TheVariants.{FunctionId as FunctionBody}
use Rattle.types.specs.declared.ids.FunctionId.{FunctionId}
use Rattle.types.specs.declared.ids.GenericParamId.{GenericParamId}
use Rattle.types.specs.declared.ty.GenericArgs.{GenericArgs}
use Rattle.types.specs.declared.ty.Ty.{Ty}
use Rattle.world.specs.Checked.{IsChecked, IsCheckedBody}
use Rattle.world.specs.declared.database.BodyRow.{BodyRow}
use Rattle.world.specs.declared.database.HirDatabase.{HirDatabase}
use Rattle.world.specs.declared.limits.Limits.{Limits}
use Rattle.world.specs.Lookups.{body_row}
use Rattle.mir.specs.declared.answers.Answer.{Answer}
use Rattle.mir.specs.declared.answers.Answer.TheVariants as told
use Rattle.mir.specs.declared.answers.Query.{Query}
use Rattle.mir.specs.declared.errors.ConstEvalError.{ConstEvalError}
use Rattle.mir.specs.declared.errors.ConstEvalError.TheVariants as constant
use Rattle.mir.specs.declared.errors.MirEvalError.{MirEvalError}
use Rattle.mir.specs.declared.errors.MirEvalError as error
use Rattle.mir.specs.declared.errors.MirLowerError.{MirLowerError}
use Rattle.mir.specs.declared.errors.MirLowerError.TheVariants as refusal
use Rattle.mir.specs.Run.{body_query, callee_error}
use Rattle.mir_lower.specs.Refusals.{HasDrops, RefusesParameters}
use Rattle.mir_lower.specs.Stops.{MakesCall, WasRefused, without_arguments}
use Rattle.source_meaning.proofs.Calls.{called_by_name, called_is_checked}
use Rattle.mir_lower.proofs.Stopping.{reached-world}
use Rattle.source_meaning.proofs.Defined.{cost_is_defined}
use Rattle.source_meaning.specs.Calls.{source_at, source_of as function_source}
use Rattle.source_meaning.specs.Core.{CoreExpr}
use Rattle.source_meaning.specs.Ends.{Cost}
use Rattle.source_meaning.specs.Entering.{is_cost_defined}
use Rattle.source_meaning.specs.Source.{Source}
use Rattle.source_meaning.specs.Valid.{HasPlainForm, IsPlain, IsPlainCall, Calls, Reaches, at_once, through}
use Rattle.consteval.specs.Answers.{EndsLowering}
use Rattle.consteval.specs.Built.{is_empty, is_generic_function, no_args}
use Rattle.consteval.specs.Kept.{AreRightAnswers, IsRightAnswer, Kept, program_of}
use Rattle.consteval.specs.Refusals.{RefusesBody}
use Rattle.consteval.specs.Sources.{source_of}
use Rattle.consteval.specs.Valid.{IsFitBody, IsValid}
use Rattle.consteval.proofs.Cuts.{IsUnlowered}
use Rattle.consteval.proofs.Parameters.{refuses-no-parameters}
use Rattle.consteval.proofs.Refused.{CanBeLowered, refuses-literal, sized-is-lowered}

-- what is called in what a source reaches is reached through one of the source's own calls
reached-through : {source caller : Source} → Reaches source caller → (called : Source) → Calls caller called → (first : Source) × Calls source first × Reaches first called
reached-through at_once called calls = (called, calls, at_once)
reached-through (through {called = first} before on) called calls = let rest = reached-through on called calls in (first, before, through rest.1 rest.2)

-- the source of a function is a row of its definition
row-of : (world : HirDatabase) (found : Option BodyRow) (called : Source) → option_map (source_at world) found ≡ Some called → (row : BodyRow) × (found ≡ Some row) × (source_at world row ≡ called)
row-of world (Some row) called is = (row, refl, (let same : source_at world row ≡ called = cc in same))
row-of world None called is = absurd cc

-- and that row is the one that is found for it
function-row : (world : HirDatabase) (id : FunctionId) (called : Source) → function_source world id ≡ Some called → (row : BodyRow) × (body_row world (FunctionBody id) ≡ Some row) × (source_at world row ≡ called)
unfolding function_source
function-row world id called is = row-of world (body_row world (FunctionBody id)) called is

-- a function that is found is one alone
same-function : (one other : FunctionId) → Some one ≡ Some other → one ≡ other
same-function one other h = cc

-- a call of a function in a plain body, whose own body is plain and fit
module _ (caller : Source) (e : ℕ) (callee : Option ℕ) (args : List ℕ) (ty : Ty) (call : IsPlainCall caller e callee args ty) (fit : IsFitBody call.called) (plain : IsPlain call.called) where
  -- the body that is called can be lowered
  called-can : (row : BodyRow) → body_row caller.world (FunctionBody call.id) ≡ Some row → source_at caller.world row ≡ call.called → CanBeLowered caller.world (FunctionBody call.id) no_args row
  called-can row found same =
      record {
        no_args = refl;
        built = ap is_generic_function call.found ∙ ap (λ (generics : List GenericParamId). not (is_empty generics)) call.no_generics;
        body = found;
        inferred = subst (λ (s : Source). s.infer.erroneous ≡ false) (sym same) fit.inferred;
        fitting = subst (λ (s : Source). s.infer.mismatches ≡ []) (sym same) fit.fitting;
        dropless = subst (λ (s : Source). HasDrops s → ⊥) (sym same) fit.dropless;
        plain = subst IsPlain (sym same) plain;
        parameters = λ cause. subst (λ (s : Source). RefusesParameters s cause → cause ≡ refusal.NoMemory) (sym same) (refuses-no-parameters call.called call.bound call.row.sig.params cause call.binds call.parameters_have);
      }

  -- is refused for want of memory, or for a number literal whose type has no layout
  called-refusal : (cause : MirLowerError) → IsChecked caller.world → RefusesBody caller.world (FunctionBody call.id) no_args cause → (cause ≡ refusal.NoMemory) ⊎ EndsLowering call.called cause
  called-refusal cause checked refuses =
      let row = function-row caller.world call.id call.called call.has_body in
      ⊎_elim inl (λ ends. inr (subst (λ (s : Source). EndsLowering s cause) row.2 ends))
      (refuses-literal caller.world (FunctionBody call.id) no_args row.0 (called-can row.0 row.1 row.2) cause checked refuses)

-- a cost isn't defined that is so only where that of entering a checked body is, if the body has a number literal whose type has no layout
undefined-for : (called : Source) (cause : MirLowerError) (cost : Cost) → IsCheckedBody called.body called.infer → EndsLowering called cause → (cost.defined ≡ true → is_cost_defined called ≡ true) → cost.defined ≡ false
undefined-for called cause cost checked ends counted = by cost.defined refl where
  by : (b : Bool) → cost.defined ≡ b → b ≡ false
  by true is = absurd (sized-is-lowered called cause ((cost_is_defined called checked).0 (counted is)) ends)
  by false is = refl

module _ (world : HirDatabase) (checked : IsChecked world) (def : DefWithBodyId) (args : GenericArgs) (row : BodyRow) (valid : IsValid world def args row) where
  -- the body of a function that is called in what a valid definition reaches is refused for one of the two
  reached-refusal : (caller : Source) (id : FunctionId) (e : MirLowerError) → Reaches (source_of world row) caller → MakesCall caller id → RefusesBody world (FunctionBody id) no_args e →
      (e ≡ refusal.NoMemory) ⊎ ((called : Source) × (function_source world id ≡ Some called) × IsCheckedBody called.body called.infer × EndsLowering called e)
  reached-refusal caller id e reached makes refuses =
      let caller_plain = valid.plain.each caller reached in
      let stands = caller_plain.nodes makes.e makes.evaluated in
      let call : IsPlainCall caller makes.e makes.callee makes.args stands.ty = subst (λ (form : Option CoreExpr). HasPlainForm caller makes.e form stands.ty) makes.is_call stands.form in
      let calls : Calls caller call.called =
      record { e = makes.e; evaluated = makes.evaluated; callee = makes.callee; args = makes.args; is_call = makes.is_call; enters = called_by_name caller makes.e makes.callee call.id call.called call.names call.has_body } in
      let from = reached-through reached call.called calls in
      let in_world : world ≡ caller.world = sym (reached-world reached) in
      let checked_there = subst IsChecked in_world checked in
      let same : id ≡ call.id = same-function id call.id (sym makes.names ∙ call.names) in
      ⊎_elim inl
      (λ ends. inr (
        call.called,
        ap (λ (w : HirDatabase). function_source w id) in_world ∙ ap (function_source caller.world) same ∙ call.has_body,
        called_is_checked caller makes.e makes.callee call.called checked_there calls.enters,
        ends,
      ))
      (called-refusal caller makes.e makes.callee makes.args stands.ty call (valid.called from.0 call.called from.1 from.2) (valid.plain.each call.called (through from.1 from.2)) e checked_there
      (subst (λ (called : FunctionId). RefusesBody caller.world (FunctionBody called) no_args e) same (subst (λ (w : HirDatabase). RefusesBody w (FunctionBody id) no_args e) in_world refuses)))

  module _ (kept : Kept) (same : kept.world ≡ world) (limits : Limits) (answers : List (Query × Answer)) (right : AreRightAnswers kept answers) where
    -- so a run that is told right answers, and stops at a call for a refusal, stops there for such a literal
    pub refused-as : (cost : Cost) (e : MirEvalError) → WasRefused (source_of world row) (program_of kept.world limits answers) cost e → IsUnlowered (source_of world row) cost e
    refused-as cost e was = by was.refusal (right.each (body_query (without_arguments was.id)) (told.Failed was.refusal) was.told) was.is where
      unlowered : (cause : MirLowerError) → e ≡ error.MirLowerError was.id cause → (called : Source) → function_source world was.id ≡ Some called → IsCheckedBody called.body called.infer → EndsLowering called cause → IsUnlowered (source_of world row) cost e
      unlowered cause is called found body ends =
          record {
            id = was.id;
            cause = cause;
            is = is;
            callee = record { call = was.call; called = called; found = found; ends = ends };
            undefined = undefined-for called cause cost body ends (was.counted called found);
          }

      by : (given : ConstEvalError) → IsRightAnswer kept (body_query (without_arguments was.id)) (told.Failed given) → e ≡ callee_error was.id given → IsUnlowered (source_of world row) cost e
      by (constant.MirLowerError cause) told_so is =
          ⊎_elim (λ none. absurd (told_so.0 none)) (λ ends. unlowered cause is ends.0 ends.1 ends.2 ends.3)
          (reached-refusal was.call.caller was.id cause was.call.reached was.call.makes (subst (λ (w : HirDatabase). RefusesBody w (FunctionBody was.id) no_args cause) same told_so.1))
      by _ told_so is = absurd told_so
