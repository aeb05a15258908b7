-- The rows of a definition's body, as look-ups give them.
use Rattle.std.proofs.Common.{◌≡◌, Bool, true, false, List, [], ◌∷◌, ◌⊎◌, ⊎_elim, inr, Option, Some, None, Result, Ok, Err, refl, sym, ap, ◌∙◌, subst}
use Rattle.std.specs.Prelude.{◌≢◌, ◌||◌, IsTrue, IfOk, OnOk, not, option_map}
use Rattle.world.specs.declared.body.Body.{Body}
use Rattle.world.specs.declared.database.BodyRow.{BodyRow}
use Rattle.world.specs.declared.database.HirDatabase.{HirDatabase}
use Rattle.types.specs.declared.ids.DefWithBodyId.{DefWithBodyId}
use Rattle.types.specs.declared.ids.ExprId.{ExprId}
use Rattle.types.specs.declared.ty.GenericArgs.{GenericArgs}
use Rattle.mir.specs.declared.body.MirBody.{MirBody}
use Rattle.mir.specs.declared.errors.MirLowerError.{MirLowerError}
use Rattle.mir.specs.declared.errors.MirLowerError.TheVariants as refusal
use Rattle.mir_lower.specs.Built.{IsBuilt}
use Rattle.mir_lower.specs.Order.{AreInOrder}
use Rattle.mir_lower.specs.Refusals.{Refuses, RefusesInferred, needs_drops}
use Rattle.mir_lower.specs.Simulates.{Simulates}
use Rattle.source_meaning.specs.Source.{Source, monomorphic, root}
use Rattle.consteval.specs.Refusals.{RefusesBody}
use Rattle.consteval.specs.Built.{is_empty, is_erroneous, is_unbuilt, is_unbuilt_definition, has_errors}
use Rattle.consteval.specs.Kept.{IsLowered}
use Rattle.consteval.specs.Sources.{source_of}
use Rattle.world.specs.declared.infer.InferenceResult.{InferenceResult}
use Rattle.world.specs.Lookups.{body_row}
use Rattle.world.specs.Checked.{IsChecked, IsCheckedBody}
use Rattle.consteval.proofs.Headline.{checked-body}

-- the row that a body and what inference found of it stand in
pub record RowOf (found : Option BodyRow) (body : Body) (infer : InferenceResult) : Type 0 where
  pub row : BodyRow
  pub there : found ≡ Some row
  pub is : row ≡ record { body = body; infer = infer }

pub row-of : (found : Option BodyRow) (body : Body) (infer : InferenceResult) → Some body ≡ option_map (λ row. row.body) found → Some infer ≡ option_map (λ row. row.infer) found → RowOf found body infer
row-of (Some row) body infer b i =
    let same : body ≡ row.body = cc in
    let other : infer ≡ row.infer = cc in
    record { row = row; there = refl; is = ap (λ (x : Body). record { body = x; infer = row.infer }) (sym same) ∙ ap (λ (x : InferenceResult). record { body = body; infer = x }) (sym other) }
row-of None body infer b i = absurd cc

module _ (world : HirDatabase) (def : DefWithBodyId) (body : Body) (infer : InferenceResult) (row : RowOf (body_row world def) body infer) where
  pub row-checked : IsChecked world → IsCheckedBody body infer
  row-checked checked = subst (λ (r : BodyRow). IsCheckedBody r.body r.infer) row.is (checked-body world def row.row checked row.there)

  abbrev Of : Source
  Of = monomorphic world body infer

  -- what lowering makes of the body is lowered from its row, where the definition is built and has no typing error
  pub row-lowers : (result : Result MirBody MirLowerError) → is_erroneous world def ≡ false → is_unbuilt_definition world def ≡ false →
      IfOk result (Simulates Of) → IfOk result (λ lowered. AreInOrder Of lowered.locals) → IfOk result (λ lowered. lowered.owner ≡ def) → IfOk result (λ lowered. needs_drops Of lowered.locals ≡ false) → OnOk result (IsBuilt Of body.body_expr.0) →
      IfOk result (IsLowered world def)
  row-lowers (Ok lowered) no_errors built simulates order owner dropless forms =
      record {
        no_errors = no_errors;
        built = built;
        row = row.row;
        found = row.there;
        forms = subst (λ (r : BodyRow). IsBuilt (source_of world r) (root (source_of world r))) (sym row.is) forms;
        dropless = subst (λ (r : BodyRow). needs_drops (source_of world r) lowered.locals ≡ false) (sym row.is) dropless;
        order = subst (λ (r : BodyRow). AreInOrder (source_of world r) lowered.locals) (sym row.is) order;
        owner = owner;
        simulates = subst (λ (r : BodyRow). Simulates (source_of world r) lowered) (sym row.is) simulates;
      }
  row-lowers (Err e) no_errors built simulates order owner dropless forms = tt

-- where inference met no error there is no typing error
no-typing-errors : (erroneous : Bool) (mismatches : List ExprId) → (erroneous || not (is_empty mismatches)) ≡ false → IsTrue erroneous ⊎ (mismatches ≢ []) → ⊥
no-typing-errors true mismatches none errors = absurd cc
no-typing-errors false [] none errors = ⊎_elim (λ erroneous. absurd cc) (λ some. some refl) errors
no-typing-errors false (e ∷ rest) none errors = absurd cc

-- a body without typing errors is refused for what its lowering refuses
pub lowering-refuses : (world : HirDatabase) (def : DefWithBodyId) (args : GenericArgs) (row : BodyRow) (body : Body) (infer : InferenceResult) (e : MirLowerError) → row ≡ record { body = body; infer = infer } → body_row world def ≡ Some row → is_erroneous world def ≡ false → is_unbuilt world def args ≡ false → Refuses (monomorphic world body infer) e → (e ≡ refusal.NoMemory) ⊎ RefusesBody world def args e
lowering-refuses world def args row body infer e is found erroneous built refuses =
    let there : is_erroneous world def ≡ has_errors (Some infer) =
    ap (λ (r : Option BodyRow). has_errors (option_map (λ row. row.infer) r)) found ∙ ap (λ (r : BodyRow). has_errors (Some r.infer)) is in
    let none : has_errors (Some infer) ≡ false = sym there ∙ erroneous in
    ⊎_elim (λ errors. absurd (no-typing-errors infer.erroneous infer.mismatches none errors.1))
    (λ inferred. inr (inr (inr (inr (record {
      no_errors = erroneous;
      built = built;
      row = row;
      found = found;
      refuses = subst (λ (r : BodyRow). RefusesInferred (source_of world r) e) (sym is) inferred;
    })))))
    refuses
