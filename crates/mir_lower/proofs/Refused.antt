-- The causes of refusals, carried upwards, and what is known of an expression's parts.
use Rattle.std.proofs.Common.{◌≡◌, ℕ, ◌<◌, Bool, true, false, Contains, Option, Some, None, Result, refl, sym, ap, ◌∙◌, subst, ⊎_elim, ◌⊎◌, List, [], ◌∷◌, map}
use Rattle.std.specs.Prelude.{codes, IfErr, IsErrAnd, flat_map, if◌then◌else◌}
use Rattle.std.proofs.lemmas.Result.{err_from_is_err_and}
use Rattle.source_meaning.specs.Core as expr
use Rattle.source_meaning.specs.Core.{ByPattern, CoreExpr}
use Rattle.world.specs.declared.body.Statement.{Statement}
use Rattle.world.specs.declared.body.Statement.TheVariants as statement
use Rattle.types.specs.declared.ids.ExprId.{ExprId}
use Rattle.types.specs.declared.ids.PatId.{PatId}
use Rattle.mir.specs.declared.errors.MirLowerError.{MirLowerError}
use Rattle.mir.specs.declared.errors.MirLowerError.TheVariants as refusal
use Rattle.source_meaning.specs.Source.{Source, node, root}
use Rattle.source_meaning.specs.Steps.{parts_of, statement_parts}
use Rattle.source_meaning.specs.Valid.{itself, part, EvaluatesIn}
use Rattle.source_meaning.proofs.Core.{part_is_below}
use Rattle.body_forms.specs.declared.form.Form.TheVariants as form
use Rattle.body_forms.specs.Form.{HasForm}
use Rattle.mir_graph.specs.Graph.{Shape, OpenTarget, meant_target, opened_of}
use Rattle.mir_lower.specs.Growth.{IsReady, IsAround}
use Rattle.mir_lower.specs.Lowered.{IsStatementOf, HasStatements}
use Rattle.mir_lower.specs.Refusals.{RefusesPattern, RefusesTarget, RefusesAt}
use Rattle.body_forms.specs.Refusals.{IsUnbuiltStatement, IsUnbuilt, LacksLocal, IsUnresolved, RefusesNode, StandsFree, JumpsTo, LetBindsNone}
use Rattle.world.specs.Checked.{IsCheckedBody}
use Rattle.types.specs.declared.ids.LabelId.{LabelId}
use Rattle.source_meaning.specs.Around.{Opened, is_meant, meant}
use Rattle.mir_lower.specs.Jumps.{without_target}
use Rattle.source_meaning.proofs.Parts.{among, block_parts}
use Rattle.world.specs.Nodes.{optional}
use Rattle.std.proofs.lemmas.List.Elements.{Contains-append_left}

pub refuses-here : (source : Source) (e : ℕ) (error : MirLowerError) → RefusesNode source e error → RefusesAt source e error
refuses-here source e error h = (e, itself, h)

pub refuses-no-memory : (source : Source) (e : ℕ) (error : MirLowerError) → error ≡ refusal.NoMemory → RefusesAt source e error
refuses-no-memory source e error h = refuses-here source e error (subst (RefusesNode source e) (sym h) tt)

pub refuses-part : (source : Source) (e child : ℕ) (error : MirLowerError) → Contains (parts_of (node source e)) child → RefusesAt source child error → RefusesAt source e error
refuses-part source e child error is h = (h.0, part is h.1, h.2)

-- the refusal of an unbuilt form, or want of memory for its text
pub refuses-unbuilt : (source : Source) (e : ℕ) (error : MirLowerError) → IsUnbuilt source e (node source e) → (error ≡ refusal.NotSupported (codes "form not built")) ⊎ (error ≡ refusal.NoMemory) → RefusesAt source e error
refuses-unbuilt source e error unbuilt cases =
    ⊎_elim (λ text. refuses-here source e error (subst (RefusesNode source e) (sym text) (refl, unbuilt))) (refuses-no-memory source e error) cases

pub refuses-unbuilt-form : (source : Source) (e : ℕ) (error : MirLowerError) → HasForm source e form.Unbuilt → (error ≡ refusal.NotSupported (codes "form not built")) ⊎ (error ≡ refusal.NoMemory) → RefusesAt source e error
refuses-unbuilt-form source e error has cases = refuses-unbuilt source e error (subst (IsUnbuilt source e) (sym has.core) has.cause) cases

-- a block that has a statement that isn't built, or that binds a binding that the body lacks
unbuilt-statement : (source : Source) (e : ℕ) (st : Statement) (form : Option CoreExpr) (statements : List Statement) → HasStatements form statements → Contains statements st → IsUnbuiltStatement source st → IsUnbuilt source e form
unbuilt-statement source e st (Some (expr.Block own tail)) statements same within unbuilt = (st, subst (λ (s : List Statement). Contains s st) (sym same) within, unbuilt)
unbuilt-statement source e st (Some (expr.Labelled label own tail)) statements same within unbuilt = (st, subst (λ (s : List Statement). Contains s st) (sym same) within, unbuilt)
unbuilt-statement source e st (Some (expr.Literal l)) statements same within unbuilt = absurd same
unbuilt-statement source e st (Some (expr.Path name)) statements same within unbuilt = absurd same
unbuilt-statement source e st (Some expr.UnitStruct) statements same within unbuilt = absurd same
unbuilt-statement source e st (Some (expr.Update base id args sources operands)) statements same within unbuilt = absurd same
unbuilt-statement source e st (Some (expr.Field base elem)) statements same within unbuilt = absurd same
unbuilt-statement source e st (Some (expr.Strict operation operands)) statements same within unbuilt = absurd same
unbuilt-statement source e st (Some (expr.Logic op left right)) statements same within unbuilt = absurd same
unbuilt-statement source e st (Some (expr.If condition then_branch else_branch)) statements same within unbuilt = absurd same
unbuilt-statement source e st (Some (expr.Assign assigned value)) statements same within unbuilt = absurd same
unbuilt-statement source e st (Some (expr.Compound op assigned value)) statements same within unbuilt = absurd same
unbuilt-statement source e st (Some (expr.Loop label body)) statements same within unbuilt = absurd same
unbuilt-statement source e st (Some (expr.Break label value)) statements same within unbuilt = absurd same
unbuilt-statement source e st (Some (expr.Continue label)) statements same within unbuilt = absurd same
unbuilt-statement source e st (Some (expr.Return value)) statements same within unbuilt = absurd same
unbuilt-statement source e st (Some (expr.Call callee args)) statements same within unbuilt = absurd same
unbuilt-statement source e st None statements same within unbuilt = absurd same

lacking-statement : (source : Source) (e : ℕ) (st : Statement) (form : Option CoreExpr) (statements : List Statement) → HasStatements form statements → Contains statements st → LetBindsNone source st → LacksLocal source e form
lacking-statement source e st (Some (expr.Block own tail)) statements same within lacks = (st, subst (λ (s : List Statement). Contains s st) (sym same) within, lacks)
lacking-statement source e st (Some (expr.Labelled label own tail)) statements same within lacks = (st, subst (λ (s : List Statement). Contains s st) (sym same) within, lacks)
lacking-statement source e st (Some (expr.Literal l)) statements same within lacks = absurd same
lacking-statement source e st (Some (expr.Path name)) statements same within lacks = absurd same
lacking-statement source e st (Some expr.UnitStruct) statements same within lacks = absurd same
lacking-statement source e st (Some (expr.Update base id args sources operands)) statements same within lacks = absurd same
lacking-statement source e st (Some (expr.Field base elem)) statements same within lacks = absurd same
lacking-statement source e st (Some (expr.Strict operation operands)) statements same within lacks = absurd same
lacking-statement source e st (Some (expr.Logic op left right)) statements same within lacks = absurd same
lacking-statement source e st (Some (expr.If condition then_branch else_branch)) statements same within lacks = absurd same
lacking-statement source e st (Some (expr.Assign assigned value)) statements same within lacks = absurd same
lacking-statement source e st (Some (expr.Compound op assigned value)) statements same within lacks = absurd same
lacking-statement source e st (Some (expr.Loop label body)) statements same within lacks = absurd same
lacking-statement source e st (Some (expr.Break label value)) statements same within lacks = absurd same
lacking-statement source e st (Some (expr.Continue label)) statements same within lacks = absurd same
lacking-statement source e st (Some (expr.Return value)) statements same within lacks = absurd same
lacking-statement source e st (Some (expr.Call callee args)) statements same within lacks = absurd same
lacking-statement source e st None statements same within lacks = absurd same

-- the refusal of a statement that isn't built
pub refuses-statement : (source : Source) (e : ℕ) (error : MirLowerError) (st : Statement) → IsStatementOf source e st → IsUnbuiltStatement source st → (error ≡ refusal.NotSupported (codes "form not built")) ⊎ (error ≡ refusal.NoMemory) → RefusesAt source e error
refuses-statement source e error st stands unbuilt cases =
    refuses-unbuilt source e error (unbuilt-statement source e st (node source e) stands.statements stands.form stands.within unbuilt) cases

-- a `let` without an initializer, and one with `else`
pub without-initializer : (source : Source) (st : Statement) (pat : PatId) (init other : Option ExprId) → st ≡ statement.Let pat init other → init ≡ None → IsUnbuiltStatement source st
without-initializer source st pat init other is none = subst (IsUnbuiltStatement source) (sym (is ∙ ap (λ (i : Option ExprId). statement.Let pat i other) none)) (by-else other) where
  by-else : (o : Option ExprId) → IsUnbuiltStatement source (statement.Let pat None o)
  by-else None = tt
  by-else (Some e) = tt

pub with-else : (source : Source) (st : Statement) (pat : PatId) (init other : Option ExprId) (e : ExprId) → st ≡ statement.Let pat init other → other ≡ Some e → IsUnbuiltStatement source st
with-else source st pat init other e is some = subst (IsUnbuiltStatement source) (sym (is ∙ ap (statement.Let pat init) some)) (by-initializer init) where
  by-initializer : (i : Option ExprId) → IsUnbuiltStatement source (statement.Let pat i (Some e))
  by-initializer None = tt
  by-initializer (Some i) = tt

-- an item isn't built
pub item-is-unbuilt : (source : Source) (st : Statement) → st ≡ statement.Item → IsUnbuiltStatement source st
item-is-unbuilt source st is = subst (IsUnbuiltStatement source) (sym is) tt

-- the refusal of the pattern of a `let` with an initializer
pub refuses-pattern : (source : Source) (e : ℕ) (error : MirLowerError) (pat : _) (init : _) → IsStatementOf source e (statement.Let pat (Some init) None) → RefusesPattern source pat.0 error → RefusesAt source e error
refuses-pattern source e (refusal.NotSupported text) pat init stands refuses =
    refuses-here source e (refusal.NotSupported text) (refuses.0, unbuilt-statement source e (statement.Let pat (Some init) None) (node source e) stands.statements stands.form stands.within refuses.1)
refuses-pattern source e refusal.InaccessibleLocal pat init stands refuses =
    refuses-here source e refusal.InaccessibleLocal (lacking-statement source e (statement.Let pat (Some init) None) (node source e) stands.statements stands.form stands.within refuses)
refuses-pattern source e refusal.NoMemory pat init stands refuses = refuses-no-memory source e refusal.NoMemory refl
refuses-pattern source e (refusal.LayoutError l) pat init stands refuses = absurd refuses
refuses-pattern source e refusal.IncompleteExpr pat init stands refuses = absurd refuses
refuses-pattern source e (refusal.UnresolvedName name) pat init stands refuses = absurd refuses
refuses-pattern source e refusal.HasErrors pat init stands refuses = absurd refuses
refuses-pattern source e refusal.ContinueWithoutLoop pat init stands refuses = absurd refuses
refuses-pattern source e refusal.BreakWithoutLoop pat init stands refuses = absurd refuses
refuses-pattern source e refusal.UnresolvedLabel pat init stands refuses = absurd refuses
refuses-pattern source e (refusal.TypeError text) pat init stands refuses = absurd refuses

-- the refusal of the target of an assignment that is a path
pub refuses-target : (source : Source) (e : ℕ) (error : MirLowerError) (pat value : ℕ) → node source e ≡ Some (expr.Assign (ByPattern pat) value) → RefusesTarget source pat error → RefusesAt source e error
refuses-target source e (refusal.NotSupported text) pat value form refuses =
    refuses-here source e (refusal.NotSupported text) (refuses.0, subst (IsUnbuilt source e) (sym form) refuses.1)
refuses-target source e (refusal.UnresolvedName name) pat value form refuses =
    refuses-here source e (refusal.UnresolvedName name) (subst (λ n. IsUnresolved source e n name) (sym form) refuses)
refuses-target source e refusal.InaccessibleLocal pat value form refuses =
    refuses-here source e refusal.InaccessibleLocal (subst (LacksLocal source e) (sym form) refuses)
refuses-target source e refusal.NoMemory pat value form refuses = refuses-no-memory source e refusal.NoMemory refl
refuses-target source e (refusal.LayoutError l) pat value form refuses = absurd refuses
refuses-target source e refusal.IncompleteExpr pat value form refuses = absurd refuses
refuses-target source e refusal.HasErrors pat value form refuses = absurd refuses
refuses-target source e refusal.ContinueWithoutLoop pat value form refuses = absurd refuses
refuses-target source e refusal.BreakWithoutLoop pat value form refuses = absurd refuses
refuses-target source e refusal.UnresolvedLabel pat value form refuses = absurd refuses
refuses-target source e (refusal.TypeError text) pat value form refuses = absurd refuses

-- what a `?` returns is what refused
pub refused-exit : {T : Type 0} (P Q : MirLowerError → Type 0) (r : Result T MirLowerError) → IsErrAnd r Q → ((error : MirLowerError) → Q error → P error) → IfErr r P
refused-exit P Q r returned carries =
    let p = err_from_is_err_and r returned in
    subst (λ (s : Result _ MirLowerError). IfErr s P) (sym p.1) (carries p.0 p.2)

-- a part has a lower number
pub part-below : (source : Source) (e child : ℕ) → IsCheckedBody source.body source.infer → Contains (parts_of (node source e)) child → child < e
part-below source e child checked is = part_is_below source checked e child is

-- what a statement evaluates is a part of its block
part-of-block : (source : Source) (st : Statement) (child : ℕ) (form : Option CoreExpr) (statements : List Statement) → HasStatements form statements → Contains statements st → Contains (statement_parts st) child → Contains (parts_of form) child
part-of-block source st child (Some (expr.Block own tail)) statements same within is =
    subst (λ (parts : List ℕ). Contains parts child) (sym (block_parts own tail))
    (Contains-append_left (flat_map statement_parts own) (optional tail) child (among statement_parts own st child (subst (λ (s : List Statement). Contains s st) (sym same) within) is))
part-of-block source st child (Some (expr.Labelled label own tail)) statements same within is =
    subst (λ (parts : List ℕ). Contains parts child) (sym (block_parts own tail))
    (Contains-append_left (flat_map statement_parts own) (optional tail) child (among statement_parts own st child (subst (λ (s : List Statement). Contains s st) (sym same) within) is))
part-of-block source st child (Some (expr.Literal l)) statements same within is = absurd same
part-of-block source st child (Some (expr.Path name)) statements same within is = absurd same
part-of-block source st child (Some expr.UnitStruct) statements same within is = absurd same
part-of-block source st child (Some (expr.Update base id args sources operands)) statements same within is = absurd same
part-of-block source st child (Some (expr.Field base elem)) statements same within is = absurd same
part-of-block source st child (Some (expr.Strict operation operands)) statements same within is = absurd same
part-of-block source st child (Some (expr.Logic op left right)) statements same within is = absurd same
part-of-block source st child (Some (expr.If condition then_branch else_branch)) statements same within is = absurd same
part-of-block source st child (Some (expr.Assign assigned value)) statements same within is = absurd same
part-of-block source st child (Some (expr.Compound op assigned value)) statements same within is = absurd same
part-of-block source st child (Some (expr.Loop label body)) statements same within is = absurd same
part-of-block source st child (Some (expr.Break label value)) statements same within is = absurd same
part-of-block source st child (Some (expr.Continue label)) statements same within is = absurd same
part-of-block source st child (Some (expr.Return value)) statements same within is = absurd same
part-of-block source st child (Some (expr.Call callee args)) statements same within is = absurd same
part-of-block source st child None statements same within is = absurd same

pub part-of-statement : (source : Source) (e : ℕ) (st : Statement) (child : ℕ) → IsStatementOf source e st → Contains (statement_parts st) child → Contains (parts_of (node source e)) child
part-of-statement source e st child stands is = part-of-block source st child (node source e) stands.statements stands.form stands.within is

-- the refusal of a jump without a target
free-of : (targets : List OpenTarget) → meant_target None targets ≡ None → map (λ target. target.opened) targets ≡ []
unfolding meant_target
free-of [] none = refl
free-of (target ∷ outer) none = absurd cc

unmeant : (label : Option LabelId) (targets : List OpenTarget) → meant_target label targets ≡ None → meant label (map (λ target. target.opened) targets) ≡ None
unfolding meant_target meant
unmeant label [] none = refl
unmeant label (target ∷ outer) none = by-test (is_meant label target.opened) (unmeant label outer) none where
  by-test : (test : Bool) → (meant_target label outer ≡ None → meant label (map (λ other. other.opened) outer) ≡ None) → if test then Some target else meant_target label outer ≡ None → if test then Some target.opened else meant label (map (λ other. other.opened) outer) ≡ None
  by-test true rest none = absurd cc
  by-test false rest none = rest none

stands-free : (source : Source) (s : Shape) (e : ℕ) → IsAround source s e → meant_target None s.targets ≡ None → StandsFree source e
stands-free source s e around none = subst (λ (outer : List Opened). EvaluatesIn source [] (root source) outer e) (free-of s.targets none) around.stands

pub refuses-break : (source : Source) (s : Shape) (e : ℕ) (label : Option LabelId) (value : Option ExprId) → IsReady source s e → node source e ≡ Some (expr.Break label value) → meant_target label s.targets ≡ None → RefusesAt source e (without_target label refusal.BreakWithoutLoop)
refuses-break source s e None value ready form none = refuses-here source e refusal.BreakWithoutLoop (value, form, stands-free source s e ready.around none)
refuses-break source s e (Some label) value ready form none =
    refuses-here source e refusal.UnresolvedLabel (label, subst (JumpsTo label) (sym form) refl, (opened_of s, ready.around.stands, unmeant (Some label) s.targets none))

pub refuses-continue : (source : Source) (s : Shape) (e : ℕ) (label : Option LabelId) → IsReady source s e → node source e ≡ Some (expr.Continue label) → meant_target label s.targets ≡ None → RefusesAt source e (without_target label refusal.ContinueWithoutLoop)
refuses-continue source s e None ready form none = refuses-here source e refusal.ContinueWithoutLoop (form, stands-free source s e ready.around none)
refuses-continue source s e (Some label) ready form none =
    refuses-here source e refusal.UnresolvedLabel (label, subst (JumpsTo label) (sym form) refl, (opened_of s, ready.around.stands, unmeant (Some label) s.targets none))
