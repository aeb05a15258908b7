-- A turn adds the type at its place.
use Rattle.std.proofs.Common.{Bool, true, cond, take, sym, ap, ◌∙◌}
use Rattle.std.proofs.lemmas.List.Folds.{list_any_more}
use Rattle.std.specs.BTreeSet.{contains}
use Rattle.std.specs.List.{list_any}
use Rattle.std.specs.Ordering.{is_eq}
use Rattle.std.specs.Prelude.{◌||◌}
use Rattle.types.specs.Orders.{ty_cmp, ty_eq}
use Rattle.types.specs.declared.ty.Ty.{Ty}
use Rattle.body_forms.proofs.Copies.{one-more}
use Rattle.body_forms.proofs.inferred.copy_types.Goals as goal

pub loop-ty-preserved : goal.loop-ty-preserved
loop-ty-preserved c = λ t.
    let listed = c.as_slice-listed.result.now in
    let i = c.loop-ty.ty-index in
    let one = c.ty-item.result in
    c.in_ok-insert.ensures.updates.0 t
    ∙ ap (λ (k : Ty). cond (is_eq (ty_cmp k t)) true (contains ty_cmp c.loop-ty.types t)) c.in_ok-try_clone.ensures
    ∙ one-more one t (contains ty_cmp c.loop-ty.types t)
    ∙ ap (λ (there : Bool). there || ty_eq t one) (c.loop-ty.invariant t)
    ∙ ap (λ (k : Ty). list_any (ty_eq t) (take i listed) || ty_eq t k) c.ty-item.is
    ∙ sym (list_any_more (ty_eq t) listed i one c.loop-ty-test.true)
