use Rattle.std.proofs.Common.{◌≡◌, ◌∙◌, ◌∷◌, [], ◌++◌, List, ap, arith, length, subst, sym}
use Rattle.std.proofs.lemmas.Grind.{common_steps}
use Rattle.std.specs.Result.{is_ok}
use Rattle.mir.specs.ProjectionIds.{AreIds}
use Rattle.mir.specs.Projections.{Interned, Projection}
use Rattle.mir.proofs.Interning.{ids_grow, pushed_law}
use Rattle.mir.proofs.projection_store.ProjectionStore.intern.Goals as goal

pub invariant_of-self-inside-2 : goal.invariant_of-self-inside-2
invariant_of-self-inside-2 c = (
  pushed_law (is_ok c.push.result) c.args.self.now c.reserve.new.self.items c.push.new.self.items c.args.projection c.as_slice.result.now
      (c.in_ok-reserve.ensures.items ∙ ap (λ (v : Interned). v.projections) c.self.view_is) c.push.ensures.items c.as_slice.ensures c.in_default.ensures.none c.requires,
  tt,
)

pub invariant_of-self-2 : goal.invariant_of-self-2
invariant_of-self-2 c =
    let at_end : c.len.result ≡ length c.self.inside.projections.items = grind (arith, common_steps) in
    subst (λ (kept : List Projection). AreIds kept c.insert.new.self.entries)
    (sym (c.in_ok-push.ensures.items ∙ ap (λ (kept : List Projection). kept ++ c.args.projection ∷ []) c.in_ok-reserve.ensures.items))
    (ids_grow c.self.inside.projections.items c.args.projection c.self.inside.ids.entries c.insert.new.self.entries c.in_ok-key.key (record { 0 = c.len.result })
    c.self.invariant c.in_ok-key.ensures at_end c.in_ok-insert.ensures.updates.0)
