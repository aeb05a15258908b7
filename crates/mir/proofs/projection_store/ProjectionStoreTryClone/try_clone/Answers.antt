use Rattle.std.proofs.Common.{◌∙◌, ap, arith, refl}
use Rattle.std.proofs.lemmas.List.{take_all}
use Rattle.mir.specs.ProjectionCodes.{same_interned}
use Rattle.mir.specs.Projections.{Interned}
use Rattle.mir.proofs.Interning.{copied_more, ids_copied}
use Rattle.mir.proofs.projection_store.ProjectionStoreTryClone.try_clone.Goals as goal

pub loop-i-preserved : goal.loop-i-preserved
loop-i-preserved c = record {
  copied = c.in_ok-push.ensures.items
      ∙ copied_more c.as_slice-all.result.now c.loop-i.i c.index-all-i.result _ _ c.loop-i.invariant.copied c.in_ok-try_clone-2.ensures (omega arith) c.index-all-i.is;
  right = ids_copied c.as_slice-all.result.now c.loop-i.i c.index-all-i.result _ _ c.in_ok-try_clone.field-0 (record { 0 = c.loop-i.i }) c.loop-i.invariant.right
      c.in_ok-try_clone.ensures refl (omega arith) c.index-all-i.is c.in_ok-insert.ensures.updates.0;
}

pub returns : goal.returns
returns c =
    same_interned _ _
    (c.loop-i.invariant.copied ∙ take_all c.loop-i.i c.as_slice-all.result.now (omega arith) ∙ c.as_slice-all.ensures.value ∙ ap (λ (v : Interned). v.projections) c.self.view_is)
