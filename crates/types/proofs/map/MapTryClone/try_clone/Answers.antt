use Rattle.std.proofs.Common.{sym, ◌∙◌}
use Rattle.std.proofs.lemmas.Map.Iter.{rest_more}
use Rattle.std.specs.Map.Iter.{deref_pair}
use Rattle.types.proofs.Ascending.{copied_further}
use Rattle.types.proofs.map.MapTryClone.try_clone.Goals as goal

pub loop-k-preserved-in_ok-insert : goal.loop-k-preserved-in_ok-insert
loop-k-preserved-in_ok-insert g c =
    copied_further g.met.K.Ord.total _ _ _ _ _ _ _ _ _ c.iter-k-items.ensures.ordered (c.loop-k.invariant ∙ sym c.self.view_is)
    (rest_more deref_pair _ _ _ _ c.in-Some.is c.next.ensures.steps) c.in_ok-key.ensures c.in_ok-value.ensures c.in_ok-insert.ensures.ok ∙ c.self.view_is

pub loop-k-preserved : goal.loop-k-preserved
loop-k-preserved g c =
    copied_further g.met.K.Ord.total _ _ _ _ _ _ _ _ _ c.iter-k-items.ensures.ordered (c.loop-k.invariant ∙ sym c.self.view_is)
    (rest_more deref_pair _ _ _ _ c.in-Some.is c.next.ensures.steps) c.in_ok-key.ensures c.in_ok-value.ensures c.in_ok-insert.ensures.ok ∙ c.self.view_is
