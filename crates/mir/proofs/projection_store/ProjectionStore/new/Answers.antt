use Rattle.mir.proofs.Interning.{first_ids_at}
use Rattle.mir.proofs.projection_store.ProjectionStore.new.Goals as goal

pub invariant_of-result-2 : goal.invariant_of-result-2
invariant_of-result-2 c =
    first_ids_at _ _ (rw (c.new-projections.ensures.items, c.new-2.ensures) at c.in_ok-push.ensures.items)
    (rw (c.new-ids.ensures.empty, c.new.ensures) at c.in_ok-insert.ensures.entries)
