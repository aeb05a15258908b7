use Rattle.std.proofs.Common.{◌≡◌, sym, ◌∙◌, arith, length}
use Rattle.std.proofs.lemmas.Grind.{common_steps}
use Rattle.types.proofs.Places.{index_stays, index_adds}
use Rattle.types.proofs.table.Table.push.Goals as goal

pub invariant_of-self-then-contains_key : goal.invariant_of-self-then-contains_key
invariant_of-self-then-contains_key g c =
    rw c.in_ok-push.ensures.items (index_stays g.met.K.Ord.total _ _ _ _ _ c.self.invariant c.in_ok-key.ensures (sym c.contains_key.ensures ∙ c.if-contains_key.true))

pub invariant_of-self-2 : goal.invariant_of-self-2
invariant_of-self-2 g c =
    let at_end : c.len.result ≡ length c.self.inside.rows.items = grind (arith, common_steps, c.in_ok-reserve.ensures.items) in
    rw (c.in_ok-push-2.ensures.items, c.in_ok-reserve.ensures.items)
    (index_adds g.met.K.Ord.total _ _ _ _ _ _ c.len.result c.self.invariant c.in_ok-key.ensures (sym c.contains_key.ensures ∙ c.if-contains_key.false)
    at_end c.in_ok-insert.ensures.updates.0)
