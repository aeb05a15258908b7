use Rattle.std.proofs.Common.{◌∙◌, ap}
use Rattle.types.specs.Places.{place_at}
use Rattle.types.proofs.Places.{place_found}
use Rattle.types.proofs.table.Table.place_of.Goals as goal

pub returns : goal.returns
returns g c =
    c.copied.ensures ∙ c.get.ensures.value ∙ place_found _ _ (g.met.Q.Comparable.respects_cmp c.args.key) _ _ c.self.invariant
    ∙ ap (place_at g.R.Row.key (g.Q.Comparable.compare c.args.key)) c.self.view_is
