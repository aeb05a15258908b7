use Rattle.std.proofs.Common.{Option, sym, subst}
use Rattle.std.specs.Prelude.{IfSome}
use Rattle.mir.specs.declared.address.Interval.{Interval}
use Rattle.mir_rows.specs.Places.{HasEnd}
use Rattle.mir_rows.proofs.Walks.{at-ends}
use Rattle.mir_rows.proofs.places.place_cell.Goals as goal

pub returns-else-place-eq0-clause-ends : goal.returns-else-place-eq0-clause-ends
returns-else-place-eq0-clause-ends g c =
    subst (λ (found : Option Interval). IfSome found HasEnd) (sym c.cell_at.ensures)
    (at-ends c.args.db.now c.args.body.now (g.N.Numbers.held c.args.numbers.now) c.args.cells.now c.args.place _ c.requires)
