use Rattle.std.proofs.Common.{Option, ap, ◌∙◌}
use Rattle.types.specs.declared.ty.Ty.{Ty}
use Rattle.mir.specs.Places.{cell_at, cell_behind}
use Rattle.mir_rows.proofs.Walks.{cell-by}
use Rattle.mir_rows.proofs.places.cell_at.Goals as goal

pub returns-in-Some-cell_of : goal.returns-in-Some-cell_of
returns-in-Some-cell_of g c =
    let held = g.N.Numbers.held c.args.numbers.now in
    let elements = c.in-Some.elements.now in
    let cell = c.in-Some-cell_of.cell in
    c.cell_behind.ensures
    ∙ ap (λ (ty : Option Ty). cell_behind c.args.db.now held elements ty cell) c.local_type.ensures
    ∙ cell-by c.args.db.now c.args.body.now held c.args.cells.now c.args.place elements cell c.in-Some-cell_of.ensures
    ∙ ap (cell_at c.args.db.now c.args.body.now held c.args.cells.now c.args.place) c.in-Some.ensures
