use Rattle.std.proofs.Common.{sym, inr, refl}
use Rattle.mir_mem.proofs.Bounds.{positive, passes}
use Rattle.mir_mem.proofs.placing.place.Goals as goal

pub next_multiple_of-start-requires-clause-nonzero : goal.next_multiple_of-start-requires-clause-nonzero
next_multiple_of-start-requires-clause-nonzero c =
    positive _ (c.requires.aligned c.loop-cell.cell-index record { size = 0; align = 0 } c.loop-cell-test.true)

pub returns-in_default-clause-err : goal.returns-in_default-clause-err
returns-in_default-clause-err c =
    let all = passes c.args.bound c.loop-cell.end c.loop-cell.cell-index c.args.cells.now record { size = 0; align = 0 } c.loop-cell-test.true (rw (sym c.next_multiple_of-start.ensures.value) c.in_default.ensures.none) in
    inr (refl, rw (sym c.loop-cell.invariant.length) all)
