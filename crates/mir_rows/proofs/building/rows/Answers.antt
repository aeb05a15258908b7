use Rattle.std.proofs.Common.{◌≡◌, ◌+◌, List, [], ◌∷◌, ◌++◌, take, refl, sym, subst, ◌∙◌}
use Rattle.mir_rows.specs.declared.row.Row.{Row}
use Rattle.mir_rows.specs.Rows.{AreRows}
use Rattle.mir_rows.specs.Spots.{prepared}
use Rattle.mir_rows.proofs.Rows.{rows-idle, rows-more}
use Rattle.mir_rows.proofs.building.rows.Goals as goal

pub loop-i-preserved-then-is_idle : goal.loop-i-preserved-then-is_idle
loop-i-preserved-then-is_idle c =
    rows-idle (prepared c.args.db.now c.args.body.now) c.args.statements.now c.index-statements-i.result c.loop-i.i c.loop-i.rows.items c.loop-i-test.true c.index-statements-i.is c.loop-i.invariant (sym c.is_idle.ensures ∙ c.if-is_idle.true)

pub loop-i-preserved : goal.loop-i-preserved
loop-i-preserved c =
    let at = c.loop-i in
    let row : Row = record { place = at.i; action = c.action.result } in
    let more : c.push.new.self.items ≡ at.rows.items ++ row ∷ [] = c.in_ok-push.ensures.items in
    subst (λ (rows : List Row). AreRows (prepared c.args.db.now c.args.body.now) c.args.statements.now (take (at.i + 1) c.args.statements.now) rows) (sym more)
    (rows-more (prepared c.args.db.now c.args.body.now) c.args.statements.now c.index-statements-i.result at.i at.rows.items c.loop-i-test.true c.index-statements-i.is at.invariant row (sym c.is_idle.ensures ∙ c.if-is_idle.false) refl c.action.ensures)
