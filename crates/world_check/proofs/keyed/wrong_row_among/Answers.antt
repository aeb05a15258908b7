use Rattle.std.proofs.Common.{sym, ◌∙◌}
use Rattle.check_layouts.proofs.Failing.{failing_here, failing_next, failing_end}
use Rattle.world_check.proofs.keyed.wrong_row_among.Goals as goal

pub returns-then-not-is_known : goal.returns-then-not-is_known
returns-then-not-is_known g c =
    failing_here (g.R.KeyedRow.is_known c.args.db.now) c.args.rows.now c.loop-i.i c.index-rows-i.result c.index-rows-i.result _ c.loop-i-test.true c.index-rows-i.is (sym c.is_known.ensures ∙ c.if-not-is_known.true) c.loop-i.invariant

pub loop-i-preserved : goal.loop-i-preserved
loop-i-preserved g c =
    failing_next (g.R.KeyedRow.is_known c.args.db.now) c.args.rows.now c.loop-i.i c.index-rows-i.result c.index-rows-i.result _ c.loop-i-test.true c.index-rows-i.is (sym c.is_known.ensures ∙ c.if-not-is_known.false) c.loop-i.invariant

pub returns : goal.returns
returns g c = failing_end (g.R.KeyedRow.is_known c.args.db.now) c.args.rows.now c.loop-i.i _ c.loop-i-test.false c.loop-i.invariant
