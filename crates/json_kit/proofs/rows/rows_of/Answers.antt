use Rattle.std.proofs.lemmas.Result.{err_from_is_err_and}
use Rattle.serde_json.specs.View.{items_view}
use Rattle.json_kit.specs.Parts.{items_from}
use Rattle.json_kit.proofs.Arrays.{goes_on, ends, is_done}
use Rattle.json_kit.proofs.rows.rows_of.Goals as goal

pub returns-in_err-row : goal.returns-in_err-row
returns-in_err-row g c =
    let p = err_from_is_err_and c.from_residual.result c.from_residual.ensures.1 in
    let reads = g.R.FromJson.reads in
    rw (p.1, p.2) (ends reads c.in_err-row.field-0.0 c.loop-place.table c.args.items.now c.loop-place.place c.index-items-place.result (items_from reads 0 (items_view c.args.items.now)) c.loop-place-test.true c.index-items-place.is c.in_err-row.ensures c.loop-place.invariant)

pub loop-place-preserved : goal.loop-place-preserved
loop-place-preserved g c =
    let reads = g.R.FromJson.reads in
    rw c.in_ok-push.ensures.ok (goes_on reads c.loop-place.table c.args.items.now c.loop-place.place c.index-items-place.result c.in_ok-row.row (items_from reads 0 (items_view c.args.items.now)) c.loop-place-test.true c.index-items-place.is c.in_ok-row.ensures c.loop-place.invariant)

pub returns : goal.returns
returns g c =
    let reads = g.R.FromJson.reads in
    is_done reads c.loop-place.table c.args.items.now c.loop-place.place (items_from reads 0 (items_view c.args.items.now)) c.loop-place-test.false c.loop-place.invariant
