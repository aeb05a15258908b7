use Rattle.std.proofs.Common.{Ok, Err}
use Rattle.std.proofs.lemmas.Result.{err_from_is_err_and}
use Rattle.serde_json.specs.View.{view}
use Rattle.json_kit.specs.Fit.{item_step}
use Rattle.json_kit.specs.Maps.{entry_after}
use Rattle.json_kit.specs.Parts.{pair_of}
use Rattle.json_kit.proofs.Entries.{goes_on, ends, is_done}
use Rattle.json_kit.proofs.Faults.{inside_gives}
use Rattle.json_kit.proofs.maps.entries.Goals as goal

pub returns-in_err-key : goal.returns-in_err-key
returns-in_err-key g c =
    let p = err_from_is_err_and c.from_residual.result c.from_residual.ensures.1 in
    let cmp = g.K.Ord.cmp in
    let reads = pair_of g.K.FromJson.reads g.V.FromJson.reads in
    let v = c.index-items-place.result in
    let seen = inside_gives (item_step c.loop-place.place) c.entry.result (Err c.in_err-key.field-0.0) (entry_after cmp reads c.loop-place.last (view v)) c.in_err-key.ensures c.entry.ensures in
    rw (p.1, p.2) (ends cmp reads c.in_err-key.field-0.0 c.loop-place.map c.args.items.now c.loop-place.last c.loop-place.place v c.loop-place-test.true c.index-items-place.is seen c.loop-place.invariant)

pub loop-place-preserved : goal.loop-place-preserved
loop-place-preserved g c =
    let cmp = g.K.Ord.cmp in
    let reads = pair_of g.K.FromJson.reads g.V.FromJson.reads in
    let v = c.index-items-place.result in
    let seen = inside_gives (item_step c.loop-place.place) c.entry.result (Ok (c.in_ok-key.key, c.in_ok-key.value)) (entry_after cmp reads c.loop-place.last (view v)) c.in_ok-key.ensures c.entry.ensures in
    goes_on cmp reads g.met.K.Ord.total c.loop-place.map c.insert.new.self c.args.items.now c.loop-place.last c.loop-place.place v (c.in_ok-key.key, c.in_ok-key.value) c.loop-place-test.true c.index-items-place.is seen c.in_ok-insert.ensures.ok c.loop-place.invariant

pub returns : goal.returns
returns g c =
    let cmp = g.K.Ord.cmp in
    let reads = pair_of g.K.FromJson.reads g.V.FromJson.reads in
    is_done cmp reads c.loop-place.map c.args.items.now c.loop-place.last c.loop-place.place c.loop-place-test.false c.loop-place.invariant
