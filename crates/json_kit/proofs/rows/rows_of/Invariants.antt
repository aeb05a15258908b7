use Rattle.std.proofs.Common.{◌≡◌}
use Rattle.serde_json.specs.View.{items_view}
use Rattle.json_kit.specs.Parts.{items_from}
use Rattle.json_kit.proofs.Arrays.{with_front, rest_from}
use Rattle.json_kit.proofs.rows.rows_of.Given as goal

abbrev pub invariant-loop-place : goal.invariant-loop-place
invariant-loop-place g l =
    let reads = g.R.FromJson.reads in
    with_front reads l.table (rest_from reads l.items l.place) ≡ items_from reads 0 (items_view l.items)
