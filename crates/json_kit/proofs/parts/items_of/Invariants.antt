use Rattle.std.proofs.Common.{◌≡◌}
use Rattle.serde_json.specs.View.{items_view}
use Rattle.json_kit.specs.Parts.{items_from}
use Rattle.json_kit.proofs.Arrays.{with_front, rest_from}
use Rattle.json_kit.proofs.parts.items_of.Given as goal

abbrev pub invariant-loop-place : goal.invariant-loop-place
invariant-loop-place g l = with_front (g.T.FromJson.reads) l.list (rest_from (g.T.FromJson.reads) l.items l.place) ≡ items_from (g.T.FromJson.reads) 0 (items_view l.items)
