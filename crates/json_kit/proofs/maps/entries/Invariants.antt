use Rattle.json_kit.specs.Parts.{pair_of}
use Rattle.json_kit.proofs.Entries.{Reading}
use Rattle.json_kit.proofs.maps.entries.Given as goal

abbrev pub invariant-loop-place : goal.invariant-loop-place
invariant-loop-place g l = Reading g.K.Ord.cmp (pair_of g.K.FromJson.reads g.V.FromJson.reads) l.map l.items l.last l.place
