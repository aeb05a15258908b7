use Rattle.std.proofs.Common.{◌≡◌}
use Rattle.json_kit.specs.Hex.{hex_bytes}
use Rattle.json_kit.proofs.HexPairs.{with_front, rest_from}
use Rattle.json_kit.proofs.hex.pairs.Given as goal

abbrev pub invariant-loop-place : goal.invariant-loop-place
invariant-loop-place l = with_front l.bytes (rest_from l.digits l.place) ≡ hex_bytes l.digits
