-- What a source reaches that has no calls: itself.
use Rattle.std.proofs.Common.{subst}
use Rattle.source_meaning.specs.Core.{IsNoCall}
use Rattle.source_meaning.specs.Source.{Source}
use Rattle.source_meaning.specs.Valid.{IsPlain, Calls, Reaches, at_once, through, IsPlainThroughout, HasNoCalls}

calls_none : (source called : Source) → HasNoCalls source → Calls source called → ⊥
calls_none source called none calls = subst IsNoCall calls.is_call (none calls.e calls.evaluated)

-- what holds of a source without calls holds of all that it reaches
holds_throughout : (P : Source → Type 0) {source reached : Source} → HasNoCalls source → Reaches source reached → P source → P reached
holds_throughout P none at_once holds = holds
holds_throughout P none (through {source = source} {called = called} calls on) holds = absurd (calls_none source called none calls)

pub plain_throughout : (source : Source) → HasNoCalls source → IsPlain source → IsPlainThroughout source
plain_throughout source none plain = record { each = λ reached on. holds_throughout IsPlain none on plain }
