use Rattle.std.proofs.Common.{◌≡◌, ◌++◌}
use Rattle.types.proofs.map.MapTryClone.try_clone.Given as goal

abbrev pub invariant-loop-k : goal.invariant-loop-k
invariant-loop-k g l = l.copy ++ l.k-iterator ≡ l.self
