use Rattle.std.proofs.Common.{◌≡◌, drop}
use Rattle.world_check.specs.Valid.{are_of_sorts}
use Rattle.world_check.proofs.valid.are_of_sorts.Given as goal

abbrev pub invariant-loop-i : goal.invariant-loop-i
invariant-loop-i l = are_of_sorts (drop l.i l.params) (drop l.i l.args) ≡ are_of_sorts l.params l.args
