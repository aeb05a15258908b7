use Rattle.std.proofs.Common.{◌≡◌, ◌++◌}
use Rattle.std.specs.List.{concat}
use Rattle.numbers.specs.Aggregates.{repeated}
use Rattle.mir_mem.proofs.construction.repeat.Given as goal

-- with what is left to be appended there are all
abbrev pub invariant-loop-left : goal.invariant-loop-left
invariant-loop-left l = l.all.items ++ repeated l.left (concat l.view) ≡ repeated l.initial.left (concat l.view)

abbrev pub decreases-loop-left : goal.decreases-loop-left
decreases-loop-left l = l.left
