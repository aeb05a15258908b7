use Rattle.std.proofs.Common.{◌≡◌}
use Rattle.mir.specs.Switches.{otherwise_of, first_target, target_of}
use Rattle.mir.proofs.switch.SwitchTargets.target_for_value.Given as goal

abbrev pub invariant-loop-number : goal.invariant-loop-number
invariant-loop-number l = goal.iterator-loop-number.can_next l.number-iterator
    × goal.iterator-loop-number.is_finite l.number-iterator
    × (first_target l.number-iterator (otherwise_of l.self) l.value ≡ target_of l.self l.value)
