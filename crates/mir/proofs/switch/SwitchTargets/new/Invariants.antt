use Rattle.std.proofs.Common.{◌≡◌, map, ℕ}
use Rattle.mir.specs.declared.ids.BasicBlockId.{BasicBlockId}
use Rattle.mir.proofs.switch.SwitchTargets.new.Given as goal

abbrev pub invariant-loop-value : goal.invariant-loop-value
invariant-loop-value g l = (goal.iterator-loop-value g).can_next l.value-iterator
    × (goal.iterator-loop-value g).is_finite l.value-iterator
    × (l.values.items ≡ map (λ (pair : ℕ × BasicBlockId). pair.0) l.yielded)
    × (l.blocks.items ≡ map (λ (pair : ℕ × BasicBlockId). pair.1) l.yielded)
