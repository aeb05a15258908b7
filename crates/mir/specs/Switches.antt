-- Where a switch leads, by the number that it compares.
use Rattle.std.specs.Prelude.{Bool, ℕ, ◌==◌, if◌then◌else◌, List, [], ◌∷◌, ◌++◌, map}
use Rattle.std.specs.Ordering.{on, eq_of_both}
use Rattle.std.specs.Cmp.Lexicographic.{pointwise}
use Rattle.mir.specs.declared.ids.BasicBlockId.{BasicBlockId}
use Rattle.mir.specs.declared.switch.SwitchTargets.{SwitchTargets}

-- the target of the first pair whose value is a number, and else another target
unfoldable pub first_target : List (ℕ × BasicBlockId) → BasicBlockId → ℕ → BasicBlockId
first_target [] otherwise number = otherwise
first_target (pair ∷ pairs) otherwise number = if pair.0 == number then pair.1 else first_target pairs otherwise number

-- the values of a switch, each with its target, in order
abbrev pub pairs_of : SwitchTargets → List (ℕ × BasicBlockId)
pairs_of targets = targets.0

-- the target of every other number
abbrev pub otherwise_of : SwitchTargets → BasicBlockId
otherwise_of targets = targets.1

-- the values, in order
abbrev pub values_of : SwitchTargets → List ℕ
values_of targets = map (λ (pair : ℕ × BasicBlockId). pair.0) (pairs_of targets)

-- the targets of the values, in order, and last that of every other number
abbrev pub all_targets_of : SwitchTargets → List BasicBlockId
all_targets_of targets = map (λ (pair : ℕ × BasicBlockId). pair.1) (pairs_of targets) ++ otherwise_of targets ∷ []

-- the target of a number
unfoldable pub target_of : SwitchTargets → ℕ → BasicBlockId
target_of targets number = first_target (pairs_of targets) (otherwise_of targets) number

-- the same values and targets, in the same order
abbrev pub same_targets : SwitchTargets → SwitchTargets → Bool
same_targets = eq_of_both (on values_of (pointwise ◌==◌)) (on all_targets_of (pointwise (on (λ block. block.0) ◌==◌)))
