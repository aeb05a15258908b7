-- The first of a list that fails a test.
use Rattle.std.specs.Prelude.{ℕ, ◌+◌, if◌then◌else◌, Bool, List, [], ◌∷◌, Option, Some, None}

-- the place of the first element that fails a test of its place and itself, with places counted from i
abbrev pub first_failing : {X : Type 0} → (ℕ → X → Bool) → ℕ → List X → Option ℕ
first_failing test i [] = None
first_failing test i (x ∷ xs) = if test i x then first_failing test (i + 1) xs else Some i
