-- Heights that are known.
use Rattle.std.specs.Prelude.{◌≡◌, ℕ, List, [], ◌∷◌, Option, Some, None, nat_le, if◌then◌else◌}
use Rattle.world.specs.declared.database.HirDatabase.{HirDatabase}
use Rattle.source_meaning.specs.Heights.{height_among, heights}

-- a number, where it is at most some other
abbrev pub at_most : ℕ → (most : ℕ) → Option ℕ
at_most number most = if nat_le number most then Some number else None

-- each of these is the height at its place
unfoldable pub AreHeights : HirDatabase → List (ℕ × ℕ) → Type 0
AreHeights world [] = Unit {0}
AreHeights world (entry ∷ entries) = (height_among (heights world) (Some entry.0) ≡ entry.1) × AreHeights world entries
