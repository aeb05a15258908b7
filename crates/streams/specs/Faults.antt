-- Counts of failed reads and writes.
use Rattle.std.specs.Prelude.{◌≡◌, ℕ, ◌+◌, ◌-◌, ◌^◌, ◌<◌, min, ◌⊎◌}

-- A call failed between two counts of failures: the count rose, or it is at the greatest `u64`, where it stays.
abbrev pub HasCause : ℕ → ℕ → Type 0
HasCause before after = (before < after) ⊎ (after ≡ 2 ^ 64 - 1)

-- one more failure; the count stays at the greatest `u64`
abbrev pub one_more : ℕ → ℕ
one_more n = min (n + 1) (2 ^ 64 - 1)
