-- Cells whose parts have addresses that a `usize` stands for, and offsets as the numbers that are counted with.
use Rattle.std.specs.Prelude.{◌≡◌, ℕ, ◌-◌, ◌^◌, ◌<◌, List, Some, min, slice_get}
use Rattle.mir.specs.declared.address.Interval.{Interval}
use Rattle.mir.specs.Addresses.{moved, usize_of}

-- a `usize` stands for the address behind a cell
abbrev pub HasEnd : Interval → Type 0
HasEnd cell = usize_of (moved cell.addr cell.size) < 2 ^ 64

-- for that behind each of these cells
abbrev pub HaveEnds : List Interval → Type 0
HaveEnds cells = (k : ℕ) (cell : Interval) → slice_get cells k ≡ Some cell → HasEnd cell

-- the greatest number of 128 bits, which is behind every cell
abbrev pub farthest : ℕ
farthest = 2 ^ 128 - 1

-- an offset as a number of 128 bits: the greatest one in place of a greater one
abbrev pub saturated : ℕ → ℕ
saturated offset = min offset farthest
