-- The addresses of cells that are placed behind bytes of the stack.
use Rattle.std.proofs.Common.{ℕ, ◌+◌, ◌<◌, ◌≤◌, List, [], ◌∷◌, length, drop, get_or, arith}
use Rattle.std.proofs.lemmas.List.{drop_more}
use Rattle.std.proofs.lemmas.Nat.{pow_pos}
use Rattle.world.specs.Checked.{IsAlignment}
use Rattle.mir.specs.declared.address.CellSize.{CellSize}
use Rattle.mir.specs.Areas.{end_behind, length_behind}

pub positive : (align : ℕ) → IsAlignment align → 0 < align
positive align (k, h, e) = let below = pow_pos k in omega arith

-- a stack with more cells is no shorter
pub length_behind-ge : (end : ℕ) (cells : List CellSize) → end ≤ length_behind end cells
unfolding length_behind
length_behind-ge end [] = omega arith
length_behind-ge end (cell ∷ cells) = let rest = length_behind-ge (end_behind end cell) cells in omega arith

-- if a cell ends past a bound, so does the stack with it and the cells after it
pub passes : (bound end i : ℕ) (cells : List CellSize) (d : CellSize) → i < length cells → bound < end_behind end (get_or cells i d) → bound < length_behind end (drop i cells)
unfolding length_behind
passes bound end i cells d h past =
    let rest = length_behind-ge (end_behind end (get_or cells i d)) (drop (i + 1) cells) in
    rw (drop_more cells i d h) (omega arith)
