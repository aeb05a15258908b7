-- A `usize` stands for the address behind each cell of a memory whose stack keeps to its limit.
use Rattle.std.proofs.Common.{◌≡◌, ℕ, zero, suc, ◌+◌, ◌-◌, ◌^◌, ◌≤◌, Bool, true, false, List, [], ◌∷◌, ◌++◌, length, Option, Some, None, Result, Ok, Err, refl, ap, subst, arith, leb-true}
use Rattle.std.specs.Prelude.{IfSome, if◌then◌else◌, nat_le}
use Rattle.std.specs.Option.{option_to_list}
use Rattle.std.proofs.lemmas.Option.{same_Some}
use Rattle.mir.specs.declared.address.CellSize.{CellSize}
use Rattle.mir.specs.declared.address.Interval.{Interval}
use Rattle.mir.specs.declared.mem_fault.MemFault.TheVariants.{MemoryLimitExceeded}
use Rattle.mir.specs.declared.errors.MirEvalError.{MirEvalError}
use Rattle.mir.specs.Areas.{Areas, IsBounded, after_push, cells_behind, end_behind, grown_to, length_behind}
use Rattle.mir.specs.Memory.{pushed}
use Rattle.mir_mem.proofs.Bounds.{length_behind-ge}
use Rattle.mir_rows.specs.Places.{HasEnd, HaveEnds}

pub no_ends : HaveEnds []
no_ends k cell is = absurd cc

pub more_ends : (cell : Interval) (cells : List Interval) → HasEnd cell → HaveEnds cells → HaveEnds (cell ∷ cells)
more_ends cell cells one others zero other is = subst HasEnd (same_Some cell other is) one
more_ends cell cells one others (suc k) other is = others k other is

-- cells behind another one, where there is one
pub listed_ends : (first : Option Interval) (others : List Interval) → IfSome first HasEnd → HaveEnds others → HaveEnds (option_to_list first ++ others)
listed_ends None others one ends = ends
listed_ends (Some cell) others one ends = more_ends cell others one ends

-- cells that are placed behind a number of bytes
behind-ends : (end bound : ℕ) (cells : List CellSize) → length_behind end cells ≤ bound → bound ≤ 2 ^ 59 + 1 → HaveEnds (cells_behind end cells)
unfolding cells_behind length_behind
behind-ends end bound [] fits small = no_ends
behind-ends end bound (cell ∷ cells) fits small =
    let rest = length_behind-ge (end_behind end cell) cells in
    more_ends _ (cells_behind (end_behind end cell) cells) (omega (arith, rest, fits, small)) (behind-ends (end_behind end cell) bound cells fits small)

-- the cells of what was placed
abbrev cells_in : Result (List Interval × Areas) MirEvalError → List Interval
cells_in (Ok placed) = placed.0
cells_in (Err e) = []

-- cells that are pushed
pub pushed_ends : (areas after : Areas) (sizes : List CellSize) (cells : List Interval) → IsBounded areas → pushed (after_push areas sizes) ≡ Ok (cells, after) → HaveEnds cells
unfolding after_push
pushed_ends areas after sizes cells bounded is = by (nat_le (length_behind (length areas.stack) sizes - 1) areas.limit) refl is where
  by : (fits : Bool) → nat_le (length_behind (length areas.stack) sizes - 1) areas.limit ≡ fits
      → ◌≡◌ {A = Result (List Interval × Areas) MirEvalError} (pushed (if fits then Ok (cells_behind (length areas.stack) sizes, record areas { stack = grown_to (length_behind (length areas.stack) sizes) areas.stack }) else Err MemoryLimitExceeded)) (Ok (cells, after))
      → HaveEnds cells
  by true fits made =
      let same : cells_behind (length areas.stack) sizes ≡ cells = ap cells_in made in
      let within = leb-true (length_behind (length areas.stack) sizes - 1) areas.limit fits in
      let small = bounded.limit in
      subst HaveEnds same (behind-ends (length areas.stack) (areas.limit + 1) sizes (omega (arith, within)) (omega (arith, small)))
  by false fits made = absurd cc
