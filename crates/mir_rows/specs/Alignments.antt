-- The alignments of a world's layouts, as a test of numbers, which has one proof at most.
use Rattle.std.specs.Prelude.{◌≡◌, ℕ, zero, suc, ◌^◌, ◌||◌, ◌==◌, Bool, true, Some}
use Rattle.world.specs.declared.database.HirDatabase.{HirDatabase}
use Rattle.world.specs.declared.layout.Layout.{Layout}
use Rattle.types.specs.declared.ty.Ty.{Ty}
use Rattle.world.specs.Lookups.{layout_of}

-- a power of two whose exponent is at most a bound
unfoldable pub is_power_to : (most : ℕ) → ℕ → Bool
is_power_to zero n = n == 1
is_power_to (suc most) n = n == 2 ^ suc most || is_power_to most n

-- each layout of the world has an alignment that is a power of two up to 8192
abbrev pub HasAlignments : HirDatabase → Type 0
HasAlignments world = (ty : Ty) (layout : Layout) → layout_of world ty ≡ Some layout → is_power_to 13 layout.align ≡ true
