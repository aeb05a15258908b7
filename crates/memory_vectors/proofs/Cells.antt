-- The alignments of the cells that are placed.
use Rattle.std.proofs.Common.{zero, suc, [], ◌∷◌, All, refl, arith}
use Rattle.mir.specs.declared.address.CellSize.{CellSize}
use Rattle.world.specs.Checked.{IsAlignment}

abbrev pub Aligned : CellSize → Type 0
Aligned cell = IsAlignment cell.align

pub four-is-aligned : All Aligned (record { size = 4; align = 4 } ∷ [])
four-is-aligned zero d less = (2, omega arith, refl)
four-is-aligned (suc k) d less = absurd (omega arith)

pub one-and-eight-are : All Aligned (record { size = 1; align = 1 } ∷ record { size = 8; align = 8 } ∷ [])
one-and-eight-are zero d less = (0, omega arith, refl)
one-and-eight-are (suc zero) d less = (3, omega arith, refl)
one-and-eight-are (suc (suc k)) d less = absurd (omega arith)
