use Rattle.std.proofs.Common.{sym, subst}
use Rattle.std.specs.Prelude.{All, List}
use Rattle.mir.specs.declared.address.CellSize.{CellSize}
use Rattle.mir_rows.proofs.SizedCells.{Aligned, sizes_aligned}
use Rattle.mir_eval.proofs.calls.other_cells.Goals as goal

pub push-requires : goal.push-requires
push-requires g c =
    subst (λ (sizes : List CellSize). All Aligned sizes) (sym c.as_ref.ensures) (sizes_aligned c.args.db.now c.requires.aligned c.args.locals.now c.in-Some.sizes.value (c.requires.sizes c.in-Some.sizes c.in-Some.is))
