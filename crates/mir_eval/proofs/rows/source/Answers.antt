use Rattle.std.proofs.Common.{◌≡◌, Some, sym, ap, ◌∙◌, refl, rules}
use Rattle.std.specs.List.{concat}
use Rattle.mir_rows.specs.declared.spots.Spot.TheVariants.{Whole}
use Rattle.mir.specs.Memory.{number_held}
use Rattle.mir_rows.specs.Spots.{spot_cell}
use Rattle.mir_eval.specs.Frames.{frame_of}
use Rattle.mir_mem.proofs.Joined.{concat_pieces_of}
use Rattle.mir_eval.proofs.RowSays.{lies-at, lies-whole, short-bytes, view-at}
use Rattle.mir_eval.proofs.rows.source.Goals as goal

pub returns-in_ok-cell_of-in-Whole : goal.returns-in_ok-cell_of-in-Whole
returns-in_ok-cell_of-in-Whole g c =
    let frame = frame_of c.args.frame.now in
    let memory = g.M.Memory.areas c.args.memory.now in
    let local = c.in-Whole.local in
    let cell = c.in_ok-cell_of-in-Whole.field-0 in
    let there : spot_cell (number_held memory c.args.frame.now.cells.now) c.args.frame.now.cells.now (Whole local) ≡ Some cell = search rules in
    view-at frame memory c.args.source.now (Whole local) cell c.view.result (lies-whole frame memory c.args.source.now local c.in-Whole.is) (record { there = there; within = refl }) c.view.ensures

pub returns-in_ok-find-in-At : goal.returns-in_ok-find-in-At
returns-in_ok-find-in-At g c =
    let at = c.in-At in
    let found = c.in_ok-find-in-At in
    view-at (frame_of c.args.frame.now) (g.M.Memory.areas c.args.memory.now) c.args.source.now at.spot found.field-0 c.view-in-At.result
    (lies-at (frame_of c.args.frame.now) (g.M.Memory.areas c.args.memory.now) c.args.source.now at.spot at.is) found.ensures c.view-in-At.ensures

pub returns-then-short : goal.returns-then-short
returns-then-short g c =
    short-bytes (frame_of c.args.frame.now) (g.M.Memory.areas c.args.memory.now) c.args.source.now c.in-Constant.short (concat c.of.result) c.in-Constant.is
    (sym c.bytes.ensures ∙ sym (concat_pieces_of c.bytes.result.now) ∙ ap concat (sym c.of.ensures))
