use Rattle.std.proofs.Common.{◌≡◌, Some, length, sym, ap, ◌∙◌, rules}
use Rattle.mir_eval.proofs.RowSays.{one-byte}
use Rattle.mir_eval.proofs.blocks.byte_at.Goals as goal

pub returns-then-bytes-eq1 : goal.returns-then-bytes-eq1
returns-then-bytes-eq1 g c =
    let one : length c.in_ok-bytes.bytes.now ≡ 1 = search rules in
    record {
      cell = c.in_ok-cell.cell;
      lies = c.in_ok-cell.ensures;
      holds = c.in_ok-view.ensures ∙ ap Some (sym c.in_ok-bytes.ensures ∙ one-byte c.in_ok-bytes.bytes.now one);
    }
