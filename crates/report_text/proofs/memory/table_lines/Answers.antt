use Rattle.std.proofs.Common.{rules, ◌≡◌, ◌∙◌, ℕ, List, ◌++◌, ap, arith}
use Rattle.report_text.specs.Memory.{table_line}
use Rattle.report_text.proofs.Lines.{tables_more}
use Rattle.report_text.proofs.memory.table_lines.Goals as goal

pub loop-ty-preserved : goal.loop-ty-preserved
loop-ty-preserved c =
    let line = table_line c.args.db.now c.loop-ty.id c.ty-item.result in
    let written : c.as_slice.result.now ≡ line = search rules in
    let more = c.in_ok-push_all.ensures ∙ ap (λ (text : List ℕ). c.loop-ty.out.items ++ text) written in
    record {
      lines = tables_more c.args.db.now c.as_slice-items.result.now c.loop-ty.ty-index c.loop-ty.id c.ty-item.result _ _ c.loop-ty-test.true c.ty-item.is c.loop-ty.invariant.id c.loop-ty.invariant.lines more;
      id = omega (arith, c.loop-ty.invariant.id);
    }
