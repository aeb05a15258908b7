use Rattle.std.proofs.Common.{◌≡◌, ◌+◌, take}
use Rattle.report_text.specs.Memory.{table_lines}
use Rattle.report_text.proofs.memory.table_lines.Given as goal

abbrev pub invariant-loop-ty : goal.invariant-loop-ty
invariant-loop-ty l = record {
  lines : l.out.items ≡ table_lines l.db 1000 (take l.ty-index l.items);
  id : l.id ≡ 1000 + l.ty-index;
}
