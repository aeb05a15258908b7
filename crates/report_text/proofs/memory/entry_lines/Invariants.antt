use Rattle.std.proofs.Common.{◌≡◌, ◌++◌}
use Rattle.std.specs.List.{flat_map}
use Rattle.report_text.specs.Memory.{entry_line}
use Rattle.report_text.proofs.memory.entry_lines.Given as goal

abbrev pub invariant-loop-address : goal.invariant-loop-address
invariant-loop-address l = l.out.items ++ flat_map entry_line l.address-iterator ≡ flat_map entry_line l.entries
