use Rattle.std.proofs.Common.{◌≡◌, map, take}
use Rattle.report_text.specs.Faults.{entry_text}
use Rattle.report_text.proofs.faults.entry_texts.Given as goal

abbrev pub invariant-loop-entry : goal.invariant-loop-entry
invariant-loop-entry l = l.texts ≡ map entry_text (take l.entry-index l.trail)
