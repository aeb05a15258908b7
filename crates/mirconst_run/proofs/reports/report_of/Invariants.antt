use Rattle.std.proofs.Common.{◌≡◌, ◌++◌, drop}
use Rattle.mirconst_run.specs.Report.{report_from, report_text}
use Rattle.mirconst_run.proofs.reports.report_of.Given as goal

abbrev pub invariant-loop-i : goal.invariant-loop-i
invariant-loop-i l = l.out.items ++ report_from l.db l.i (drop l.i l.outcomes) ≡ report_text l.db l.outcomes
