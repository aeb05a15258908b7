use Rattle.check_items.proofs.Marking.{AreMarks}
use Rattle.check_items.proofs.listed.mark_misplaced.Given as goal

abbrev pub invariant-loop-e : goal.invariant-loop-e
invariant-loop-e l = AreMarks l.db l.e 0 l.marks

abbrev pub invariant-loop-i : goal.invariant-loop-i
invariant-loop-i l = AreMarks l.db l.e l.i l.marks
