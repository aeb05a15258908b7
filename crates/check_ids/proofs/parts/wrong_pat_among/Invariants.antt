use Rattle.std.proofs.Common.{◌≡◌, true}
use Rattle.check_ids.specs.Nodes.{is_pat_in_range}
use Rattle.check_trees.proofs.Listed.{AllBefore}
use Rattle.check_ids.proofs.parts.wrong_pat_among.Given as goal

abbrev pub invariant-loop-i : goal.invariant-loop-i
invariant-loop-i l = AllBefore (λ k node. is_pat_in_range l.body node ≡ true) l.nodes l.i
