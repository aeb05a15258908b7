use Rattle.check_trees.specs.Jumps.{IsJumpInside}
use Rattle.check_trees.proofs.Listed.{AllBefore}
use Rattle.check_trees.proofs.jumps.wrong_jump_among.Given as goal

abbrev pub invariant-loop-i : goal.invariant-loop-i
invariant-loop-i l = AllBefore (IsJumpInside l.body) l.exprs l.i
