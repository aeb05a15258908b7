use Rattle.world_check.specs.Meets.{Meets}
use Rattle.world_check.specs.declared.fault.CheckRow.TheVariants.{C7}
use Rattle.world_check.proofs.Bodies.{ArePassed}
use Rattle.world_check.proofs.trees.wrong_pattern.Given as goal

abbrev pub invariant-loop-i : goal.invariant-loop-i
invariant-loop-i l = ArePassed (Meets C7 l.db) l.rows l.i
