use Rattle.world_check.specs.Meets.{Meets}
use Rattle.world_check.specs.declared.fault.CheckRow.TheVariants.{C3}
use Rattle.world_check.proofs.Bodies.{ArePassed}
use Rattle.world_check.proofs.trees.wrong_label.Given as goal

abbrev pub invariant-loop-i : goal.invariant-loop-i
invariant-loop-i l = ArePassed (Meets C3 l.db) l.rows l.i
