use Rattle.world_check.specs.Meets.{Meets}
use Rattle.world_check.specs.WorldPlaces.{of_table}
use Rattle.world_check.specs.declared.fault.CheckRow.TheVariants.{C1}
use Rattle.world_check.specs.declared.place.TableName.TheVariants.{Closures}
use Rattle.check_trees.proofs.First.{found_is}
use Rattle.world_check.proofs.FoundIds.{closures_found}
use Rattle.world_check.proofs.named.wrong_closure.Goals as goal

pub returns : goal.returns
returns c = found_is (Meets C1 c.args.db.now) (of_table Closures c.args.db.now.closures) _ c.wrong_table.result c.wrong_table.ensures (closures_found c.args.db.now)
