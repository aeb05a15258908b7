use Rattle.std.proofs.Common.{ap, subst}
use Rattle.std.specs.Prelude.{IfSome}
use Rattle.world.specs.declared.database.HirDatabase.{HirDatabase}
use Rattle.mir_rows.specs.Rows.{HasRows}
use Rattle.mir_rows.specs.Spots.{Prepared, prepared}
use Rattle.mir_eval.proofs.blocks.rows_of.Goals as goal

pub returns-clause-found : goal.returns-clause-found
returns-clause-found c =
    let frame = c.args.frame.now in
    subst (λ (code : Prepared). IfSome c.block.result (λ rows. HasRows code c.args.block.0 rows.now))
    (ap (λ (world : HirDatabase). prepared world frame.body.now.body) frame.world) c.block.ensures.found
