use Rattle.check_ids.specs.declared.part.BodyPart.TheVariants as part
use Rattle.world_check.proofs.CheckedFacts.{checked_body}
use Rattle.world_check.proofs.callers.is_checked_body.Goals as goal

pub returns-in-Ok : goal.returns-in-Ok
returns-in-Ok c passed =
    let right = c.in-Ok.ensures.0 passed in
    checked_body c.args.db.now (record { body = c.args.body.now; infer = c.args.infer.now }) (right.parts part.Rest) right.exprs
