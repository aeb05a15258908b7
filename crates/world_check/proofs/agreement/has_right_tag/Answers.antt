use Rattle.check_layouts.proofs.Decided.{same_answer, tag_answer}
use Rattle.world_check.proofs.agreement.has_right_tag.Goals as goal

pub returns : goal.returns
returns c = same_answer c.is_tag_right.result (tag_answer c.args.db.now c.args.row.now).0 c.is_tag_right.ensures (tag_answer c.args.db.now c.args.row.now).1
