use Rattle.check_layouts.proofs.Sizing.{multiple_decides}
use Rattle.check_layouts.proofs.sizes.is_multiple_of.Goals as goal

pub returns : goal.returns
returns c = multiple_decides c.args.size c.args.align c.requires
