use Rattle.std.proofs.Common.{ap}
use Rattle.std.specs.Option.{option_copied}
use Rattle.check_layouts.proofs.Deciding.{yes}
use Rattle.check_layouts.proofs.Elements.{counted_product, uncounted_product}
use Rattle.check_layouts.proofs.arrays.is_product.Goals as goal

pub returns-in-Some-len : goal.returns-in-Some-len
returns-in-Some-len c = counted_product c.args.len (option_copied c.args.element) c.in-Some-len.len c.in-Some.element.now c.args.size c.is_times.result c.in-Some-len.is (ap option_copied c.in-Some.is) c.is_times.ensures

pub returns-in-None-len : goal.returns-in-None-len
returns-in-None-len c = yes (uncounted_product c.args.len (option_copied c.args.element) c.in-Some.element.now c.args.size c.in-None-len.is (ap option_copied c.in-Some.is))
