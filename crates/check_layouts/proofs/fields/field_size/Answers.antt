use Rattle.std.proofs.Common.{sym}
use Rattle.check_instances.specs.Instances.{ty_instance}
use Rattle.check_layouts.proofs.Found.{found_right}
use Rattle.check_layouts.proofs.Kept.{fixed_at}
use Rattle.check_layouts.proofs.fields.field_size.Goals as goal

pub returns-in-Some-clause-size : goal.returns-in-Some-clause-size
returns-in-Some-clause-size c = c.size_at.ensures (ty_instance c.args.db.now.normals c.args.args.now c.args.ty.now) (fixed_at c.args.db.now c.args.args.now c.args.ty.now c.args.fixed c.in-Some.place c.in-Some.is c.requires.place)

pub returns-in-Some-get-clause-size : goal.returns-in-Some-get-clause-size
returns-in-Some-get-clause-size c = sym (found_right c.args.db.now c.args.i c.args.args.now c.args.ty.now c.args.sizes.now c.in-Some-get.size.now c.requires.sizes (sym c.in-Some-get.ensures))
